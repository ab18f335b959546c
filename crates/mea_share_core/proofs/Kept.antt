-- what maps of numbers stand for
use Rattle.std.proofs.Common.{◌≡◌, ◌≤◌, ℕ, suc, zero, ◌+◌, ◌-◌, false, cond, List, [], ◌∷◌, nat_eq, Option, Some, None, IsSome, is_some, refl, ap, sym, ◌∙◌, arith}
use Rattle.std.specs.Ordering.{nat_cmp, is_gt}
use Rattle.std.specs.Cmp.{nat_cmp_total}
use Rattle.std.proofs.lemmas.Bool.Decides.{nat_tests}
use Rattle.std.specs.FinMap.{get, insert, remove, len, get-empty, len-empty, len-insert, len-remove, empty_of_len}
use Rattle.mea_base.specs.Named.{at}
use Rattle.std.specs.Map.{lookup}
use Rattle.std.specs.BTreeMap.{is_at}
use Rattle.mea_base.proofs.NamedMaps.{kept-at, same_named, is_at-eq, named_put, named_remove, named_none}
use Rattle.mea_share_core.specs.Share.{Numbers, kept, Share, new_share, held_of, waiting_of}
use Rattle.mea_base.proofs.Maps.{is_some_of, not_none}

-- entries that answer alike stand for one map
pub kept-same : {X : Type 0} (es fs : List (ℕ × X)) → ((q : ℕ) → at fs q ≡ at es q) → kept fs ≡ kept es
kept-same es fs alike = same_named (kept fs) (kept es) (λ q. kept-at fs q ∙ alike q ∙ sym (kept-at es q))

-- ---- maps whose keys are in order test a number by its comparison
tree-at : {X : Type 0} (es : List (ℕ × X)) (q : ℕ) → lookup (is_at (nat_cmp q)) es ≡ at es q
tree-at [] q = refl
tree-at (e ∷ es) q = ap (λ b. cond b (Some e.1) (lookup (is_at (nat_cmp q)) es)) (is_at-eq q e.0) ∙ ap (cond (nat_eq q e.0) (Some e.1)) (tree-at es q)

pub tree-kept : {X : Type 0} (es : List (ℕ × X)) (q : ℕ) → get (kept es) q ≡ lookup (is_at (nat_cmp q)) es
tree-kept es q = kept-at es q ∙ sym (tree-at es q)

tree-changed : {X : Type 0} (es fs : List (ℕ × X)) (k : ℕ) (o : Option X)
    → ((q : ℕ) → lookup (is_at (nat_cmp q)) fs ≡ cond (is_at (nat_cmp k) q) o (lookup (is_at (nat_cmp q)) es)) → (q : ℕ)
    → at fs q ≡ cond (nat_eq k q) o (at es q)
tree-changed es fs k o h q =
    sym (tree-at fs q) ∙ h q ∙ ap (λ b. cond b o (lookup (is_at (nat_cmp q)) es)) (is_at-eq k q) ∙ ap (cond (nat_eq k q) o) (tree-at es q)

pub tree_put : {X : Type 0} (es fs : List (ℕ × X)) (k : ℕ) (v : X)
    → ((q : ℕ) → lookup (is_at (nat_cmp q)) fs ≡ cond (is_at (nat_cmp k) q) (Some v) (lookup (is_at (nat_cmp q)) es)) → kept fs ≡ insert (kept es) k v
tree_put es fs k v h = named_put (λ k x. x) es fs k v (tree-changed es fs k (Some v) h)

pub tree_remove : {X : Type 0} (es fs : List (ℕ × X)) (k : ℕ)
    → ((q : ℕ) → lookup (is_at (nat_cmp q)) fs ≡ cond (is_at (nat_cmp k) q) None (lookup (is_at (nat_cmp q)) es)) → kept fs ≡ remove (kept es) k
tree_remove es fs k h = named_remove (λ k x. x) es fs k (tree-changed es fs k None h)

-- ---- how many numbers there are
flag : {X : Type 0} (o : Option X) → o ≡ None → is_some o ≡ false
flag o is = ap is_some is

pub len-more : {X : Type 0} (m : Numbers X) (k : ℕ) (x : X) → get m k ≡ None → len (insert m k x) ≡ len m + 1
len-more m k x none = len-insert nat_cmp_total m k x ∙ ap (λ b. cond b (len m) (len m + 1)) (flag (get m k) none)

pub len-again : {X : Type 0} (m : Numbers X) (k : ℕ) (x : X) → IsSome (get m k) → len (insert m k x) ≡ len m
len-again m k x some = len-insert nat_cmp_total m k x ∙ ap (λ b. cond b (len m) (len m + 1)) some

empty_has : {X : Type 0} (m : Numbers X) (k : ℕ) → len m ≡ 0 → IsSome (get m k) → ⊥
empty_has {X} m k none some = not_none (get m k) some (ap (λ n. get n k) (empty_of_len m none) ∙ get-empty nat_cmp k)

pub len-fewer : {X : Type 0} (m : Numbers X) (k : ℕ) → IsSome (get m k) → len (remove m k) + 1 ≡ len m
len-fewer m k some =
    let removes : len (remove m k) ≡ len m - 1 = len-remove nat_cmp_total m k ∙ ap (λ b. cond b (len m - 1) (len m)) some in
    by_len (len m) refl removes
  where
    by_len : (n : ℕ) → len m ≡ n → len (remove m k) ≡ len m - 1 → len (remove m k) + 1 ≡ len m
    by_len zero none removes = absurd (empty_has m k none some)
    by_len (suc n) more removes = omega (arith, more, removes)

-- ---- the least number
pub first_there : {X : Type 0} (es : List (ℕ × X)) (n : ℕ) (x : X) → lookup (is_at (nat_cmp n)) es ≡ Some x → IsSome (get (kept es) n)
first_there es n x is = is_some_of (Some x) (get (kept es) n) (sym is ∙ sym (tree-kept es n)) refl

not_above : (n m : ℕ) → is_gt (nat_cmp n m) ≡ false → n ≤ m
not_above n m is = grind (arith, nat_tests)

pub first_least : {X : Type 0} (es : List (ℕ × X)) (n : ℕ) → ((q : ℕ) → IsSome (lookup (is_at (nat_cmp q)) es) → is_gt (nat_cmp n q) ≡ false)
    → (m : ℕ) → IsSome (get (kept es) m) → n ≤ m
first_least es n lower m some = not_above n m (lower m (is_some_of (get (kept es) m) (lookup (is_at (nat_cmp m)) es) (tree-kept es m) some))

pub none-len : {X : Type 0} (es : List (ℕ × X)) → es ≡ [] → len (kept es) ≡ 0
none-len {X} es is = ap len (named_none es is) ∙ len-empty nat_cmp X

-- of a share of which nothing is left
pub idle_share : {W : Type 0} (s : Share W) → s.weight ≡ 1 → held_of s ≡ 0 → waiting_of s ≡ 0 → s ≡ new_share
idle_share s one none nobody =
    let no_permit : s.living ≡ 0 = omega (arith, none) in
    let not_one : len s.admitted ≡ 0 = omega (arith, none) in
    let e1 = empty_of_len s.admitted not_one in
    let e2 = empty_of_len s.waiting nobody in
    λ i. record { weight = one i; living = no_permit i; admitted = e1 i; waiting = e2 i }
