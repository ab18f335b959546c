-- sums over a finite map, after a change
use Rattle.std.proofs.Common.{◌≡◌, ℕ, ◌+◌, ◌-◌, ◌<◌, ◌≤◌, ◌==◌, ◌&&◌, Bool, true, false, cond, T, length, is_some, zero, suc, List, [], ◌∷◌, Option, Some, None, refl, ap, sym, ◌∙◌, arith, sum_by}
use Rattle.std.specs.Ordering.{nat_cmp, is_eq, is_lt, eq_by_cmp}
use Rattle.std.specs.declared.cmp.Ordering.{Ordering}
use Rattle.std.specs.declared.cmp.Ordering.TheVariants.{Less, Equal, Greater}
use Rattle.std.specs.Cmp.{nat_cmp_total}
use Rattle.std.specs.FinMap.{FinMap, find, put, is_sorted, get, insert, remove, empty, entries, entries_sorted, entries-insert, get-entries, get-insert, get-remove, get-empty, len-empty, len-entries, len-remove, len, contains_key, empty_of_len, same_map, nat_cmp-IsAntisymmetric}
use Rattle.std.specs.FinMap.Entries.{below_all, by_order}
use Rattle.std.proofs.lemmas.Bool.{eqb-true, eq-eqb, ne_eqb}
use Rattle.std.proofs.lemmas.Bool.Decides.{nat_tests}
use Rattle.std.proofs.lemmas.List.Sums.{sum_by-cons}
use Rattle.mea_base.specs.Totals.{total, weight}
use Rattle.mea_base.proofs.Tests.{same_test}

both_first : (a b : Bool) → T (a && b) → T a
both_first true b p = tt
both_first false b p = absurd p

both_second : (a b : Bool) → T (a && b) → T b
both_second true b p = p
both_second false b p = absurd p

is_less : (o : Ordering) → T (is_lt o) → o ≡ Less
is_less Less p = refl
is_less Equal p = absurd p
is_less Greater p = absurd p

less_lt : (a b : ℕ) → nat_cmp a b ≡ Less → a < b
less_lt a b h = grind (arith, nat_tests)

equal_eq : (a b : ℕ) → nat_cmp a b ≡ Equal → a ≡ b
equal_eq a b h = nat_cmp-IsAntisymmetric a b h

greater_gt : (a b : ℕ) → nat_cmp a b ≡ Greater → b < a
greater_gt a b h = grind (arith, nat_tests)

nil_of_length : {A : Type 0} (es : List A) → length es ≡ 0 → es ≡ []
nil_of_length [] e = refl
nil_of_length (x ∷ es) e = absurd (omega arith)

module _ {X : Type 0} where
  -- what is not above a key that is below all is not there
  below_none : (k x : ℕ) (es : List (ℕ × X)) → k ≤ x → T (below_all nat_cmp x es) → find nat_cmp k es ≡ None
  below_none k x [] small below = refl
  below_none k x (e ∷ es) small below =
      let lt : x < e.0 = less_lt x e.0 (is_less (nat_cmp x e.0) (both_first (is_lt (nat_cmp x e.0)) (below_all nat_cmp x es) below)) in
      let apart : eq_by_cmp nat_cmp k e.0 ≡ false = same_test k e.0 ∙ ne_eqb e.0 k (λ same. omega arith) in
      ap (λ b. cond b (Some e.1) (find nat_cmp k es)) apart ∙ below_none k x es small (both_second _ _ below)

  sum-put : (f : ℕ → X → ℕ) (k : ℕ) (v : X) (es : List (ℕ × X)) → T (is_sorted nat_cmp es)
      → sum_by (λ (e : ℕ × X). f e.0 e.1) (put nat_cmp k v es) + weight f k (find nat_cmp k es) ≡ sum_by (λ (e : ℕ × X). f e.0 e.1) es + f k v
  sum-put f k v [] sorted = omega arith
  sum-put f k v (e ∷ es) sorted = at_order (nat_cmp k e.0) refl (sum-put f k v es (both_second _ _ sorted))
    where
      w : ℕ × X → ℕ
      w e = f e.0 e.1

      at_order : (r : Ordering) → nat_cmp k e.0 ≡ r
          → sum_by (λ (d : ℕ × X). f d.0 d.1) (put nat_cmp k v es) + weight f k (find nat_cmp k es) ≡ sum_by (λ (d : ℕ × X). f d.0 d.1) es + f k v
          → sum_by (λ (d : ℕ × X). f d.0 d.1) (by_order r ((k, v) ∷ e ∷ es) ((e.0, v) ∷ es) (e ∷ put nat_cmp k v es)) + weight f k
          (cond (is_eq r) (Some e.1) (find nat_cmp k es)) ≡ sum_by (λ (d : ℕ × X). f d.0 d.1) (e ∷ es) + f k v
      at_order Less is more =
          let lt : k < e.0 = less_lt k e.0 is in
          let none : find nat_cmp k es ≡ None = below_none k e.0 es (omega arith) (both_first _ _ sorted) in
          let nothing : weight f k (find nat_cmp k es) ≡ 0 = ap (weight f k) none in
          omega (arith, nothing, sum_by-cons (λ (d : ℕ × X). f d.0 d.1) (k, v) (e ∷ es))
      at_order Equal is more =
          let same : k ≡ e.0 = equal_eq k e.0 is in
          let news : f e.0 v ≡ f k v = ap (λ q. f q v) (sym same) in
          let olds : f e.0 e.1 ≡ f k e.1 = ap (λ q. f q e.1) (sym same) in
          omega (arith, news, olds, sum_by-cons (λ (d : ℕ × X). f d.0 d.1) (e.0, v) es, sum_by-cons (λ (d : ℕ × X). f d.0 d.1) e es)
      at_order Greater is more =
          omega (arith, more, sum_by-cons (λ (d : ℕ × X). f d.0 d.1) e es, sum_by-cons (λ (d : ℕ × X). f d.0 d.1) e (put nat_cmp k v es))

  sum-same : (f g : ℕ → X → ℕ) (es : List (ℕ × X)) → T (is_sorted nat_cmp es) → ((k : ℕ) (v : X) → find nat_cmp k es ≡ Some v → f k v ≡ g k v)
      → sum_by (λ (e : ℕ × X). f e.0 e.1) es ≡ sum_by (λ (e : ℕ × X). g e.0 e.1) es
  sum-same f g [] sorted same = refl
  sum-same f g (e ∷ es) sorted same =
      let head : f e.0 e.1 ≡ g e.0 e.1 = same e.0 e.1 (ap (λ b. cond b (Some e.1) (find nat_cmp e.0 es)) (same_test e.0 e.0 ∙ eq-eqb e.0 e.0 refl)) in
      let rest = sum-same f g es (both_second (below_all nat_cmp e.0 es) (is_sorted nat_cmp es) sorted) (λ k v there. same k v (
      let later : eq_by_cmp nat_cmp k e.0 ≡ false = same_test k e.0
      ∙ ne_eqb e.0 k (λ is. absurd
      (let none : find nat_cmp k es ≡ None = below_none k e.0 es (omega arith)
      (both_first (below_all nat_cmp e.0 es) (is_sorted nat_cmp es) sorted) in cc)) in
      ap (λ b. cond b (Some e.1) (find nat_cmp k es)) later ∙ there)) in
      omega (arith, head, rest, sum_by-cons (λ (d : ℕ × X). f d.0 d.1) e es, sum_by-cons (λ (d : ℕ × X). g d.0 d.1) e es)

  sum-plus : (f g : ℕ → X → ℕ) (es : List (ℕ × X)) → sum_by (λ (e : ℕ × X). f e.0 e.1 + g e.0 e.1) es ≡ sum_by (λ (e : ℕ × X). f e.0 e.1) es + sum_by
      (λ (e : ℕ × X). g e.0 e.1) es
  sum-plus f g [] = refl
  sum-plus f g (e ∷ es) = omega (
    arith,
    sum-plus f g es,
    sum_by-cons (λ (d : ℕ × X). f d.0 d.1) e es,
    sum_by-cons (λ (d : ℕ × X). g d.0 d.1)
        e es,
    sum_by-cons (λ (d : ℕ × X). f d.0 d.1 + g d.0 d.1) e es,
  )

  sum-none : (es : List (ℕ × X)) → sum_by (λ (e : ℕ × X). 0) es ≡ 0
  sum-none [] = refl
  sum-none (e ∷ es) = omega (arith, sum-none es, sum_by-cons (λ (d : ℕ × X). 0) e es)

  -- ---- the lemmas for callers
  pub get_inserted : (m : FinMap nat_cmp X) (k q : ℕ) (v : X) → get (insert m k v) q ≡ cond (k == q) (Some v) (get m q)
  get_inserted m k q v = get-insert nat_cmp_total m k v q ∙ ap (λ b. cond b (Some v) (get m q)) (same_test q k)

  pub get_removed : (m : FinMap nat_cmp X) (k q : ℕ) → get (remove m k) q ≡ cond (k == q) None (get m q)
  get_removed m k q = get-remove nat_cmp_total m k q ∙ ap (λ b. cond b None (get m q)) (same_test q k)

  pub total-empty : (f : ℕ → X → ℕ) → total f (empty {X = X} {R = nat_cmp}) ≡ 0
  total-empty f = ap (sum_by (λ (e : ℕ × X). f e.0 e.1))
      (nil_of_length (entries (empty {X = X} {R = nat_cmp})) (sym (len-entries (empty {X = X} {R = nat_cmp})) ∙ len-empty nat_cmp X))

  pub total-insert : (f : ℕ → X → ℕ) (m : FinMap nat_cmp X) (k : ℕ) (v : X) → total f (insert m k v) + weight f k (get m k) ≡ total f m + f k v
  total-insert f m k v =
      ap (λ es. sum_by (λ (e : ℕ × X). f e.0 e.1) es + weight f k (get m k)) (entries-insert nat_cmp_total m k v)
      ∙ ap (λ o. sum_by (λ (e : ℕ × X). f e.0 e.1) (put nat_cmp k v (entries m)) + weight f k o) (get-entries m k)
      ∙ sum-put f k v (entries m) (entries_sorted m)

  pub total-remove : (f : ℕ → X → ℕ) (m : FinMap nat_cmp X) (k : ℕ) → total f (remove m k) + weight f k (get m k) ≡ total f m
  total-remove f m k = at_value (get m k) refl
    where
      at_value : (o : Option X) → get m k ≡ o → total f (remove m k) + weight f k o ≡ total f m
      at_value None is =
          let same : remove m k ≡ m = same_map nat_cmp_total nat_cmp-IsAntisymmetric _ _ (λ q. get_removed m k q ∙
          (elim (k == q) as (λ b. (k == q) ≡ b → cond b None (get m q) ≡ get m q) [
            | true ↦ λ e. sym (ap (get m) (sym (eqb-true k q e)) ∙ is)
            | false ↦ λ e. refl
          ] refl)) in
          let sums : total f (remove m k) ≡ total f m = ap (total f) same in
          omega (arith, sums)
      at_value (Some v) is =
          let back : insert (remove m k) k v ≡ m = same_map nat_cmp_total nat_cmp-IsAntisymmetric _ _
          (λ q. get_inserted (remove m k) k q v ∙ ap (cond (k == q) (Some v)) (get_removed m k q) ∙
          (elim (k == q) as (λ b. (k == q) ≡ b → cond b (Some v) (cond b None (get m q)) ≡ get m q) [
            | true ↦ λ e. sym (ap (get m) (sym (eqb-true k q e)) ∙ is)
            | false ↦ λ e. refl
          ] refl)) in
          let gone : weight f k (get (remove m k) k) ≡ 0 = ap (weight f k) (get_removed m k k ∙ ap (λ b. cond b None (get m k)) (eq-eqb k k refl)) in
          let sums : total f (insert (remove m k) k v) ≡ total f m = ap (total f) back in
          omega (arith, gone, sums, total-insert f (remove m k) k v)

  pub total-same : (f g : ℕ → X → ℕ) (m : FinMap nat_cmp X) → ((k : ℕ) (v : X) → get m k ≡ Some v → f k v ≡ g k v) → total f m ≡ total g m
  total-same f g m same = sum-same f g (entries m) (entries_sorted m) (λ k v there. same k v (get-entries m k ∙ there))

  pub total-plus : (f g : ℕ → X → ℕ) (m : FinMap nat_cmp X) → total (λ k v. f k v + g k v) m ≡ total f m + total g m
  total-plus f g m = sum-plus f g (entries m)

  pub total-zero : (f : ℕ → X → ℕ) (m : FinMap nat_cmp X) → ((k : ℕ) (v : X) → get m k ≡ Some v → f k v ≡ 0) → total f m ≡ 0
  total-zero f m none = total-same f (λ k v. 0) m none ∙ sum-none (entries m)

  -- a weight at one name
  pub total-point : (m : FinMap nat_cmp X) (k n : ℕ) (v : X) → get m k ≡ Some v → total (λ q x. cond (k == q) n 0) m ≡ n
  total-point m k n v there =
      let others : total (λ q x. cond (k == q) n 0) (remove m k) ≡ 0 = total-zero (λ q x. cond (k == q) n 0) (remove m k) (λ q x is.
      elim (k == q) as (λ b. cond b None (get m q) ≡ Some x → cond b n 0 ≡ 0) [ true ↦ λ t. absurd (cc) | false ↦ λ t. refl ] (sym (get_removed m k q) ∙ is)) in
      let here : weight (λ q (x : X). cond (k == q) n 0) k (get m k) ≡ n =
      ap (weight (λ q (x : X). cond (k == q) n 0) k) there ∙ ap (λ b. cond b n 0) (eq-eqb k k refl) in
      omega (arith, others, here, total-remove (λ q x. cond (k == q) n 0) m k)

  total-left : (f : ℕ → X → ℕ) (m : FinMap nat_cmp X) → len m ≡ 0 → total f m ≡ 0
  total-left f m none = ap (total f) (empty_of_len m none) ∙ total-empty f

  get-left : (m : FinMap nat_cmp X) (k : ℕ) → len m ≡ 0 → get m k ≡ None
  get-left m k none = ap (λ n. get n k) (empty_of_len m none) ∙ get-empty nat_cmp k

  -- some entry of a map that has one
  an_entry : (m : FinMap nat_cmp X) (es : List (ℕ × X)) → entries m ≡ es → 0 < length es → (k : ℕ) × (v : X) × (get m k ≡ Some v)
  an_entry m [] is some = absurd (omega arith)
  an_entry m (e ∷ es) is some = (
    e.0,
    e.1,
    get-entries m e.0 ∙ ap (find nat_cmp e.0) is
        ∙ ap (λ b. cond b (Some e.1) (find nat_cmp e.0 es)) (same_test e.0 e.0 ∙ eq-eqb e.0 e.0 refl),
  )

  pub weight-zero : (f : ℕ → X → ℕ) (m : FinMap nat_cmp X) → ((k : ℕ) → weight f k (get m k) ≡ 0) → total f m ≡ 0
  weight-zero f m none = total-zero f m (λ k v is. sym (ap (weight f k) is) ∙ none k)

weight-removed : {X Y : Type 0} (f : ℕ → X → ℕ) (g : ℕ → Y → ℕ) (m : FinMap nat_cmp X) (n : FinMap nat_cmp Y) (j k : ℕ)
    → weight f k (get m k) ≡ weight g k (get n k) → weight f k (get (remove m j) k) ≡ weight g k (get (remove n j) k)
weight-removed f g m n j k same = ap (weight f k) (get_removed m j k)
    ∙ (elim (j == k) as (λ b. weight f k (cond b None (get m k)) ≡ weight g k (cond b None (get n k))) [ true ↦ refl | false ↦ same ])
    ∙ sym (ap (weight g k) (get_removed n j k))

alike-by : {X Y : Type 0} (c : ℕ) (f : ℕ → X → ℕ) (g : ℕ → Y → ℕ) (m : FinMap nat_cmp X) (n : FinMap nat_cmp Y) → len m ≡ c
    → ((k : ℕ) → weight f k (get m k) ≡ weight g k (get n k)) → total f m ≡ total g n
alike-by zero f g m n is same = total-left f m is ∙ sym (weight-zero g n (λ k. sym (same k) ∙ ap (weight f k) (get-left m k is)))
alike-by (suc c) f g m n is same =
    let one = an_entry m (entries m) refl (let all : length (entries m) ≡ suc c = sym (len-entries m) ∙ is in omega arith) in
    let has : contains_key m one.0 ≡ true = ap is_some one.2 in
    let fewer : len (remove m one.0) ≡ c = len-remove nat_cmp_total m one.0 ∙ ap (λ b. cond b (len m - 1) (len m)) has
    ∙ (let less : len m - 1 ≡ c = omega arith in less) in
    let rest : total f (remove m one.0) ≡ total g (remove n one.0) =
    alike-by c f g (remove m one.0) (remove n one.0) fewer (λ k. weight-removed f g m n one.0 k (same k)) in
    omega (arith, rest, same one.0, total-remove f m one.0, total-remove g n one.0)

-- two maps whose names weigh alike
pub total-alike : {X Y : Type 0} (f : ℕ → X → ℕ) (g : ℕ → Y → ℕ) (m : FinMap nat_cmp X) (n : FinMap nat_cmp Y)
    → ((k : ℕ) → weight f k (get m k) ≡ weight g k (get n k)) → total f m ≡ total g n
total-alike f g m n same = alike-by (len m) f g m n refl same
