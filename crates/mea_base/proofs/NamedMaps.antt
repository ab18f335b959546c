-- what a change of a `HashMap` does to the finite map that it stands for
use Rattle.std.proofs.Common.{is_some, nat_eq, ◌≡◌, ℕ, ◌==◌, Bool, true, false, cond, List, [], ◌∷◌, map, Option, Some, None, refl, ap, sym, ◌∙◌, arith}
use Rattle.std.specs.Option.{option_map}
use Rattle.std.specs.Ordering.{nat_cmp, is_eq}
use Rattle.std.specs.declared.cmp.Ordering.{Ordering}
use Rattle.std.specs.declared.cmp.Ordering.TheVariants.{Less, Equal, Greater}
use Rattle.std.specs.Cmp.{nat_cmp_total}
use Rattle.std.specs.BTreeMap.{is_at}
use Rattle.std.specs.FinMap.{FinMap, find, get, insert, remove, entries, get-entries, get-from_entries, get-insert, get-remove, same_map, nat_cmp-IsAntisymmetric, empty, get-empty}
use Rattle.std.proofs.lemmas.Bool.{eqb-true, eq-eqb}
use Rattle.std.proofs.lemmas.Bool.Decides.{nat_tests}
use Rattle.mea_base.specs.Named.{named, at, ChangesAt}
use Rattle.mea_base.proofs.Tests.{same_test, last_stays}

order_equal : (o : Ordering) → is_eq o ≡ true → o ≡ Equal
order_equal Less h = absurd (cc)
order_equal Equal h = refl
order_equal Greater h = absurd (cc)

pub same_key : (q k : ℕ) → is_at (nat_cmp q) k ≡ true → q ≡ k
same_key q k h = nat_cmp-IsAntisymmetric q k (order_equal (nat_cmp q k) h)

-- the map's own test of two names is their equality
pub is_at-eq : (k q : ℕ) → is_at (nat_cmp k) q ≡ (k == q)
is_at-eq k q = grind (arith, nat_tests)

find-named : {X Y : Type 0} (f : ℕ → X → Y) (es : List (ℕ × X)) (q : ℕ) → find nat_cmp q (map (λ (e : ℕ × X). (e.0, f e.0 e.1)) es) ≡ option_map (f q) (at es q)
find-named f [] q = refl
find-named f (e ∷ es) q =
    ap (λ b. cond b (Some (f e.0 e.1)) (find nat_cmp q (map (λ e. (e.0, f e.0 e.1)) es))) (is_at-eq q e.0)
    ∙ elim (nat_eq q e.0)
    as (λ b. nat_eq q e.0 ≡ b → cond b (Some (f e.0 e.1)) (find nat_cmp q (map (λ e. (e.0, f e.0 e.1)) es)) ≡ option_map (f q)
    (cond b (Some e.1) (at es q))) [
      | true ↦ λ h. ap (λ k. Some (f k e.1)) (sym (eqb-true q e.0 h))
      | false ↦ λ h. find-named f es q
    ] refl

pub get-named : {X Y : Type 0} (f : ℕ → X → Y) (es : List (ℕ × X)) (q : ℕ) → get (named f es) q ≡ option_map (f q) (at es q)
get-named f es q = get-from_entries nat_cmp_total _ q ∙ find-named f es q

-- two maps that answer alike at every name are one
pub same_named : {Y : Type 0} (m n : FinMap nat_cmp Y) → ((q : ℕ) → get m q ≡ get n q) → m ≡ n
same_named m n h = same_map nat_cmp_total nat_cmp-IsAntisymmetric m n h

-- entries whose values are seen alike stand for one map
pub named-same : {X Z Y : Type 0} (f : ℕ → X → Y) (g : ℕ → Z → Y) (es : List (ℕ × X)) (fs : List (ℕ × Z))
    → ((q : ℕ) → option_map (f q) (at es q) ≡ option_map (g q) (at fs q)) → named f es ≡ named g fs
named-same f g es fs h = same_named _ _ (λ q. get-named f es q ∙ h q ∙ sym (get-named g fs q))

option_map_cond : {X Y : Type 0} (f : X → Y) (b : Bool) (o p : Option X) → option_map f (cond b o p) ≡ cond b (option_map f o) (option_map f p)
option_map_cond f true o p = refl
option_map_cond f false o p = refl

-- what is seen at each name, where one name has changed
pub named_changed : {X Y : Type 0} (f : ℕ → X → Y) (g : ℕ → X → Y) (es fs : List (ℕ × X)) (k : ℕ) (o : Option X)
    → ((q : ℕ) → at fs q ≡ cond (nat_eq k q) o (at es q))
    → ((q : ℕ) (x : X) → (k ≡ q → Unit {0}) → at es q ≡ Some x → g q x ≡ f q x) → (q : ℕ)
    → option_map (g q) (at fs q) ≡ cond (k == q) (option_map (g k) o) (option_map (f q) (at es q))
named_changed {X} f g es fs k o h same q =
    ap (option_map (g q)) (h q) ∙ by_test (k == q) refl (at es q) refl
  where
    by_test : (b : Bool) → (k == q) ≡ b → (p : Option X) → at es q ≡ p → option_map (g q) (cond b o p) ≡ cond b (option_map (g k) o) (option_map (f q) p)
    by_test true e p is = ap (λ j. option_map (g j) o) (sym (eqb-true k q e))
    by_test false e None is = refl
    by_test false e (Some x) is = ap (λ y. Some y) (same q x (λ _. tt) is)

-- a value is put at a name
pub named_put : {X Y : Type 0} (f : ℕ → X → Y) (es fs : List (ℕ × X)) (k : ℕ) (v : X)
    → ((q : ℕ) → at fs q ≡ cond (nat_eq k q) (Some v) (at es q)) → named f fs ≡ insert (named f es) k (f k v)
named_put f es fs k v h = same_named _ _ (λ q.
    get-named f fs q ∙ named_changed f f es fs k (Some v) h (λ j x d is. refl) q
    ∙ ap (cond (k == q) (Some (f k v))) (sym (get-named f es q))
    ∙ ap (λ b. cond b (Some (f k v)) (get (named f es) q)) (sym (same_test q k))
    ∙ sym (get-insert nat_cmp_total (named f es) k (f k v) q))

-- a name is gone
pub named_remove : {X Y : Type 0} (f : ℕ → X → Y) (es fs : List (ℕ × X)) (k : ℕ) → ((q : ℕ) → at fs q ≡ cond (nat_eq k q) None (at es q))
    → named f fs ≡ remove (named f es) k
named_remove f es fs k h = same_named _ _ (λ q.
    get-named f fs q ∙ named_changed f f es fs k None h (λ j x d is. refl) q
    ∙ ap (cond (k == q) None) (sym (get-named f es q))
    ∙ ap (λ b. cond b None (get (named f es) q)) (sym (same_test q k))
    ∙ sym (get-remove nat_cmp_total (named f es) k q))

-- ---- what is seen of a map
pub find-at : {X : Type 0} (es : List (ℕ × X)) (q : ℕ) → find nat_cmp q es ≡ at es q
find-at [] q = refl
find-at (e ∷ es) q =
    ap (λ b. cond b (Some e.1) (find nat_cmp q es)) (is_at-eq q e.0) ∙ ap (cond (nat_eq q e.0) (Some e.1)) (find-at es q)

pub get-seen : {X Y : Type 0} (f : ℕ → X → Y) (m : FinMap nat_cmp X) (q : ℕ) → get (named f (entries m)) q ≡ option_map (f q) (get m q)
get-seen f m q = get-named f (entries m) q ∙ ap (option_map (f q)) (sym (find-at (entries m) q) ∙ sym (get-entries m q))

-- ---- what may be there
pub option_map-same : {X : Type 0} (o : Option X) → option_map (λ x. x) o ≡ o
option_map-same None = refl
option_map-same (Some x) = refl

pub is_some-map : {X Y : Type 0} (f : X → Y) (o : Option X) → is_some (option_map f o) ≡ is_some o
is_some-map f None = refl
is_some-map f (Some x) = refl

pub kept-at : {X : Type 0} (es : List (ℕ × X)) (q : ℕ) → get (named (λ k x. x) es) q ≡ at es q
kept-at es q = get-named (λ k x. x) es q ∙ option_map-same (at es q)

-- what stands among the entries is there
pub found : {X : Type 0} (es : List (ℕ × X)) (k : ℕ) (x : X) → at es k ≡ Some x → get (named (λ k x. x) es) k ≡ Some x
found es k x is = kept-at es k ∙ is

pub kept-changed : {X : Type 0} (old new : List (ℕ × X)) (k : ℕ) (o : Option X) → ChangesAt old new k o → (q : ℕ)
    → get (named (λ k x. x) new) q ≡ cond (k == q) o (get (named (λ k x. x) old) q)
kept-changed old new k o h q =
    get-named (λ k x. x) new q ∙ named_changed (λ k x. x) (λ k x. x) old new k o h (λ j x d is. refl) q
    ∙ ap (λ p. cond (k == q) p (option_map (λ x. x) (at old q))) (option_map-same o)
    ∙ ap (cond (k == q) o) (sym (get-named (λ k x. x) old q))

-- ---- a list of entries of which one name was written
-- of two changes at one name the last stays
pub changes_twice : {X : Type 0} (old mid new : List (ℕ × X)) (k : ℕ) (o p : Option X) → ChangesAt old mid k o → ChangesAt mid new k p → ChangesAt old new k p
changes_twice {X} old mid new k o p first second q = second q ∙ ap (cond (nat_eq k q) p) (first q) ∙ last_stays (nat_eq k q) p o (at old q)

-- what stands at a name after it was written
pub changed_at : {X : Type 0} (old new : List (ℕ × X)) (k : ℕ) (o : Option X) → ChangesAt old new k o → at new k ≡ o
changed_at old new k o written = written k ∙ ap (λ b. cond b o (at old k)) (eq-eqb k k refl)

-- no entries stand for the empty map
pub named_none : {X : Type 0} (es : List (ℕ × X)) → es ≡ [] → named (λ k x. x) es ≡ empty
named_none es is = same_named (named (λ k x. x) es) empty (λ q. kept-at es q ∙ ap (λ fs. at fs q) is ∙ sym (get-empty nat_cmp q))
