-- How the numbers of a `WaitList` and the values under them keep together.
use Rattle.std.proofs.Common.{◌≡◌, ◌≢◌, ℕ, ◌+◌, ◌<◌, ◌≤◌, Bool, true, false, cond, not, ◌||◌, eqb, List, [], ◌∷◌, ◌++◌, length, get_or, set, Option, None, is_some, IsSome, count_by, sum_by, zero, suc, refl, sym, ap, ◌∙◌, arith}
use Rattle.std.specs.List.{list_any}
use Rattle.std.proofs.lemmas.Bool.Decides.{nat_tests}
use Rattle.std.proofs.lemmas.List.{get_or-set_other, get_or_past}
use Rattle.std.proofs.lemmas.List.Sums.{sum_by-set, sum_by-cons}
use Rattle.mea_base.specs.WaitList.{without, IsAbsent, IsDistinct, AllInUse}
use Rattle.mea_base.proofs.Tests.{test_differs}

module _ {T : Type 0} where
  -- a number with a value is a place
  pub in_use_within : (slots : List (Option T)) (n : ℕ) → IsSome (get_or slots n None) → n < length slots
  in_use_within slots n used = grind (arith, get_or_past)

  -- what changes at an absent number alone keeps the others in use
  pub AllInUse-updated : (old new : List (Option T)) (n : ℕ) (ns : List ℕ) → ((other : ℕ) → other ≢ n → get_or new other None ≡ get_or old other None)
      → IsAbsent n ns → AllInUse old ns → AllInUse new ns
  AllInUse-updated old new n [] others absent used = tt
  AllInUse-updated old new n (m ∷ ms) others absent used =
      (rw (others m absent.0) used.0, AllInUse-updated old new n ms others absent.1 used.1)

  pub AllInUse-push : (slots : List (Option T)) (n : ℕ) (ns : List ℕ) → IsSome (get_or slots n None) → AllInUse slots ns → AllInUse slots (ns ++ n ∷ [])
  AllInUse-push slots n [] here used = (here, tt)
  AllInUse-push slots n (m ∷ ms) here used = (used.0, AllInUse-push slots n ms here used.1)

  pub AllInUse-without : (slots : List (Option T)) (n : ℕ) (ns : List ℕ) → AllInUse slots ns → AllInUse slots (without n ns)
  AllInUse-without slots n [] used = tt
  AllInUse-without slots n (m ∷ ms) used =
      elim (not (eqb m n)) as (λ b. AllInUse slots (cond b (m ∷ without n ms) (without n ms))) [
        | true ↦ (used.0, AllInUse-without slots n ms used.1)
        | false ↦ AllInUse-without slots n ms used.1
      ]

  -- a write at a number that is absent keeps the others in use
  AllInUse-set_absent : (slots : List (Option T)) (n : ℕ) (slot : Option T) (ns : List ℕ) → IsAbsent n ns → AllInUse slots ns → AllInUse (set slots n slot) ns
  AllInUse-set_absent slots n slot [] absent used = tt
  AllInUse-set_absent slots n slot (m ∷ ms) absent used =
      (rw (get_or-set_other slots n m slot None absent.0) used.0, AllInUse-set_absent slots n slot ms absent.1 used.1)

  -- the count after a write of nothing at a number in use
  count-set_none : (slots : List (Option T)) (n : ℕ) → IsSome (get_or slots n None) → count_by is_some (set slots n None) + 1 ≡ count_by is_some slots
  count-set_none slots n used =
      let counted = sum_by-set (λ o. cond (is_some o) 1 0) slots n None None (in_use_within slots n used) in
      grind (arith, counted)

  module _ (f : Option T → ℕ) (nothing : f None ≡ 0) where
    -- slots with the same values have the same sum, whatever empty slots end them
    sum_none : (xs : List (Option T)) → ((k : ℕ) → get_or xs k None ≡ None) → sum_by f xs ≡ 0
    sum_none [] same = refl
    sum_none (x ∷ xs) same =
        let head : f x ≡ 0 = ap f (same 0) ∙ nothing in
        omega (arith, sum_by-cons f x xs, sum_none xs (λ k. same (suc k)), head)

    pub sum_by-same : (xs ys : List (Option T)) → ((k : ℕ) → get_or ys k None ≡ get_or xs k None) → sum_by f ys ≡ sum_by f xs
    sum_by-same [] ys same = sum_none ys same
    sum_by-same (x ∷ xs) [] same = sym (sum_none (x ∷ xs) (λ k. sym (same k)))
    sum_by-same (x ∷ xs) (y ∷ ys) same =
        let head : f y ≡ f x = ap f (same 0) in
        omega (arith, sum_by-cons f x xs, sum_by-cons f y ys, sum_by-same xs ys (λ k. same (suc k)), head)

    -- a change of one number changes the sum by that number's part
    pub sum_by-updated : (xs ys : List (Option T)) (n : ℕ) → ((k : ℕ) → k ≢ n → get_or ys k None ≡ get_or xs k None)
        → sum_by f ys + f (get_or xs n None) ≡ sum_by f xs + f (get_or ys n None)
    sum_by-updated [] [] n others = refl
    sum_by-updated [] (y ∷ ys) zero others =
        let rest = sum_none ys (λ k. others (suc k) (λ e. omega arith)) in
        omega (arith, sum_by-cons f y ys, rest, nothing)
    sum_by-updated [] (y ∷ ys) (suc n) others =
        let head : f y ≡ 0 = ap f (others 0 (λ e. omega arith)) ∙ nothing in
        let rest = sum_by-updated [] ys n (λ k differs. others (suc k) (λ e. differs (omega arith))) in
        omega (arith, sum_by-cons f y ys, head, rest)
    sum_by-updated (x ∷ xs) [] zero others =
        let rest = sum_none xs (λ k. sym (others (suc k) (λ e. omega arith))) in
        omega (arith, sum_by-cons f x xs, rest, nothing)
    sum_by-updated (x ∷ xs) [] (suc n) others =
        let head : f x ≡ 0 = ap f (sym (others 0 (λ e. omega arith))) ∙ nothing in
        let rest = sum_by-updated xs [] n (λ k differs. others (suc k) (λ e. differs (omega arith))) in
        omega (arith, sum_by-cons f x xs, head, rest)
    sum_by-updated (x ∷ xs) (y ∷ ys) zero others =
        let rest = sum_by-same xs ys (λ k. others (suc k) (λ e. omega arith)) in
        omega (arith, sum_by-cons f x xs, sum_by-cons f y ys, rest)
    sum_by-updated (x ∷ xs) (y ∷ ys) (suc n) others =
        let head : f y ≡ f x = ap f (others 0 (λ e. omega arith)) in
        let rest = sum_by-updated xs ys n (λ k differs. others (suc k) (λ e. differs (omega arith))) in
        omega (arith, sum_by-cons f x xs, sum_by-cons f y ys, head, rest)

  -- distinct numbers in use are no more than the values
  pub length_order-le-count : (slots : List (Option T)) (ns : List ℕ) → IsDistinct ns → AllInUse slots ns → length ns ≤ count_by is_some slots
  length_order-le-count slots [] distinct used = omega arith
  length_order-le-count slots (n ∷ ns) distinct used =
      let fewer = length_order-le-count (set slots n None) ns distinct.1 (AllInUse-set_absent slots n None ns distinct.0 used.1) in
      omega (arith, count-set_none slots n used.0)

pub IsAbsent-push : (n m : ℕ) (ns : List ℕ) → m ≢ n → IsAbsent n ns → IsAbsent n (ns ++ m ∷ [])
IsAbsent-push n m [] differs absent = (differs, tt)
IsAbsent-push n m (k ∷ ks) differs absent = (absent.0, IsAbsent-push n m ks differs absent.1)

pub IsDistinct-push : (n : ℕ) (ns : List ℕ) → IsAbsent n ns → IsDistinct ns → IsDistinct (ns ++ n ∷ [])
IsDistinct-push n [] absent distinct = (tt, tt)
IsDistinct-push n (m ∷ ms) absent distinct =
    (IsAbsent-push m n ms (λ same. absent.0 (sym same)) distinct.0, IsDistinct-push n ms absent.1 distinct.1)

pub IsAbsent-without : (k n : ℕ) (ns : List ℕ) → IsAbsent k ns → IsAbsent k (without n ns)
IsAbsent-without k n [] absent = tt
IsAbsent-without k n (m ∷ ms) absent =
    elim (not (eqb m n)) as (λ b. IsAbsent k (cond b (m ∷ without n ms) (without n ms))) [
      | true ↦ (absent.0, IsAbsent-without k n ms absent.1)
      | false ↦ IsAbsent-without k n ms absent.1
    ]

pub IsDistinct-without : (n : ℕ) (ns : List ℕ) → IsDistinct ns → IsDistinct (without n ns)
IsDistinct-without n [] distinct = tt
IsDistinct-without n (m ∷ ms) distinct =
    elim (not (eqb m n)) as (λ b. IsDistinct (cond b (m ∷ without n ms) (without n ms))) [
      | true ↦ (IsAbsent-without m n ms distinct.0, IsDistinct-without n ms distinct.1)
      | false ↦ IsDistinct-without n ms distinct.1
    ]

-- a number that is not found is absent
pub absent_from_unlinked : (n : ℕ) (ns : List ℕ) → list_any (λ m. eqb m n) ns ≡ false → IsAbsent n ns
absent_from_unlinked n [] none = tt
absent_from_unlinked n (m ∷ ms) none = by_test (eqb m n) refl none (absent_from_unlinked n ms)
  where
    by_test : (b : Bool) → eqb m n ≡ b → (b || list_any (λ k. eqb k n) ms) ≡ false → (list_any (λ k. eqb k n) ms ≡ false → IsAbsent n ms) → IsAbsent n (m ∷ ms)
    by_test true e none rest = absurd (cc)
    by_test false e none rest = ((λ same. absurd (grind (arith, nat_tests, e, same))), rest none)

pub without_absent : (n : ℕ) (ns : List ℕ) → IsAbsent n ns → without n ns ≡ ns
without_absent n [] absent = refl
without_absent n (m ∷ ms) absent =
    ap (λ b. cond (not b) (m ∷ without n ms) (without n ms)) (test_differs m n absent.0) ∙ ap (λ ks. m ∷ ks) (without_absent n ms absent.1)

pub length-without : (n : ℕ) (ns : List ℕ) → length (without n ns) ≤ length ns
length-without n [] = omega arith
length-without n (m ∷ ms) = by_test (not (eqb m n)) (length-without n ms)
  where
    by_test : (b : Bool) → length (without n ms) ≤ length ms → length (cond b (m ∷ without n ms) (without n ms)) ≤ suc (length ms)
    by_test true less = omega arith
    by_test false less = omega arith
