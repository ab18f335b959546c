-- a resource that is lent, and one that is put back
use Rattle.std.proofs.Common.{◌≡◌, ◌≢◌, ◌∙◌, ℕ, zero, suc, ◌+◌, ◌<◌, ◌≤◌, ◌==◌, ◌++◌, Bool, true, false, cond, nat_lt, List, [], ◌∷◌, length, set, inl, inr, refl, ap, sym, subst, arith, length-append, length-set}
use Rattle.std.proofs.lemmas.Bool.{ltb-true, lt-ltb, le-ltb, eq-eqb, ne_eqb, cases_eq, cases_lt}
use Rattle.std.proofs.lemmas.List.{get_or-set_same, get_or-set_other}
use Rattle.std.proofs.lemmas.List.Sums.{sum_by-cons, sum_by-set, sum_by_push}
use Rattle.std.specs.Prelude.{zip}
use Rattle.mea_pool_core.specs.Shelf.{is_lent, lent_count, times, one_if, StandOnce, slots_below, none_lent, resources_of, slots_of}

one_if_few : (b : Bool) → one_if b ≤ 1
one_if_few true = omega arith
one_if_few false = omega arith

-- ---- how often a slot stands in a list

pub times_first : (s : ℕ) (rest : List ℕ) → times s (s ∷ rest) ≡ 1 + times s rest
times_first s rest = sum_by-cons (λ (m : ℕ). cond (m == s) 1 0) s rest ∙ ap (λ b. one_if b + times s rest) (eq-eqb s s refl)

pub times_other : (n s : ℕ) (rest : List ℕ) → n ≢ s → times n (s ∷ rest) ≡ times n rest
times_other n s rest differs =
    let none : (s == n) ≡ false = ne_eqb s n (λ same. differs (sym same)) in
    let first : times n (s ∷ rest) ≡ one_if (s == n) + times n rest = sum_by-cons (λ (m : ℕ). cond (m == n) 1 0) s rest in
    let here : one_if (s == n) ≡ 0 = ap one_if none in
    omega arith

times_last : (s : ℕ) (slots : List ℕ) → times s (slots ++ s ∷ []) ≡ times s slots + 1
times_last s slots = sum_by_push (λ (m : ℕ). cond (m == s) 1 0) slots s ∙ ap (λ b. times s slots + one_if b) (eq-eqb s s refl)

times_last_other : (n s : ℕ) (slots : List ℕ) → n ≢ s → times n (slots ++ s ∷ []) ≡ times n slots
times_last_other n s slots differs =
    let none : (s == n) ≡ false = ne_eqb s n (λ same. differs (sym same)) in
    let last : times n (slots ++ s ∷ []) ≡ times n slots + one_if (s == n) = sum_by_push (λ (m : ℕ). cond (m == n) 1 0) slots s in
    let here : one_if (s == n) ≡ 0 = ap one_if none in
    omega arith

-- ---- a slot that is lent

-- the first of the shelf is a slot that is not lent
pub first_free : (s : ℕ) (rest : List ℕ) (lent : List Bool) → StandOnce (s ∷ rest) lent → (s < length lent) × (is_lent lent s ≡ false)
first_free s rest lent once = by_tests (is_lent lent s) (nat_lt s (length lent)) refl refl
  where
    by_tests : (a b : Bool) → is_lent lent s ≡ a → nat_lt s (length lent) ≡ b → (s < length lent) × (is_lent lent s ≡ false)
    by_tests a false ia ib =
        let stands : times s (s ∷ rest) + one_if (is_lent lent s) ≡ one_if (nat_lt s (length lent)) = once s in
        let first : times s (s ∷ rest) ≡ 1 + times s rest = times_first s rest in
        let none : one_if (nat_lt s (length lent)) ≡ 0 = ap one_if ib in
        absurd (omega arith)
    by_tests true true ia ib =
        let stands : times s (s ∷ rest) + one_if (is_lent lent s) ≡ one_if (nat_lt s (length lent)) = once s in
        let first : times s (s ∷ rest) ≡ 1 + times s rest = times_first s rest in
        let there : one_if (is_lent lent s) ≡ 1 = ap one_if ia in
        let few : one_if (nat_lt s (length lent)) ≤ 1 = one_if_few (nat_lt s (length lent)) in
        absurd (omega arith)
    by_tests false true ia ib = (ltb-true s (length lent) ib, ia)

pub once_lent : (s : ℕ) (rest : List ℕ) (lent : List Bool) → StandOnce (s ∷ rest) lent → StandOnce rest (set lent s true)
once_lent s rest lent once n = elim (cases_eq n s) [ inl same ↦ here same | inr differs ↦ there differs ]
  where
    free : (s < length lent) × (is_lent lent s ≡ false)
    free = first_free s rest lent once

    long : length (set lent s true) ≡ length lent
    long = length-set lent s true

    at_s : times s rest + one_if (is_lent (set lent s true) s) ≡ one_if (nat_lt s (length (set lent s true)))
    at_s =
        let stands : times s (s ∷ rest) + one_if (is_lent lent s) ≡ one_if (nat_lt s (length lent)) = once s in
        let first : times s (s ∷ rest) ≡ 1 + times s rest = times_first s rest in
        let was : one_if (is_lent lent s) ≡ 0 = ap one_if free.1 in
        let is : one_if (is_lent (set lent s true) s) ≡ 1 = ap one_if (get_or-set_same lent s true false free.0) in
        let all : one_if (nat_lt s (length (set lent s true))) ≡ one_if (nat_lt s (length lent)) = ap (λ l. one_if (nat_lt s l)) long in
        omega arith

    here : n ≡ s → times n rest + one_if (is_lent (set lent s true) n) ≡ one_if (nat_lt n (length (set lent s true)))
    here same = subst (λ (m : ℕ). times m rest + one_if (is_lent (set lent s true) m) ≡ one_if (nat_lt m (length (set lent s true)))) (sym same) at_s

    there : n ≢ s → times n rest + one_if (is_lent (set lent s true) n) ≡ one_if (nat_lt n (length (set lent s true)))
    there differs =
        let stands : times n (s ∷ rest) + one_if (is_lent lent n) ≡ one_if (nat_lt n (length lent)) = once n in
        let first : times n (s ∷ rest) ≡ times n rest = times_other n s rest differs in
        let is : one_if (is_lent (set lent s true) n) ≡ one_if (is_lent lent n) = ap one_if (get_or-set_other lent s n true false differs) in
        let all : one_if (nat_lt n (length (set lent s true))) ≡ one_if (nat_lt n (length lent)) = ap (λ l. one_if (nat_lt n l)) long in
        omega arith

pub count_lent : (s : ℕ) (lent : List Bool) → s < length lent → is_lent lent s ≡ false → lent_count (set lent s true) ≡ lent_count lent + 1
count_lent s lent within free =
    let sums : lent_count (set lent s true) + one_if (is_lent lent s) ≡ lent_count lent + 1 = sum_by-set (λ (b : Bool). cond b 1 0) lent s true false within in
    let none : one_if (is_lent lent s) ≡ 0 = ap one_if free in
    omega arith

-- ---- a slot that is put back

pub lent_within : (s : ℕ) (slots : List ℕ) (lent : List Bool) → StandOnce slots lent → is_lent lent s ≡ true → s < length lent
lent_within s slots lent once is = by_test (nat_lt s (length lent)) refl
  where
    by_test : (b : Bool) → nat_lt s (length lent) ≡ b → s < length lent
    by_test true ib = ltb-true s (length lent) ib
    by_test false ib =
        let stands : times s slots + one_if (is_lent lent s) ≡ one_if (nat_lt s (length lent)) = once s in
        let there : one_if (is_lent lent s) ≡ 1 = ap one_if is in
        let none : one_if (nat_lt s (length lent)) ≡ 0 = ap one_if ib in
        absurd (omega arith)

pub once_back : (s : ℕ) (slots : List ℕ) (lent : List Bool) → StandOnce slots lent → is_lent lent s ≡ true → StandOnce (slots ++ s ∷ []) (set lent s false)
once_back s slots lent once is n = elim (cases_eq n s) [ inl same ↦ here same | inr differs ↦ there differs ]
  where
    long : length (set lent s false) ≡ length lent
    long = length-set lent s false

    at_s : times s (slots ++ s ∷ []) + one_if (is_lent (set lent s false) s) ≡ one_if (nat_lt s (length (set lent s false)))
    at_s =
        let stands : times s slots + one_if (is_lent lent s) ≡ one_if (nat_lt s (length lent)) = once s in
        let last : times s (slots ++ s ∷ []) ≡ times s slots + 1 = times_last s slots in
        let was : one_if (is_lent lent s) ≡ 1 = ap one_if is in
        let now : one_if (is_lent (set lent s false) s) ≡ 0 = ap one_if (get_or-set_same lent s false false (lent_within s slots lent once is)) in
        let all : one_if (nat_lt s (length (set lent s false))) ≡ one_if (nat_lt s (length lent)) = ap (λ l. one_if (nat_lt s l)) long in
        omega arith

    here : n ≡ s → times n (slots ++ s ∷ []) + one_if (is_lent (set lent s false) n) ≡ one_if (nat_lt n (length (set lent s false)))
    here same = subst (λ (m : ℕ). times m (slots ++ s ∷ []) + one_if (is_lent (set lent s false) m) ≡ one_if (nat_lt m (length (set lent s false)))) (sym same) at_s

    there : n ≢ s → times n (slots ++ s ∷ []) + one_if (is_lent (set lent s false) n) ≡ one_if (nat_lt n (length (set lent s false)))
    there differs =
        let stands : times n slots + one_if (is_lent lent n) ≡ one_if (nat_lt n (length lent)) = once n in
        let last : times n (slots ++ s ∷ []) ≡ times n slots = times_last_other n s slots differs in
        let now : one_if (is_lent (set lent s false) n) ≡ one_if (is_lent lent n) = ap one_if (get_or-set_other lent s n false false differs) in
        let all : one_if (nat_lt n (length (set lent s false))) ≡ one_if (nat_lt n (length lent)) = ap (λ l. one_if (nat_lt n l)) long in
        omega arith

pub count_back : (s : ℕ) (lent : List Bool) → s < length lent → is_lent lent s ≡ true → lent_count (set lent s false) + 1 ≡ lent_count lent
count_back s lent within is =
    let sums : lent_count (set lent s false) + one_if (is_lent lent s) ≡ lent_count lent + 0 = sum_by-set (λ (b : Bool). cond b 1 0) lent s false false within in
    let one : one_if (is_lent lent s) ≡ 1 = ap one_if is in
    omega arith

-- ---- a shelf that is new

pub length_below : (n : ℕ) → length (slots_below n) ≡ n
length_below zero = refl
length_below (suc n) = omega (arith, length_below n, length-append (slots_below n) (n ∷ []))

pub length_none : (n : ℕ) → length (none_lent n) ≡ n
length_none zero = refl
length_none (suc n) = omega (arith, length_none n, length-append (none_lent n) (false ∷ []))

pub count_none : (n : ℕ) → lent_count (none_lent n) ≡ 0
count_none zero = refl
count_none (suc n) = sum_by_push (λ (b : Bool). cond b 1 0) (none_lent n) false ∙ ap (λ k. k + 0) (count_none n)

unmarked_last : (bs : List Bool) (k : ℕ) → ((j : ℕ) → is_lent bs j ≡ false) → is_lent (bs ++ false ∷ []) k ≡ false
unmarked_last [] zero none = refl
unmarked_last [] (suc k) none = refl
unmarked_last (b ∷ bs) zero none = none 0
unmarked_last (b ∷ bs) (suc k) none = unmarked_last bs k (λ j. none (suc j))

pub unmarked : (n k : ℕ) → is_lent (none_lent n) k ≡ false
unmarked zero k = refl
unmarked (suc n) k = unmarked_last (none_lent n) k (unmarked n)

times_below : (n k : ℕ) → times k (slots_below n) ≡ one_if (nat_lt k n)
times_below zero k = sym (ap one_if (le-ltb k 0 (omega arith)))
times_below (suc n) k =
    sum_by_push (λ (m : ℕ). cond (m == k) 1 0) (slots_below n) n ∙ ap (λ t. t + one_if (n == k)) (times_below n k)
    ∙ elim (cases_eq n k) [
      | inl same ↦ omega (arith, ap one_if (eq-eqb n k same), ap one_if (le-ltb k n (omega arith)), ap one_if (lt-ltb k (suc n) (omega arith)))
      | inr differs ↦ elim (cases_lt k n) [
        | inl less ↦ omega (arith, ap one_if (ne_eqb n k differs), ap one_if (lt-ltb k n less), ap one_if (lt-ltb k (suc n) (omega arith)))
        | inr more ↦ omega (arith, ap one_if (ne_eqb n k differs), ap one_if (le-ltb k n more), ap one_if (le-ltb k (suc n) (omega arith)))
      ]
    ]

pub once_fresh : (n : ℕ) → StandOnce (slots_below n) (none_lent n)
once_fresh n k =
    let stands : times k (slots_below n) ≡ one_if (nat_lt k n) = times_below n k in
    let none : one_if (is_lent (none_lent n) k) ≡ 0 = ap one_if (unmarked n k) in
    let all : one_if (nat_lt k (length (none_lent n))) ≡ one_if (nat_lt k n) = ap (λ l. one_if (nat_lt k l)) (length_none n) in
    omega arith

-- ---- slots and resources in pairs

module _ {R : Type 0} where
  pub zip_push : (slots : List ℕ) (resources : List R) (s : ℕ) (x : R) → length slots ≡ length resources → zip (slots ++ s ∷ []) (resources ++ x ∷ []) ≡ zip slots resources ++ (s, x) ∷ []
  zip_push [] [] s x same = refl
  zip_push [] (y ∷ ys) s x same = absurd (omega arith)
  zip_push (n ∷ ns) [] s x same = absurd (omega arith)
  zip_push (n ∷ ns) (y ∷ ys) s x same = ap (λ es. (n, y) ∷ es) (zip_push ns ys s x (omega arith))

  pub resources_zip : (slots : List ℕ) (resources : List R) → length slots ≡ length resources → resources_of (zip slots resources) ≡ resources
  resources_zip [] [] same = refl
  resources_zip [] (y ∷ ys) same = absurd (omega arith)
  resources_zip (n ∷ ns) [] same = absurd (omega arith)
  resources_zip (n ∷ ns) (y ∷ ys) same = ap (λ es. y ∷ es) (resources_zip ns ys (omega arith))

  pub slots_zip : (slots : List ℕ) (resources : List R) → length slots ≡ length resources → slots_of (zip slots resources) ≡ slots
  slots_zip [] [] same = refl
  slots_zip [] (y ∷ ys) same = absurd (omega arith)
  slots_zip (n ∷ ns) [] same = absurd (omega arith)
  slots_zip (n ∷ ns) (y ∷ ys) same = ap (λ es. n ∷ es) (slots_zip ns ys (omega arith))

  pub length_zip : (slots : List ℕ) (resources : List R) → length slots ≡ length resources → length (zip slots resources) ≡ length slots
  length_zip [] [] same = refl
  length_zip [] (y ∷ ys) same = absurd (omega arith)
  length_zip (n ∷ ns) [] same = absurd (omega arith)
  length_zip (n ∷ ns) (y ∷ ys) same = omega (arith, length_zip ns ys (omega arith))
