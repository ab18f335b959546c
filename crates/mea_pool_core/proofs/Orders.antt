-- places are granted in the order of first polls, over every list of calls
use Rattle.std.proofs.Common.{◌≡◌, ◌≢◌, ◌∙◌, ℕ, ◌+◌, ◌<◌, ◌==◌, ◌++◌, ◌⊎◌, inl, inr, Bool, true, false, cond, List, [], ◌∷◌, Option, Some, None, is_some, refl, ap, sym, subst, arith}
use Rattle.std.proofs.lemmas.Bool.{cases_eq, eq-eqb, eqb-true, ne_eqb}
use Rattle.std.proofs.lemmas.Bool.Decides.{nat_tests}
use Rattle.std.specs.Prelude.{IsSome, map as map_list}
use Rattle.std.specs.Ordering.{nat_cmp, eq_by_cmp}
use Rattle.std.specs.Cmp.{nat_cmp_total}
use Rattle.std.specs.FinMap as map
use Rattle.std.specs.FinMap.{get-insert}
use Rattle.mea_lock_core.specs.Condvar.{waker_under, with_waker, without_wait, AreApart}
use Rattle.mea_pool_core.specs.Runs.{still_waiting, newly_granted, AllAbove, IsRising}

tied : (a b : ℕ) → a ≡ b → eq_by_cmp nat_cmp a b ≡ true
tied a b same = grind (arith, nat_tests)

untied : (a b : ℕ) → a ≢ b → eq_by_cmp nat_cmp a b ≡ false
untied a b differs = grind (arith, nat_tests)

-- ---- numbers that rise

abbrev snds : List (ℕ × ℕ) → List ℕ
snds line = map_list {A = ℕ × ℕ} (λ e. e.1) line

-- each is below a number
abbrev pub AllBelow : ℕ → List ℕ → Type 0
AllBelow k [] = Unit {0}
AllBelow k (n ∷ ns) = (n < k) × AllBelow k ns

above_last : (n k : ℕ) (xs : List ℕ) → n < k → AllAbove n xs → AllAbove n (xs ++ k ∷ [])
above_last n k [] less above = (less, tt)
above_last n k (x ∷ xs) less above = (above.0, above_last n k xs less above.1)

pub rising_last : (k : ℕ) (xs : List ℕ) → IsRising xs → AllBelow k xs → IsRising (xs ++ k ∷ [])
rising_last k [] rising below = (tt, tt)
rising_last k (x ∷ xs) rising below = (above_last x k xs below.0 rising.0, rising_last k xs rising.1 below.1)

pub below_last : (k : ℕ) (xs : List ℕ) → AllBelow k xs → AllBelow (k + 1) (xs ++ k ∷ [])
below_last k [] below = (omega arith, tt)
below_last k (x ∷ xs) below = ((let less : x < k = below.0 in omega arith), below_last k xs below.1)

-- a part of what rises
above_without : (n k : ℕ) (line : List (ℕ × ℕ)) → AllAbove k (snds line) → AllAbove k (snds (without_wait line n))
above_without n k [] above = tt
above_without n k (e ∷ line) above = by_test (e.0 == n) (above_without n k line above.1)
  where
    by_test : (b : Bool) → AllAbove k (snds (without_wait line n)) → AllAbove k (snds (cond b (without_wait line n) (e ∷ without_wait line n)))
    by_test true rest = rest
    by_test false rest = (above.0, rest)

rising_without_line : (n : ℕ) (line : List (ℕ × ℕ)) → IsRising (snds line) → IsRising (snds (without_wait line n))
rising_without_line n [] rising = tt
rising_without_line n (e ∷ line) rising = by_test (e.0 == n) (rising_without_line n line rising.1)
  where
    by_test : (b : Bool) → IsRising (snds (without_wait line n)) → IsRising (snds (cond b (without_wait line n) (e ∷ without_wait line n)))
    by_test true rest = rest
    by_test false rest = (above_without n e.1 line rising.0, rest)

above_part : (k n : ℕ) (xs : List ℕ) (line : List (ℕ × ℕ)) → AllAbove k (xs ++ snds line) → AllAbove k (xs ++ snds (without_wait line n))
above_part k n [] line above = above_without n k line above
above_part k n (x ∷ xs) line above = (above.0, above_part k n xs line above.1)

pub rising_without : (n : ℕ) (xs : List ℕ) (line : List (ℕ × ℕ)) → IsRising (xs ++ snds line) → IsRising (xs ++ snds (without_wait line n))
rising_without n [] line rising = rising_without_line n line rising
rising_without n (x ∷ xs) line rising = (above_part x n xs line rising.0, rising_without n xs line rising.1)

below_without_line : (n k : ℕ) (line : List (ℕ × ℕ)) → AllBelow k (snds line) → AllBelow k (snds (without_wait line n))
below_without_line n k [] below = tt
below_without_line n k (e ∷ line) below = by_test (e.0 == n) (below_without_line n k line below.1)
  where
    by_test : (b : Bool) → AllBelow k (snds (without_wait line n)) → AllBelow k (snds (cond b (without_wait line n) (e ∷ without_wait line n)))
    by_test true rest = rest
    by_test false rest = (below.0, rest)

pub below_without : (n k : ℕ) (xs : List ℕ) (line : List (ℕ × ℕ)) → AllBelow k (xs ++ snds line) → AllBelow k (xs ++ snds (without_wait line n))
below_without n k [] line below = below_without_line n k line below
below_without n k (x ∷ xs) line below = (below.0, below_without n k xs line below.1)

above_front : (k : ℕ) (xs ys : List ℕ) → AllAbove k (xs ++ ys) → AllAbove k (xs ++ [])
above_front k [] ys above = tt
above_front k (x ∷ xs) ys above = (above.0, above_front k xs ys above.1)

pub rising_front : (xs ys : List ℕ) → IsRising (xs ++ ys) → IsRising (xs ++ [])
rising_front [] ys rising = tt
rising_front (x ∷ xs) ys rising = (above_front x xs ys rising.0, rising_front xs ys rising.1)

pub below_front : (k : ℕ) (xs ys : List ℕ) → AllBelow k (xs ++ ys) → AllBelow k (xs ++ [])
below_front k [] ys below = tt
below_front k (x ∷ xs) ys below = (below.0, below_front k xs ys below.1)

pub none_still : (W : Type 0) (line : List (ℕ × ℕ)) → still_waiting {W = W} [] line ≡ []
none_still W [] = refl
none_still W (l ∷ line) = none_still W line

module _ {W : Type 0} where
  -- ---- numbers that wait

  abbrev numbers : List (ℕ × W) → List ℕ
  numbers q = map_list {A = ℕ × W} (λ e. e.0) q

  -- each of a line waits
  abbrev AllIn : List (ℕ × W) → List (ℕ × ℕ) → Type 0
  AllIn q [] = Unit {0}
  AllIn q (e ∷ line) = IsSome (waker_under q e.0) × AllIn q line

  pub wider : (e : ℕ × W) (q : List (ℕ × W)) (n : ℕ) → IsSome (waker_under q n) → IsSome (waker_under (e ∷ q) n)
  wider e q n some = by_test (e.0 == n)
    where
      by_test : (b : Bool) → IsSome (cond b (Some e.1) (waker_under q n))
      by_test true = refl
      by_test false = some

  all_wider : (e : ℕ × W) (q : List (ℕ × W)) (line : List (ℕ × ℕ)) → AllIn q line → AllIn (e ∷ q) line
  all_wider e q [] all = tt
  all_wider e q (l ∷ line) all = (wider e q l.0 all.0, all_wider e q line all.1)

  pub first_in : (e : ℕ × W) (q : List (ℕ × W)) (n : ℕ) → n ≡ e.0 → IsSome (waker_under (e ∷ q) n)
  first_in e q n same = ap (λ (b : Bool). is_some (cond b (Some e.1) (waker_under q n))) (eq-eqb e.0 n (sym same))

  pub in_line : (q : List (ℕ × W)) (line : List (ℕ × ℕ)) → map_list {A = ℕ × ℕ} (λ e. e.0) line ≡ numbers q → AllIn q line
  in_line [] [] same = tt
  in_line [] (l ∷ line) same = absurd (cc)
  in_line (e ∷ q) [] same = absurd (cc)
  in_line (e ∷ q) (l ∷ line) same =
      let first : l.0 ≡ e.0 = cc in
      let rest : map_list {A = ℕ × ℕ} (λ x. x.0) line ≡ numbers q = cc in
      (first_in e q l.0 first, all_wider e q line (in_line q line rest))

  pub all_still : (q : List (ℕ × W)) (line : List (ℕ × ℕ)) → AllIn q line → still_waiting q line ≡ line
  all_still q [] all = refl
  all_still q (l ∷ line) all = ap (λ (b : Bool). cond b (l ∷ still_waiting q line) (still_waiting q line)) all.0 ∙ ap (λ (ls : List (ℕ × ℕ)). l ∷ ls) (all_still q line all.1)

  pub none_new : (m : map.FinMap nat_cmp ℕ) (q : List (ℕ × W)) (line : List (ℕ × ℕ)) → AllIn q line → ((n : ℕ) → IsSome (waker_under q n) → map.get m n ≡ None) → newly_granted m line ≡ []
  none_new m q [] all none = refl
  none_new m q (l ∷ line) all none = ap (λ (o : Option ℕ). cond (is_some o) (l.1 ∷ newly_granted m line) (newly_granted m line)) (none l.0 all.0) ∙ none_new m q line all.1 none

  -- a wait that is taken out
  gone_waker : (q : List (ℕ × W)) (n : ℕ) → waker_under (without_wait q n) n ≡ None
  gone_waker [] n = refl
  gone_waker (e ∷ q) n = by_test (e.0 == n) refl (gone_waker q n)
    where
      by_test : (b : Bool) → (e.0 == n) ≡ b → waker_under (without_wait q n) n ≡ None → waker_under (cond b (without_wait q n) (e ∷ without_wait q n)) n ≡ None
      by_test true is rest = rest
      by_test false is rest = ap (λ (b : Bool). cond b (Some e.1) (waker_under (without_wait q n) n)) is ∙ rest

  pub other_waker : (q : List (ℕ × W)) (n m : ℕ) → m ≢ n → waker_under (without_wait q n) m ≡ waker_under q m
  other_waker [] n m differs = refl
  other_waker (e ∷ q) n m differs = by_test (e.0 == n) refl (other_waker q n m differs)
    where
      by_test : (b : Bool) → (e.0 == n) ≡ b → waker_under (without_wait q n) m ≡ waker_under q m → waker_under (cond b (without_wait q n) (e ∷ without_wait q n)) m ≡ cond (e.0 == m) (Some e.1) (waker_under q m)
      by_test true is rest =
          let here : e.0 ≡ n = eqb-true e.0 n is in
          rest ∙ sym (ap (λ (b : Bool). cond b (Some e.1) (waker_under q m)) (ne_eqb e.0 m (λ same. differs (sym same ∙ here))))
      by_test false is rest = ap (λ (o : Option W). cond (e.0 == m) (Some e.1) o) rest

  pub fewer_wait : (q : List (ℕ × W)) (n m : ℕ) → IsSome (waker_under (without_wait q n) m) → IsSome (waker_under q m)
  fewer_wait q n m some = elim (cases_eq m n) [
    | inl same ↦ absurd (let none : waker_under (without_wait q n) m ≡ None = subst (λ (k : ℕ). waker_under (without_wait q n) k ≡ None) (sym same) (gone_waker q n) in let no : false ≡ true = sym (ap (λ (o : Option W). is_some o) none) ∙ some in cc)
    | inr differs ↦ sym (ap (λ (o : Option W). is_some o) (other_waker q n m differs)) ∙ some
  ]

  pub apart_without : (q : List (ℕ × W)) (n : ℕ) → AreApart q → AreApart (without_wait q n)
  apart_without [] n apart = tt
  apart_without (e ∷ q) n apart = by_test (e.0 == n) refl (apart_without q n apart.1)
    where
      by_test : (b : Bool) → (e.0 == n) ≡ b → AreApart (without_wait q n) → AreApart (cond b (without_wait q n) (e ∷ without_wait q n))
      by_test true is rest = rest
      by_test false is rest = (other_waker q n e.0 (λ same. let yes = eq-eqb e.0 n same in let both : true ≡ false = sym yes ∙ is in cc) ∙ apart.0, rest)

  pub still_without : (q : List (ℕ × W)) (n : ℕ) (line : List (ℕ × ℕ)) → AllIn q line → still_waiting (without_wait q n) line ≡ without_wait line n
  still_without q n [] all = refl
  still_without q n (l ∷ line) all = by_test (l.0 == n) refl (still_without q n line all.1)
    where
      by_test : (b : Bool) → (l.0 == n) ≡ b → still_waiting (without_wait q n) line ≡ without_wait line n
          → cond (is_some (waker_under (without_wait q n) l.0)) (l ∷ still_waiting (without_wait q n) line) (still_waiting (without_wait q n) line) ≡ cond b (without_wait line n) (l ∷ without_wait line n)
      by_test true is rest =
          let none : waker_under (without_wait q n) l.0 ≡ None = subst (λ (k : ℕ). waker_under (without_wait q n) k ≡ None) (sym (eqb-true l.0 n is)) (gone_waker q n) in
          ap (λ (o : Option W). cond (is_some o) (l ∷ still_waiting (without_wait q n) line) (still_waiting (without_wait q n) line)) none ∙ rest
      by_test false is rest =
          let there : is_some (waker_under (without_wait q n) l.0) ≡ true = ap (λ (o : Option W). is_some o) (other_waker q n l.0 (λ same. let yes = eq-eqb l.0 n same in let both : true ≡ false = sym yes ∙ is in cc)) ∙ all.0 in
          ap (λ (b : Bool). cond b (l ∷ still_waiting (without_wait q n) line) (still_waiting (without_wait q n) line)) there ∙ ap (λ (ls : List (ℕ × ℕ)). l ∷ ls) rest

  pub numbers_without : (q : List (ℕ × W)) (n : ℕ) (line : List (ℕ × ℕ)) → map_list {A = ℕ × ℕ} (λ e. e.0) line ≡ numbers q → map_list {A = ℕ × ℕ} (λ e. e.0) (without_wait line n) ≡ numbers (without_wait q n)
  numbers_without [] n [] same = refl
  numbers_without [] n (l ∷ line) same = absurd (cc)
  numbers_without (e ∷ q) n [] same = absurd (cc)
  numbers_without (e ∷ q) n (l ∷ line) same = by_test (l.0 == n) (e.0 == n) (ap (λ (k : ℕ). k == n) first) (numbers_without q n line others)
    where
      first : l.0 ≡ e.0
      first = cc

      others : map_list {A = ℕ × ℕ} (λ x. x.0) line ≡ numbers q
      others = cc

      by_test : (a b : Bool) → a ≡ b → map_list {A = ℕ × ℕ} (λ x. x.0) (without_wait line n) ≡ numbers (without_wait q n)
          → map_list {A = ℕ × ℕ} (λ x. x.0) (cond a (without_wait line n) (l ∷ without_wait line n)) ≡ numbers (cond b (without_wait q n) (e ∷ without_wait q n))
      by_test true true is rest = rest
      by_test true false is rest = absurd (cc)
      by_test false true is rest = absurd (cc)
      by_test false false is rest = λ i. first i ∷ rest i

  -- the first that waits is granted
  pub rest_still : (e : ℕ × W) (q : List (ℕ × W)) (l : ℕ × ℕ) (line : List (ℕ × ℕ)) → l.0 ≡ e.0 → waker_under q e.0 ≡ None → AllIn q line → still_waiting q (l ∷ line) ≡ line
  rest_still e q l line first apart all =
      let none : waker_under q l.0 ≡ None = ap (λ (n : ℕ). waker_under q n) first ∙ apart in
      ap (λ (o : Option W). cond (is_some o) (l ∷ still_waiting q line) (still_waiting q line)) none ∙ all_still q line all

  -- another that waits is not granted with it
  pub still_none : (m : map.FinMap nat_cmp ℕ) (e : ℕ × W) (q : List (ℕ × W)) (n : ℕ) → waker_under q e.0 ≡ None → IsSome (waker_under q n) → map.get m n ≡ None → map.get (map.insert m e.0 1) n ≡ None
  still_none m e q n apart some none = elim (cases_eq n e.0) [
    | inl same ↦ absurd (let nobody : waker_under q n ≡ None = ap (λ (k : ℕ). waker_under q k) same ∙ apart in let no : false ≡ true = sym (ap (λ (o : Option W). is_some o) nobody) ∙ some in cc)
    | inr differs ↦ get-insert nat_cmp_total m e.0 1 n ∙ ap (λ (b : Bool). cond b (Some 1) (map.get m n)) (untied n e.0 differs) ∙ none
  ]

  pub first_new : (m : map.FinMap nat_cmp ℕ) (e : ℕ × W) (q : List (ℕ × W)) (l : ℕ × ℕ) (line : List (ℕ × ℕ)) → l.0 ≡ e.0 → waker_under q e.0 ≡ None → AllIn q line → ((n : ℕ) → IsSome (waker_under q n) → map.get m n ≡ None)
      → newly_granted (map.insert m e.0 1) (l ∷ line) ≡ l.1 ∷ []
  first_new m e q l line first apart all none =
      let here : map.get (map.insert m e.0 1) l.0 ≡ Some 1 = get-insert nat_cmp_total m e.0 1 l.0 ∙ ap (λ (b : Bool). cond b (Some 1) (map.get m l.0)) (tied l.0 e.0 first) in
      ap (λ (o : Option ℕ). cond (is_some o) (l.1 ∷ newly_granted (map.insert m e.0 1) line) (newly_granted (map.insert m e.0 1) line)) here
      ∙ ap (λ (ls : List ℕ). l.1 ∷ ls) (none_new (map.insert m e.0 1) q line all (λ n some. still_none m e q n apart some (none n some)))

  -- a new wait stands last
  none_last : (q : List (ℕ × W)) (n m : ℕ) (w : W) → m ≢ n → waker_under q m ≡ None → waker_under (q ++ (n, w) ∷ []) m ≡ None
  none_last [] n m w differs none = ap (λ (b : Bool). cond b (Some w) None) (ne_eqb n m (λ same. differs (sym same)))
  none_last (x ∷ q) n m w differs none = by_case (x.0 == m) none (none_last q n m w differs)
    where
      by_case : (b : Bool) → cond b (Some x.1) (waker_under q m) ≡ None → (waker_under q m ≡ None → waker_under (q ++ (n, w) ∷ []) m ≡ None) → cond b (Some x.1) (waker_under (q ++ (n, w) ∷ []) m) ≡ None
      by_case true here rest = absurd (cc)
      by_case false here rest = rest here

  pub apart_last : (q : List (ℕ × W)) (n : ℕ) (w : W) → AreApart q → waker_under q n ≡ None → AreApart (q ++ (n, w) ∷ [])
  apart_last [] n w apart none = (refl, tt)
  apart_last (e ∷ q) n w apart none = by_test (e.0 == n) refl none (apart_last q n w apart.1)
    where
      by_test : (b : Bool) → (e.0 == n) ≡ b → cond b (Some e.1) (waker_under q n) ≡ None → (waker_under q n ≡ None → AreApart (q ++ (n, w) ∷ [])) → AreApart ((e ∷ q) ++ (n, w) ∷ [])
      by_test true is here rest = absurd (cc)
      by_test false is here rest = (none_last q n e.0 w (λ same. let yes = eq-eqb e.0 n same in let both : true ≡ false = sym yes ∙ is in cc) apart.0, rest here)

  -- another waker
  pub rewaked_numbers : (q : List (ℕ × W)) (n : ℕ) (w : W) → numbers (with_waker q n w) ≡ numbers q
  rewaked_numbers [] n w = refl
  rewaked_numbers (e ∷ q) n w = ap (λ (ns : List ℕ). e.0 ∷ ns) (rewaked_numbers q n w)

  pub rewaked_some : (q : List (ℕ × W)) (n m : ℕ) (w : W) → is_some (waker_under (with_waker q n w) m) ≡ is_some (waker_under q m)
  rewaked_some [] n m w = refl
  rewaked_some (e ∷ q) n m w = by_test (e.0 == m) (rewaked_some q n m w)
    where
      by_test : (b : Bool) → is_some (waker_under (with_waker q n w) m) ≡ is_some (waker_under q m) → is_some (cond b (Some (cond (e.0 == n) w e.1)) (waker_under (with_waker q n w) m)) ≡ is_some (cond b (Some e.1) (waker_under q m))
      by_test true rest = refl
      by_test false rest = rest

  none_from : (o : Option W) → is_some o ≡ false → o ≡ None
  none_from None is = refl
  none_from (Some x) is = absurd (cc)

  pub apart_rewaked : (q : List (ℕ × W)) (n : ℕ) (w : W) → AreApart q → AreApart (with_waker q n w)
  apart_rewaked [] n w apart = tt
  apart_rewaked (e ∷ q) n w apart =
      (none_from (waker_under (with_waker q n w) e.0) (rewaked_some q n e.0 w ∙ ap (λ (o : Option W). is_some o) apart.0), apart_rewaked q n w apart.1)

  -- who waits once one more does
  pub last_some : (q : List (ℕ × W)) (n m : ℕ) (w : W) → IsSome (waker_under (q ++ (n, w) ∷ []) m) → IsSome (waker_under q m) ⊎ (m ≡ n)
  last_some [] n m w some = elim (cases_eq n m) [
    | inl same ↦ inr (sym same)
    | inr differs ↦ absurd (let none : is_some (cond (n == m) (Some w) None) ≡ false = ap (λ (b : Bool). is_some {T = W} (cond b (Some w) None)) (ne_eqb n m differs) in let both : false ≡ true = sym none ∙ some in cc)
  ]
  last_some (e ∷ q) n m w some = by_test (e.0 == m) (last_some q n m w) some
    where
      by_test : (b : Bool) → (IsSome (waker_under (q ++ (n, w) ∷ []) m) → IsSome (waker_under q m) ⊎ (m ≡ n)) → IsSome (cond b (Some e.1) (waker_under (q ++ (n, w) ∷ []) m)) → IsSome (cond b (Some e.1) (waker_under q m)) ⊎ (m ≡ n)
      by_test true rest here = inl refl
      by_test false rest here = rest here
