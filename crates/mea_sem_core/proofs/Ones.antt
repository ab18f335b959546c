-- pours into a queue in which each asks for one permit: the first so many are granted
use Rattle.std.proofs.Common.{◌≡◌, ◌∙◌, ℕ, zero, suc, ◌+◌, ◌-◌, ◌≤◌, ◌==◌, ◌++◌, Bool, true, false, cond, nat_lt, min, List, [], ◌∷◌, take, drop, filter, length, refl, ap, arith, append-nil}
use Rattle.std.specs.Prelude.{map as map_list}
use Rattle.std.specs.Ordering.{nat_cmp}
use Rattle.std.specs.FinMap as map
use Rattle.std.proofs.lemmas.Bool.Decides.{nat_tests}
use Rattle.std.proofs.lemmas.List.Sums.{sum_by-cons}
use Rattle.mea_base.specs.Queue.{lacks, lacks_after, waiting_after, granted_in, left_over}
use Rattle.mea_sem_core.specs.Core.{Waiter, Acquires, Owes, HasNoDebt, poured, granting, paid_to_debts, debts, wakers_of}
use Rattle.mea_sem_core.specs.Calls.{with_waker, without_acquire}
use Rattle.mea_sem_core.specs.Ones.{AskForOne}

module _ {W : Type 0} where
  pub ones_no_debt : (q : List (Waiter W × ℕ)) → AskForOne q → HasNoDebt q
  ones_no_debt [] h = tt
  ones_no_debt ((Acquires n d w, lack) ∷ q) h = ones_no_debt q h.2
  ones_no_debt ((Owes, lack) ∷ q) h = absurd h

  pub ones_debts : (q : List (Waiter W × ℕ)) → AskForOne q → debts q ≡ 0
  ones_debts [] h = refl
  ones_debts ((Acquires n d w, lack) ∷ q) h = ones_debts q h.2
  ones_debts ((Owes, lack) ∷ q) h = absurd h

  pub ones_lacks : (q : List (Waiter W × ℕ)) → AskForOne q → lacks q ≡ length q
  ones_lacks [] h = refl
  ones_lacks ((Acquires n d w, lack) ∷ q) h = omega (arith, h.1, ones_lacks q h.2, sum_by-cons {X = Waiter W × ℕ} (λ e. e.1) (Acquires n d w, lack) q)
  ones_lacks ((Owes, lack) ∷ q) h = absurd h

  -- ---- what is left of the queue, and who is granted

  left_from : (q : List (Waiter W × ℕ)) (before n : ℕ) → AskForOne q → filter {X = Waiter W × ℕ} (λ e. nat_lt 0 e.1) (lacks_after before q n) ≡ drop (n - before) q
  left_from [] before n h = by_number (n - before)
    where
      by_number : (k : ℕ) → ◌≡◌ {A = List (Waiter W × ℕ)} [] (drop k [])
      by_number zero = refl
      by_number (suc k) = refl
  left_from ((Acquires m d w, lack) ∷ q) before n h = by_number (n - before) refl (left_from q (before + lack) n h.2)
    where
      by_number : (k : ℕ) → n - before ≡ k → filter {X = Waiter W × ℕ} (λ e. nat_lt 0 e.1) (lacks_after (before + lack) q n) ≡ drop (n - (before + lack)) q
          → filter {X = Waiter W × ℕ} (λ e. nat_lt 0 e.1) (lacks_after before ((Acquires m d w, lack) ∷ q) n) ≡ drop k ((Acquires m d w, lack) ∷ q)
      by_number zero is rest =
          let one : lack ≡ 1 = h.1 in
          let still : min lack (before + lack - n) ≡ lack = omega arith in
          let waits : nat_lt 0 lack ≡ true = grind (arith, nat_tests) in
          let none : n - (before + lack) ≡ 0 = omega arith in
          ap (λ l. filter {X = Waiter W × ℕ} (λ e. nat_lt 0 e.1) ((Acquires m d w, l) ∷ lacks_after (before + lack) q n)) still
          ∙ ap (λ b. cond b ((Acquires m d w, lack) ∷ filter {X = Waiter W × ℕ} (λ e. nat_lt 0 e.1) (lacks_after (before + lack) q n)) (filter {X = Waiter W × ℕ} (λ e. nat_lt 0 e.1) (lacks_after (before + lack) q n))) waits
          ∙ ap (λ es. (Acquires m d w, lack) ∷ es) (rest ∙ ap (λ k. drop k q) none)
      by_number (suc k) is rest =
          let one : lack ≡ 1 = h.1 in
          let paid : min lack (before + lack - n) ≡ 0 = omega arith in
          let less : n - (before + lack) ≡ k = omega arith in
          ap (λ l. filter {X = Waiter W × ℕ} (λ e. nat_lt 0 e.1) ((Acquires m d w, l) ∷ lacks_after (before + lack) q n)) paid ∙ rest ∙ ap (λ j. drop j q) less
  left_from ((Owes, lack) ∷ q) before n h = absurd h

  -- the first n leave the queue
  pub ones_left : (q : List (Waiter W × ℕ)) (n : ℕ) → AskForOne q → waiting_after q n ≡ drop n q
  ones_left q n h = let all : n - 0 ≡ n = omega arith in left_from q 0 n h ∙ ap (λ k. drop k q) all

  pub take_none : (q : List (Waiter W × ℕ)) → take 0 q ≡ []
  take_none [] = refl
  take_none (e ∷ q) = refl

  granted_from : (q : List (Waiter W × ℕ)) (before n : ℕ) → AskForOne q
      → map_list {A = Waiter W × ℕ} (λ e. e.0) (filter {X = Waiter W × ℕ} (λ e. e.1 == 0) (lacks_after before q n)) ≡ map_list {A = Waiter W × ℕ} (λ e. e.0) (take (n - before) q)
  granted_from [] before n h = by_number (n - before)
    where
      by_number : (k : ℕ) → [] ≡ map_list {A = Waiter W × ℕ} (λ e. e.0) (take k [])
      by_number zero = refl
      by_number (suc k) = refl
  granted_from ((Acquires m d w, lack) ∷ q) before n h = by_number (n - before) refl (granted_from q (before + lack) n h.2)
    where
      by_number : (k : ℕ) → n - before ≡ k → map_list {A = Waiter W × ℕ} (λ e. e.0) (filter {X = Waiter W × ℕ} (λ e. e.1 == 0) (lacks_after (before + lack) q n)) ≡ map_list {A = Waiter W × ℕ} (λ e. e.0) (take (n - (before + lack)) q)
          → map_list {A = Waiter W × ℕ} (λ e. e.0) (filter {X = Waiter W × ℕ} (λ e. e.1 == 0) (lacks_after before ((Acquires m d w, lack) ∷ q) n)) ≡ map_list {A = Waiter W × ℕ} (λ e. e.0) (take k ((Acquires m d w, lack) ∷ q))
      by_number zero is rest =
          let one : lack ≡ 1 = h.1 in
          let still : min lack (before + lack - n) ≡ lack = omega arith in
          let waits : (lack == 0) ≡ false = grind (arith, nat_tests) in
          let none : n - (before + lack) ≡ 0 = omega arith in
          ap (λ l. map_list {A = Waiter W × ℕ} (λ e. e.0) (filter {X = Waiter W × ℕ} (λ e. e.1 == 0) ((Acquires m d w, l) ∷ lacks_after (before + lack) q n))) still
          ∙ ap (λ b. map_list {A = Waiter W × ℕ} (λ e. e.0) (cond b ((Acquires m d w, lack) ∷ filter {X = Waiter W × ℕ} (λ e. e.1 == 0) (lacks_after (before + lack) q n)) (filter {X = Waiter W × ℕ} (λ e. e.1 == 0) (lacks_after (before + lack) q n)))) waits
          ∙ rest ∙ ap (λ k. map_list {A = Waiter W × ℕ} (λ e. e.0) (take k q)) none ∙ ap (λ es. map_list {A = Waiter W × ℕ} (λ e. e.0) es) (take_none q)
      by_number (suc k) is rest =
          let one : lack ≡ 1 = h.1 in
          let paid : min lack (before + lack - n) ≡ 0 = omega arith in
          let less : n - (before + lack) ≡ k = omega arith in
          ap (λ l. map_list {A = Waiter W × ℕ} (λ e. e.0) (filter {X = Waiter W × ℕ} (λ e. e.1 == 0) ((Acquires m d w, l) ∷ lacks_after (before + lack) q n))) paid
          ∙ ap (λ es. Acquires m d w ∷ es) (rest ∙ ap (λ j. map_list {A = Waiter W × ℕ} (λ e. e.0) (take j q)) less)
  granted_from ((Owes, lack) ∷ q) before n h = absurd h

  -- the first n are granted
  pub ones_granted : (q : List (Waiter W × ℕ)) (n : ℕ) → AskForOne q → granted_in q n ≡ map_list {A = Waiter W × ℕ} (λ e. e.0) (take n q)
  ones_granted q n h = let all : n - 0 ≡ n = omega arith in granted_from q 0 n h ∙ ap (λ k. map_list {A = Waiter W × ℕ} (λ e. e.0) (take k q)) all

  -- nothing is poured
  pub poured_nothing : (q : List (Waiter W × ℕ)) (free live : ℕ) (granted cut : map.FinMap nat_cmp ℕ) (closed : Bool) (wakes : List W) → AskForOne q
      → poured (record { free = free; live = live; queue = q; granted = granted; cut = cut; closed = closed; wakes = wakes }) 0 ≡ record { free = free; live = live; queue = q; granted = granted; cut = cut; closed = closed; wakes = wakes }
  poured_nothing q free live granted cut closed wakes a =
      let nobody : granted_in q 0 ≡ [] = ones_granted q 0 a ∙ ap (λ (es : List (Waiter W × ℕ)). map_list {A = Waiter W × ℕ} (λ e. e.0) es) (take_none q) in
      let f : free + left_over q 0 ≡ free = omega arith in
      let none : debts q ≡ 0 = ones_debts q a in
      let l : live + 0 - paid_to_debts q 0 ≡ live = omega arith in
      λ i. record { free = f i; live = l i; queue = ones_left q 0 a i; granted = ap (granting granted) nobody i; cut = cut; closed = closed; wakes = (ap (λ es. wakes ++ wakers_of es) nobody ∙ append-nil wakes) i }

  -- each of them has a waker
  pub wakers_of_ones : (q : List (Waiter W × ℕ)) → AskForOne q → length (wakers_of (map_list {A = Waiter W × ℕ} (λ e. e.0) q)) ≡ length q
  wakers_of_ones [] h = refl
  wakers_of_ones ((Acquires n d w, lack) ∷ q) h = omega (arith, wakers_of_ones q h.2)
  wakers_of_ones ((Owes, lack) ∷ q) h = absurd h

  -- ---- what keeps them so

  pub ones_drop : (q : List (Waiter W × ℕ)) (n : ℕ) → AskForOne q → AskForOne (drop n q)
  ones_drop q zero h = h
  ones_drop [] (suc n) h = tt
  ones_drop ((Acquires m d w, lack) ∷ q) (suc n) h = ones_drop q n h.2
  ones_drop ((Owes, lack) ∷ q) (suc n) h = absurd h

  pub ones_take : (q : List (Waiter W × ℕ)) (n : ℕ) → AskForOne q → AskForOne (take n q)
  ones_take [] zero h = tt
  ones_take [] (suc n) h = tt
  ones_take (e ∷ q) zero h = tt
  ones_take ((Acquires m d w, lack) ∷ q) (suc n) h = (h.0, h.1, ones_take q n h.2)
  ones_take ((Owes, lack) ∷ q) (suc n) h = absurd h

  pub ones_append : (q : List (Waiter W × ℕ)) (k lack : ℕ) (w : W) → lack ≡ 1 → AskForOne q → AskForOne (q ++ (Acquires k 1 w, lack) ∷ [])
  ones_append [] k lack w one h = (refl, one, tt)
  ones_append ((Acquires m d u, l) ∷ q) k lack w one h = (h.0, h.1, ones_append q k lack w one h.2)
  ones_append ((Owes, l) ∷ q) k lack w one h = absurd h

  pub ones_rewaked : (q : List (Waiter W × ℕ)) (n : ℕ) (w : W) → AskForOne q → AskForOne (with_waker q n w)
  ones_rewaked [] n w h = tt
  ones_rewaked ((Acquires m d u, l) ∷ q) n w h = (h.0, h.1, ones_rewaked q n w h.2)
  ones_rewaked ((Owes, l) ∷ q) n w h = absurd h

  pub ones_without : (q : List (Waiter W × ℕ)) (n : ℕ) → AskForOne q → AskForOne (without_acquire q n)
  ones_without [] n h = tt
  ones_without ((Acquires m d u, l) ∷ q) n h = by_test (m == n) (ones_without q n h.2)
    where
      by_test : (b : Bool) → AskForOne (without_acquire q n) → AskForOne (cond b (without_acquire q n) ((Acquires m d u, l) ∷ without_acquire q n))
      by_test true rest = rest
      by_test false rest = (h.0, h.1, rest)
  ones_without ((Owes, l) ∷ q) n h = absurd h

  pub length-rewaked : (q : List (Waiter W × ℕ)) (n : ℕ) (w : W) → length (with_waker q n w) ≡ length q
  length-rewaked [] n w = refl
  length-rewaked ((Acquires m d u, l) ∷ q) n w = omega (arith, length-rewaked q n w)
  length-rewaked ((Owes, l) ∷ q) n w = omega (arith, length-rewaked q n w)

  pub length-without : (q : List (Waiter W × ℕ)) (n : ℕ) → length (without_acquire q n) ≤ length q
  length-without [] n = omega arith
  length-without ((Acquires m d u, l) ∷ q) n = by_test (m == n) (length-without q n)
    where
      by_test : (b : Bool) → length (without_acquire q n) ≤ length q → length (cond b (without_acquire q n) ((Acquires m d u, l) ∷ without_acquire q n)) ≤ suc (length q)
      by_test true less = omega (arith, less)
      by_test false less = omega (arith, less)
  length-without ((Owes, l) ∷ q) n = omega (arith, length-without q n)
