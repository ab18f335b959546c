-- where the debts of a queue stand, as the queue changes
use Rattle.std.proofs.Common.{◌≡◌, ℕ, ◌+◌, ◌≤◌, Bool, true, false, cond, List, [], ◌∷◌, ◌++◌, filter, nat_lt, refl, inl, inr, arith}
use Rattle.std.proofs.lemmas.Bool.{cases_eq, cond-false, ne_eqb}
use Rattle.mea_base.specs.Queue.{lacks_after, waiting_after}
use Rattle.mea_base.proofs.Tests.{test_same, test_differs}
use Rattle.mea_sem_core.specs.Core.{Waiter, Acquires, Owes, debts, paid_to_debts, HasNoDebt, HasDebtsFirst}
use Rattle.mea_sem_core.specs.Calls.{with_waker, without_acquire, with_debt}
use Rattle.mea_sem_core.proofs.Pours.{debts-cons}

module _ {W : Type 0} where
  -- ---- a queue with no debt
  pub no_debt_append : (q : List (Waiter W × ℕ)) (n demand lack : ℕ) (w : W) → HasNoDebt q → HasNoDebt (q ++ (Acquires n demand w, lack) ∷ [])
  no_debt_append [] n demand lack w h = tt
  no_debt_append ((Acquires m d v, l) ∷ q) n demand lack w h = no_debt_append q n demand lack w h
  no_debt_append ((Owes, l) ∷ q) n demand lack w h = absurd h

  pub no_debt_with_waker : (q : List (Waiter W × ℕ)) (n : ℕ) (w : W) → HasNoDebt q → HasNoDebt (with_waker q n w)
  no_debt_with_waker [] n w h = tt
  no_debt_with_waker ((Acquires m d v, l) ∷ q) n w h = no_debt_with_waker q n w h
  no_debt_with_waker ((Owes, l) ∷ q) n w h = absurd h

  pub no_debt_without : (q : List (Waiter W × ℕ)) (n : ℕ) → HasNoDebt q → HasNoDebt (without_acquire q n)
  no_debt_without [] n h = tt
  no_debt_without ((Acquires m d v, l) ∷ q) n h =
      let rest = no_debt_without q n h in
      elim (cases_eq m n) [ inl same ↦ rw (test_same m n same) rest | inr differs ↦ rw (test_differs m n differs) rest ]
  no_debt_without ((Owes, l) ∷ q) n h = absurd h

  no_debt_lacks_after : (q : List (Waiter W × ℕ)) (before n : ℕ) → HasNoDebt q → HasNoDebt (lacks_after before q n)
  no_debt_lacks_after [] before n h = tt
  no_debt_lacks_after ((Acquires m d v, l) ∷ q) before n h = no_debt_lacks_after q (before + l) n h
  no_debt_lacks_after ((Owes, l) ∷ q) before n h = absurd h

  no_debt_filter : (p : Waiter W × ℕ → Bool) (q : List (Waiter W × ℕ)) → HasNoDebt q → HasNoDebt (filter p q)
  no_debt_filter p [] h = tt
  no_debt_filter p ((Acquires m d v, l) ∷ q) h =
      elim (p (Acquires m d v, l)) as (λ b. HasNoDebt (cond b ((Acquires m d v, l) ∷ filter p q) (filter p q)))
      [ true ↦ no_debt_filter p q h | false ↦ no_debt_filter p q h ]
  no_debt_filter p ((Owes, l) ∷ q) h = absurd h

  pub no_debt_waiting_after : (q : List (Waiter W × ℕ)) (n : ℕ) → HasNoDebt q → HasNoDebt (waiting_after q n)
  no_debt_waiting_after q n h = no_debt_filter (λ e. nat_lt 0 e.1) (lacks_after 0 q n) (no_debt_lacks_after q 0 n h)

  debts_none : (q : List (Waiter W × ℕ)) → HasNoDebt q → debts q ≡ 0
  debts_none [] h = refl
  debts_none ((Acquires m d v, l) ∷ q) h = omega (arith, debts-cons (Acquires m d v, l) q, debts_none q h)
  debts_none ((Owes, l) ∷ q) h = absurd h

  pub paid_to_none : (q : List (Waiter W × ℕ)) (n : ℕ) → HasNoDebt q → paid_to_debts q n ≡ 0
  paid_to_none q n h = let none = debts_none q h in omega (arith, none)

  -- ---- a queue whose debts stand first
  pub debts_first_from_none : (q : List (Waiter W × ℕ)) → HasNoDebt q → HasDebtsFirst q
  debts_first_from_none [] h = tt
  debts_first_from_none ((Acquires m d v, l) ∷ q) h = h
  debts_first_from_none ((Owes, l) ∷ q) h = absurd h

  pub debts_first_tail : (e : Waiter W × ℕ) (q : List (Waiter W × ℕ)) → HasDebtsFirst (e ∷ q) → HasDebtsFirst q
  debts_first_tail (Acquires m d v, l) q h = debts_first_from_none q h
  debts_first_tail (Owes, l) q h = h

  pub debts_first_part : (e : Waiter W × ℕ) (q : List (Waiter W × ℕ)) (lack : ℕ) → HasDebtsFirst (e ∷ q) → HasDebtsFirst ((e.0, lack) ∷ q)
  debts_first_part (Acquires m d v, l) q lack h = h
  debts_first_part (Owes, l) q lack h = h

  pub debts_first_append : (q : List (Waiter W × ℕ)) (n demand lack : ℕ) (w : W) → HasDebtsFirst q → HasDebtsFirst (q ++ (Acquires n demand w, lack) ∷ [])
  debts_first_append [] n demand lack w h = tt
  debts_first_append ((Acquires m d v, l) ∷ q) n demand lack w h = no_debt_append q n demand lack w h
  debts_first_append ((Owes, l) ∷ q) n demand lack w h = debts_first_append q n demand lack w h

  pub debts_first_with_waker : (q : List (Waiter W × ℕ)) (n : ℕ) (w : W) → HasDebtsFirst q → HasDebtsFirst (with_waker q n w)
  debts_first_with_waker [] n w h = tt
  debts_first_with_waker ((Acquires m d v, l) ∷ q) n w h = no_debt_with_waker q n w h
  debts_first_with_waker ((Owes, l) ∷ q) n w h = debts_first_with_waker q n w h

  pub debts_first_without : (q : List (Waiter W × ℕ)) (n : ℕ) → HasDebtsFirst q → HasDebtsFirst (without_acquire q n)
  debts_first_without [] n h = tt
  debts_first_without ((Acquires m d v, l) ∷ q) n h =
      let rest = no_debt_without q n h in
      elim (cases_eq m n) [
        | inl same ↦ rw (test_same m n same) (debts_first_from_none (without_acquire q n) rest)
        | inr differs ↦ rw
            (test_differs m n differs) rest
      ]
  debts_first_without ((Owes, l) ∷ q) n h = debts_first_without q n h

  -- ---- a debt at the head
  pub with_debt_some : (q : List (Waiter W × ℕ)) (n : ℕ) → 1 ≤ n → with_debt q n ≡ (Owes, n) ∷ q
  with_debt_some q n some = cond-false _ _ _ (ne_eqb n 0 (λ none. omega (arith, some, none)))
