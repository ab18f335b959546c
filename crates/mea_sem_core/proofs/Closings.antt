-- that a closed semaphore's queue has debts only, as the queue changes
use Rattle.std.proofs.Common.{◌≡◌, ℕ, ◌+◌, Bool, true, false, cond, List, [], ◌∷◌, filter, nat_lt, Some, refl, sym, subst, ◌∙◌}
use Rattle.std.specs.Ordering.{nat_cmp}
use Rattle.std.specs.FinMap as fin
use Rattle.std.specs.FinMap.{get-empty}
use Rattle.mea_base.specs.Queue.{lacks_after, waiting_after}
use Rattle.mea_sem_core.specs.Core.{Waiter, Acquires, Owes, only_debts, HasOnlyDebts, CutsWhereClosed}
use Rattle.mea_sem_core.specs.Calls.{with_waker, without_acquire}

module _ {W : Type 0} where
  pub only_debts_with_waker : (q : List (Waiter W × ℕ)) (n : ℕ) (w : W) → HasOnlyDebts q → HasOnlyDebts (with_waker q n w)
  only_debts_with_waker [] n w h = tt
  only_debts_with_waker ((Acquires m d v, l) ∷ q) n w h = absurd h
  only_debts_with_waker ((Owes, l) ∷ q) n w h = only_debts_with_waker q n w h

  pub only_debts_without : (q : List (Waiter W × ℕ)) (n : ℕ) → HasOnlyDebts q → HasOnlyDebts (without_acquire q n)
  only_debts_without [] n h = tt
  only_debts_without ((Acquires m d v, l) ∷ q) n h = absurd h
  only_debts_without ((Owes, l) ∷ q) n h = only_debts_without q n h

  only_debts_lacks_after : (q : List (Waiter W × ℕ)) (before n : ℕ) → HasOnlyDebts q → HasOnlyDebts (lacks_after before q n)
  only_debts_lacks_after [] before n h = tt
  only_debts_lacks_after ((Acquires m d v, l) ∷ q) before n h = absurd h
  only_debts_lacks_after ((Owes, l) ∷ q) before n h = only_debts_lacks_after q (before + l) n h

  only_debts_filter : (p : Waiter W × ℕ → Bool) (q : List (Waiter W × ℕ)) → HasOnlyDebts q → HasOnlyDebts (filter p q)
  only_debts_filter p [] h = tt
  only_debts_filter p ((Acquires m d v, l) ∷ q) h = absurd h
  only_debts_filter p ((Owes, l) ∷ q) h =
      elim (p (Owes, l)) as (λ b. HasOnlyDebts (cond b ((Owes, l) ∷ filter p q) (filter p q)))
      [ true ↦ only_debts_filter p q h | false ↦ only_debts_filter p q h ]

  pub only_debts_waiting_after : (q : List (Waiter W × ℕ)) (n : ℕ) → HasOnlyDebts q → HasOnlyDebts (waiting_after q n)
  only_debts_waiting_after q n h = only_debts_filter (λ e. nat_lt 0 e.1) (lacks_after 0 q n) (only_debts_lacks_after q 0 n h)

  -- what is left of a queue without its acquires
  pub only_debts_left : (q : List (Waiter W × ℕ)) → HasOnlyDebts (only_debts q)
  only_debts_left [] = tt
  only_debts_left ((Acquires m d v, l) ∷ q) = only_debts_left q
  only_debts_left ((Owes, l) ∷ q) = only_debts_left q

  -- a change that keeps both keeps it
  pub closing_kept : (closed : Bool) (q q' : List (Waiter W × ℕ)) (cut cut' : fin.FinMap nat_cmp ℕ) → (HasOnlyDebts q → HasOnlyDebts q')
      → (cut ≡ fin.empty → cut' ≡ fin.empty) → CutsWhereClosed closed q cut → CutsWhereClosed closed q' cut'
  closing_kept true q q' cut cut' debts none h = debts h
  closing_kept false q q' cut cut' debts none h = none h

  pub closing_same : (closed : Bool) (q q' : List (Waiter W × ℕ)) (cut cut' : fin.FinMap nat_cmp ℕ) → q' ≡ q → cut' ≡ cut
      → CutsWhereClosed closed q cut → CutsWhereClosed closed q' cut'
  closing_same closed q q' cut cut' same same_cut h =
      closing_kept closed q q' cut cut' (λ debts. subst HasOnlyDebts (sym same) debts) (λ none. same_cut ∙ none) h

  pub closing_rewoken : (closed : Bool) (q q' : List (Waiter W × ℕ)) (cut cut' : fin.FinMap nat_cmp ℕ) (n : ℕ) (w : W) → q' ≡ with_waker q n w
      → cut' ≡ cut → CutsWhereClosed closed q cut → CutsWhereClosed closed q' cut'
  closing_rewoken closed q q' cut cut' n w is same_cut h =
      closing_kept closed q q' cut cut' (λ debts. subst HasOnlyDebts (sym is) (only_debts_with_waker q n w debts)) (λ none. same_cut ∙ none) h

  pub closing_poured : (closed : Bool) (q q' : List (Waiter W × ℕ)) (cut cut' : fin.FinMap nat_cmp ℕ) (n : ℕ) → q' ≡ waiting_after q n
      → cut' ≡ cut → CutsWhereClosed closed q cut → CutsWhereClosed closed q' cut'
  closing_poured closed q q' cut cut' n is same_cut h =
      closing_kept closed q q' cut cut' (λ debts. subst HasOnlyDebts (sym is) (only_debts_waiting_after q n debts)) (λ none. same_cut ∙ none) h

  pub closing_owing : (closed : Bool) (q q' : List (Waiter W × ℕ)) (cut cut' : fin.FinMap nat_cmp ℕ) (lack : ℕ) → q' ≡ (Owes, lack) ∷ q
      → cut' ≡ cut → CutsWhereClosed closed q cut → CutsWhereClosed closed q' cut'
  closing_owing closed q q' cut cut' lack is same_cut h =
      closing_kept closed q q' cut cut' (λ debts. subst HasOnlyDebts (sym is) debts) (λ none. same_cut ∙ none) h

  -- a number is cut where the semaphore is closed alone
  pub closed_where_cut : (closed : Bool) (q : List (Waiter W × ℕ)) (cut : fin.FinMap nat_cmp ℕ) (n demand : ℕ) → CutsWhereClosed closed q cut
      → fin.get cut n ≡ Some demand → closed ≡ true
  closed_where_cut true q cut n demand h found = refl
  closed_where_cut false q cut n demand h found = absurd (let none = rw h at found in let empty = get-empty {X = ℕ} nat_cmp n in cc)

  -- so where one is taken away, debts alone wait as before
  pub closing_dropped : (closed : Bool) (q q' : List (Waiter W × ℕ)) (cut cut' : fin.FinMap nat_cmp ℕ) (n demand : ℕ) → fin.get cut n ≡ Some demand
      → q' ≡ q → CutsWhereClosed closed q cut → CutsWhereClosed closed q' cut'
  closing_dropped true q q' cut cut' n demand found same h = subst HasOnlyDebts (sym same) h
  closing_dropped false q q' cut cut' n demand found same h = absurd (let none = rw h at found in let empty = get-empty {X = ℕ} nat_cmp n in cc)
