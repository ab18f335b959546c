-- permits that are poured, as the model sees them
use Rattle.std.proofs.Common.{◌≡◌, ℕ, ◌+◌, ◌-◌, ◌==◌, true, false, cond, List, [], ◌∷◌, ap, sym, ◌∙◌}
use Rattle.mea_base.specs.Queue.{left_over}
use Rattle.mea_base.proofs.Queues.{lacks-map}
use Rattle.mea_by_name.specs.declared.named_waker.NamedWaker.{NamedWaker}
use Rattle.mea_sem_core.specs.Core.{Core, Waiter, Acquires, Owes, HasNoDebt, poured}
use Rattle.mea_sem_core.specs.Calls.{without_acquire}
use Rattle.mea_cores_by_name.specs.Linked.{who_of, names_in}

abbrev Queue : Type 0
Queue = List (Waiter NamedWaker × ℕ)

pub no_debt_without : (q : Queue) (n : ℕ) → HasNoDebt q → HasNoDebt (without_acquire q n)
no_debt_without [] n none = tt
no_debt_without ((Acquires m d k, l) ∷ q) n none = elim (m == n) as (λ b. HasNoDebt (cond b (without_acquire q n) ((Acquires m d k, l) ∷ without_acquire q n))) [
  | true ↦ no_debt_without q n none
  | false ↦ no_debt_without q n none
]
no_debt_without ((Owes, l) ∷ q) n none = absurd none

-- t are the permits b after n were poured
module _ (b t : Core NamedWaker) (n : ℕ) (quiet : b.wakes ≡ []) (is : t ≡ poured b n) (none : HasNoDebt b.queue) where
  pub free_poured : t.free ≡ b.free + left_over (names_in b.queue) n
  free_poured = ap (λ (s : Core NamedWaker). s.free) is ∙ ap (λ k. b.free + (n - k)) (sym (lacks-map who_of b.queue))
