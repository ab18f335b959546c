use Rattle.std.proofs.Common.{ℕ, ap, sym, ◌∙◌}
use Rattle.mea_base.specs.Ready.{Waking}
use Rattle.mea_base.proofs.Totals.{total-empty}
use Rattle.mea_family.specs.Play.{Part}
use Rattle.mea_sem_model.specs.Hall.{Hall, Semaphore}
use Rattle.mea_sem_model.specs.Waiters.{waiters, waiters_in}
use Rattle.mea_sem.proofs.hall.SemHall.new.Goals as goal

pub invariant_of-result : goal.invariant_of-result
invariant_of-result c = ap (λ (w : Waking ℕ). w.registered) c.new-2.ensures
    ∙ sym (ap (λ (p : Part Hall). waiters p.hall) c.new.ensures ∙ total-empty (λ s (r : Semaphore). waiters_in r.queue))
