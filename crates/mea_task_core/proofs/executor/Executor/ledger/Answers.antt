use Rattle.std.proofs.Common.{sym, subst, refl, ◌<◌, ◌^◌}
use Rattle.std.specs.Result.{IfOk}
use Rattle.mea_sem.specs.Play.{Plays}
use Rattle.mea_events.specs.declared.sem_event.SemEvent.TheVariants as events
use Rattle.mea_task_core.specs.contracts.executor.Executor.{the_view}
use Rattle.mea_task_core.specs.Machine.{Machine}
use Rattle.mea_task_core.proofs.Adds.{kept_told}
use Rattle.mea_task_core.proofs.executor.Executor.ledger.Goals as goal

pub invariant_of-self : goal.invariant_of-self
invariant_of-self c =
    let m : Machine = the_view c.self.inside in
    let few : c.self.inside.events < 2 ^ 62 = subst (λ (a : Machine). a.events < 2 ^ 62) (sym c.self.view_is) c.requires.few in
    kept_told m c.self.inside.hall c.act-answer.new.self c.index-name.result.now c.in-Ok-Account.field-0 c.self.inside.queue.room c.self.invariant refl few
    (subst (λ r. IfOk r (λ reply. Plays c.self.inside.hall c.self.inside.events (events.Ledger c.index-name.result.now) reply c.act-answer.new.self)) c.in-Ok-Account.is c.act-answer.ensures.played)
