use Rattle.std.proofs.Common.{◌⊎◌, ℕ, Any, subst}
use Rattle.mea_events.specs.declared.sem_event.SemEvent.TheVariants.{New}
use Rattle.mea_recorded.specs.Closing.{Explains, BeginsOtherwise}
use Rattle.mea_crew_run.proofs.Mismatches.{of_close}
use Rattle.mea_crew_run.proofs.sharing.crew_in.Goals as goal

pub returns-in-Err-close-clause-fault : goal.returns-in-Err-close-clause-fault
returns-in-Err-close-clause-fault g c =
    let h = c.in-Err-close.recorded in
    let m = c.in-Err-close.mismatch in
    of_close (λ p. p.noted.items) c.args.rounds h m c.in-Ok-gather.passes.items c.entries-entries.ensures.history c.in-Ok-gather.ensures.rounds
    (subst (λ (k : ℕ). Any (λ p. Explains h m p.noted.items) c.in-Ok-gather.passes.items ⊎ BeginsOtherwise h (New k) m) c.in-Ok.ensures.permits c.in-Err-close.ensures.explained)
