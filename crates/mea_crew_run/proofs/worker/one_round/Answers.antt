use Rattle.std.proofs.Common.{rules, ◌++◌, ◌∷◌, [], ap, sym, ◌∙◌, refl, append_assoc}
use Rattle.mea_events.specs.declared.sem_event.SemEvent.TheVariants.{Try, End}
use Rattle.mea_recorded.specs.declared.pass.Noted.{Noted}
use Rattle.mea_crew_run.specs.Rounds.{Misses, Passes, StopsWorker}
use Rattle.mea_crew_run.proofs.Rounds.{end_stops}
use Rattle.mea_crew_run.proofs.worker.one_round.Goals as goal

pub returns-in_ok-act-clause-done : goal.returns-in_ok-act-clause-done
returns-in_ok-act-clause-done g c =
    let n : Noted = record { asked = Try 0 1; receipt = c.in_ok-tried.tried } in
    let m : Noted = record { asked = End c.in_ok-tried.tried.number; receipt = c.in_ok-act.field-0 } in (
      n ∷ m ∷ [],
      c.in_ok-act.ensures.noted ∙ ap (λ ns. ns ++ m ∷ []) c.in_ok-tried.ensures.noted ∙ append_assoc c.args.pass.now.noted.items (n ∷ []) (m ∷ []),
      Passes n m refl (sym c.is_held.ensures ∙ c.if-is_held.true) refl,
    )

pub returns-else-is_held-clause-done : goal.returns-else-is_held-clause-done
returns-else-is_held-clause-done g c =
    let n : Noted = record { asked = Try 0 1; receipt = c.in_ok-tried.tried } in (
      n ∷ [],
      c.in_ok-tried.ensures.noted,
      Misses n refl (sym c.is_held.ensures ∙ c.if-is_held.false),
    )

pub returns-in_err-act-clause-fault : goal.returns-in_err-act-clause-fault
returns-in_err-act-clause-fault g c =
    let stops : StopsWorker c.in_err-act.field-0.0 = end_stops c.in_ok-tried.tried.number c.in_ok-tried.tried.answer c.in_err-act.field-0.0 c.in_ok-tried.ensures.answered (sym c.is_held.ensures ∙ c.if-is_held.true) c.in_err-act.ensures.refused in
    search rules
