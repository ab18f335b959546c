use Rattle.std.proofs.Common.{◌<◌, length, ap, sym, ◌∙◌, arith, subst}
use Rattle.std.specs.List.{slice_get}
use Rattle.std.proofs.lemmas.Option.{slice_get_read}
use Rattle.mea_recorded.specs.History.{History}
use Rattle.mea_recorded.proofs.Histories.{length-history}
use Rattle.mea_recorded.proofs.recorded.Recorded.entry_at.Goals as goal

pub answer-requires : goal.answer-requires
answer-requires c =
    let within = subst (λ (h : History). c.args.number < length h.events) (sym c.self.view_is) c.requires in
    let same = length-history _ c.self.invariant.history in
    omega (arith, within, same)

pub returns-clause-event : goal.returns-clause-event
returns-clause-event c =
    let within = subst (λ (h : History). c.args.number < length h.events) (sym c.self.view_is) c.requires in
    sym (ap (λ (h : History). slice_get h.events c.args.number) c.self.view_is)
    ∙ slice_get_read c.self.inside.events.items c.self.inside.events.len c.args.number c.index.result.now c.self.inside.events.ok.0 (omega (arith, within, c.self.inside.events.ok.0)) c.index.ensures
