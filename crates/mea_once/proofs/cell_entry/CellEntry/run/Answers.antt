use Rattle.std.proofs.Common.{ap, sym, subst, ◌∙◌, refl, true}
use Rattle.mea_family.specs.declared.answer.Answer.{Answer}
use Rattle.mea_family.specs.declared.answer.Answer.TheVariants.{Failure}
use Rattle.mea_once.specs.Entries.{Ran}
use Rattle.mea_once.proofs.Turns.{gives_by, fails_by}
use Rattle.mea_once.proofs.cell_entry.CellEntry.run.Goals as goal

pub returns-in-Ready-Ok-clause-ran : goal.returns-in-Ready-Ok-clause-ran
returns-in-Ready-Ok-clause-ran g c =
    subst (λ r. Ran r c.args.self.now c.args.waker c.args.future.now.errand (record { answer = c.has_filled.result; over = true }) c.finish.new.self)
    (sym (sym c.new.ensures ∙ gives_by c.new.result.outcome c.in-Ready-Ok.field-0 c.in-Ready-Ok.value c.in-Ready-Ok.ensures.answers.0 c.in-Ready-Ok.field-0-is))
    (rw (← c.self-in-Ready-Ok.view_is) (g.C.TurnCore.seen_as c.fill.new.self, c.fill.ensures, ap (λ (a : Answer). record { answer = a; over = true }) c.has_filled.ensures, c.finish.ensures))

pub returns-in-Ready-Err-clause-ran : goal.returns-in-Ready-Err-clause-ran
returns-in-Ready-Err-clause-ran g c =
    subst (λ r. Ran r c.args.self.now c.args.waker c.args.future.now.errand (record { answer = Failure c.in-Ready-Err.error; over = true }) c.finish-in-Ready-Err.new.self)
    (sym (sym c.new.ensures ∙ fails_by c.new.result.outcome c.in-Ready-Err.field-0 c.in-Ready-Err.error c.in-Ready-Err.ensures.answers.0 c.in-Ready-Err.field-0-is))
    (rw (← c.self-in-Ready-Err.view_is) (g.C.TurnCore.seen_as c.give_up.new.self, c.give_up.ensures, refl, c.finish-in-Ready-Err.ensures))
