use Rattle.std.proofs.Common.{◌∙◌, Ok, Err, None, IsSome, is_some, ap, sym, subst}
use Rattle.mea_sets.specs.Poll.{Ready}
use Rattle.mea_base.proofs.Maps.{value_in}
use Rattle.mea_once_core.specs.Keyed.{AfterCellPoll}
use Rattle.mea_once_core.specs.declared.key_call.KeyStage.TheVariants.{Kept, Done}
use Rattle.mea_once_core.proofs.Keyeds.{given-there, computed-none, computed-some}
use Rattle.mea_once_core.proofs.Refusals.{given-value}
use Rattle.mea_once_core.proofs.keyed.Keyed.answer.Goals as goal

pub value_of-requires-clause-there : goal.value_of-requires-clause-there
value_of-requires-clause-there g c = let has = given-there g.K.PartialEq.eq c.args.self.now c.give_up.new.self c.args.number c.args.once c.requires.calls c.give_up.ensures in ap is_some has.1

pub leave-requires-in-Ready-Ok : goal.leave-requires-in-Ready-Ok
leave-requires-in-Ready-Ok g c = given-there g.K.PartialEq.eq c.args.self.now c.give_up.new.self c.args.number c.args.once c.requires.calls c.give_up.ensures

pub returns-in_default-clause-told : goal.returns-in_default-clause-told
returns-in_default-clause-told g c = λ e there.
    subst (λ a. AfterCellPoll g.K.PartialEq.eq c.args.once (Ok a) c.args.self.now c.args.number e (Err (None, record {})) c.give_up.new.self (Kept c.args.number)) (sym (c.in-Ready-Ok.is ∙ ap (λ x. Ready x) c.in-Ready-Ok.field-0-is))
    (computed-none g.K.PartialEq.eq g.row.E.Denot c.args.self.now c.give_up.new.self c.args.number c.args.once e (record {}) (c.give_up.ensures e there))

pub returns-in-Some-clause-told : goal.returns-in-Some-clause-told
returns-in-Some-clause-told g c = λ e there.
    subst (λ a. AfterCellPoll g.K.PartialEq.eq c.args.once (Ok a) c.args.self.now c.args.number e (Ok (Ready (Ok c.in-Some.value))) c.leave-in-Ready-Ok.new.self Done) (sym (c.in-Ready-Ok.is ∙ ap (λ x. Ready x) c.in-Ready-Ok.field-0-is))
    (computed-some g.K.PartialEq.eq g.row.E.Denot c.args.self.now c.give_up.new.self c.leave-in-Ready-Ok.new.self c.args.number c.args.once e c.in-Some.value (c.give_up.ensures e there) c.in-Some.ensures.is c.leave-in-Ready-Ok.ensures)

pub returns-in_default-clause-succeeds : goal.returns-in_default-clause-succeeds
returns-in_default-clause-succeeds g c = λ never.
    let some = value_in c.value_of.result (given-value g.K.PartialEq.eq (IsSome c.value_of.result) c.args.self.now c.give_up.new.self c.args.number c.args.once c.requires.calls c.give_up.ensures
    (c.requires.filled (c.in-Ready-Ok.is ∙ ap (λ x. Ready x) c.in-Ready-Ok.field-0-is)) (c.value_of.ensures.succeeds never)) in
    absurd (c.in_default.not-Some some.0 some.1)
