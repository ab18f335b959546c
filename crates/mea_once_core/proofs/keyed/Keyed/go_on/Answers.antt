use Rattle.std.proofs.Common.{◌≡◌, Ok, Err, Some, IsSome, true, refl, sym, subst}
use Rattle.mea_base.proofs.Maps.{value_in}
use Rattle.mea_once_core.specs.Cell.{Finds}
use Rattle.mea_once_core.specs.Keyed.{Keyed, AsksCell}
use Rattle.mea_once_core.specs.Table.{entry_at}
use Rattle.mea_once_core.proofs.Tables.{at_entry}
use Rattle.mea_once_core.proofs.Keyeds.{finds-ready, stepped-there, finds-value, asks-cell, same-keyed}
use Rattle.mea_once_core.proofs.Memory.{finds-full, on-err-ok}
use Rattle.mea_once_core.proofs.keyed.Keyed.go_on.Goals as goal

pub leave-requires : goal.leave-requires
leave-requires g c =
    let h = c.requires.may in
    stepped-there g.I.Init.answers g.K.PartialEq.eq c.args.self.now c.poll_cell.new.self c.args.number h.0 c.args.call.now.call c.poll_cell.new.call c.args.waker c.poll_cell.result h.2 (c.poll_cell.ensures.steps h.0 h.1)

pub answer-requires-clause-calls : goal.answer-requires-clause-calls
answer-requires-clause-calls g c =
    let h = c.requires.may in
    stepped-there g.I.Init.answers g.K.PartialEq.eq c.args.self.now c.poll_cell-2.new.self c.args.number h.0 c.args.call.now.call c.poll_cell-2.new.call c.args.waker c.poll_cell-2.result h.2 (c.poll_cell-2.ensures.steps h.0 h.1)

pub returns-then-finds-clause-polls : goal.returns-then-finds-clause-polls
returns-then-finds-clause-polls g c =
    λ e there. (
      λ finds.
          let step = c.poll_cell.ensures.steps e there in
          finds-value g.I.Init.answers g.K.PartialEq.eq c.args.self.now c.poll_cell.new.self c.leave.new.self c.args.number e c.args.call.now.call c.poll_cell.new.call c.args.waker c.poll_cell.result c.in-Some.value
          (at_entry (λ s. s.cell.value ≡ Some c.in-Some.value) (entry_at c.args.self.now.table c.args.number) e there c.in-Some.ensures.is)
          (finds-ready g.I.Init.answers g.K.PartialEq.eq c.args.call.now.call.stage e.cell c.args.call.now.call c.poll_cell.new.call c.args.waker c.poll_cell.result step.0 finds step.1.polls)
          step c.leave.ensures,
      λ away. absurd (away (subst (λ x. Finds x c.args.call.now.call.stage) (at_entry (λ s. c.cell.result.now ≡ s.cell) (entry_at c.self.inside.table c.args.number) e (subst (λ (s : Keyed g.row.K.Denot g.row.V.Denot g.row.W.Denot). entry_at s.table c.args.number ≡ Some e) (sym c.self.view_is) there) c.cell.ensures) (c.finds.ensures.0 c.if-finds.true))),
    )

pub returns-in-Ok-clause-polls : goal.returns-in-Ok-clause-polls
returns-in-Ok-clause-polls g c =
    λ e there. (
      λ finds.
          absurd (let at : c.finds.result ≡ true = c.finds.ensures.1 (subst (λ x. Finds x c.args.call.now.call.stage) (sym (at_entry (λ s. c.cell.result.now ≡ s.cell) (entry_at c.self.inside.table c.args.number) e (subst (λ (s : Keyed g.row.K.Denot g.row.V.Denot g.row.W.Denot). entry_at s.table c.args.number ≡ Some e) (sym c.self.view_is) there) c.cell.ensures)) finds) in let out = c.if-finds.false in cc),
      λ away.
          subst (λ call. AsksCell g.I.Init.answers g.K.PartialEq.eq c.args.once c.args.self.now c.args.number e c.args.call.now.call c.args.waker c.answer.result c.answer.new.self call c.answer.new.call.stage) (sym c.answer.ensures.call)
          (asks-cell g.I.Init.answers g.K.PartialEq.eq c.args.self.now c.poll_cell-2.new.self c.answer.new.self c.args.number c.args.once e c.args.call.now.call c.poll_cell-2.new.call c.args.waker (Ok c.in-Ok.answer) c.answer.result c.answer.new.call.stage
          (c.in-Ok.ensures.steps e there) c.answer.ensures.told),
    )

pub returns-in-Err-clause-polls : goal.returns-in-Err-clause-polls
returns-in-Err-clause-polls g c =
    λ e there. (
      λ finds.
          absurd (let at : c.finds.result ≡ true = c.finds.ensures.1 (subst (λ x. Finds x c.args.call.now.call.stage) (sym (at_entry (λ s. c.cell.result.now ≡ s.cell) (entry_at c.self.inside.table c.args.number) e (subst (λ (s : Keyed g.row.K.Denot g.row.V.Denot g.row.W.Denot). entry_at s.table c.args.number ≡ Some e) (sym c.self.view_is) there) c.cell.ensures)) finds) in let out = c.if-finds.false in cc),
      λ away.
          asks-cell g.I.Init.answers g.K.PartialEq.eq c.args.self.now c.poll_cell-2.new.self c.poll_cell-2.new.self c.args.number c.args.once e c.args.call.now.call c.poll_cell-2.new.call c.args.waker (Err (c.in-Err.waker, c.in-Err.field-0-1)) (Err (Some c.in-Err.waker, record {})) c.args.call.now.stage
          (c.in-Err.ensures.steps e there) (λ s here. (refl, same-keyed g.K.PartialEq.eq c.poll_cell-2.new.self, c.requires.stage)),
    )

pub returns-in_default-clause-no_memory : goal.returns-in_default-clause-no_memory
returns-in_default-clause-no_memory g c = λ never e there.
    let here = subst (λ (s : Keyed g.row.K.Denot g.row.V.Denot g.row.W.Denot). entry_at s.table c.args.number ≡ Some e) (sym c.self.view_is) there in
    let cell = at_entry (λ s. c.cell.result.now ≡ s.cell) (entry_at c.self.inside.table c.args.number) e here c.cell.ensures in
    let full : IsSome e.cell.value = finds-full c.args.call.now.call.stage e.cell (subst (λ x. Finds x c.args.call.now.call.stage) cell (c.finds.ensures.0 c.if-finds.true)) in
    let some = value_in c.value_of.result (at_entry (λ s. IsSome s.cell.value → IsSome c.value_of.result) (entry_at c.args.self.now.table c.args.number) e there (c.value_of.ensures.succeeds never) full) in
    absurd (c.in_default.not-Some some.0 some.1)

pub returns-in-Ok-clause-no_memory : goal.returns-in-Ok-clause-no_memory
returns-in-Ok-clause-no_memory g c = λ never. on-err-ok _ c.answer.result (c.answer.ensures.succeeds never)

pub returns-in-Err-clause-no_memory : goal.returns-in-Err-clause-no_memory
returns-in-Err-clause-no_memory g c = λ never e there. c.in-Err.ensures.no_memory e there
