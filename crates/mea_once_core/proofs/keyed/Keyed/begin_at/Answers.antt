use Rattle.std.proofs.Common.{◌≡◌, ◌+◌, Ok, Some, None, true, inl, inr, IsSome, IsOk, refl, sym, subst, arith}
use Rattle.mea_once_core.specs.Links.{Shown}
use Rattle.mea_once_core.specs.Cell.{Cell, rested}
use Rattle.mea_once_core.specs.Permit.{MayPoll}
use Rattle.mea_once_core.specs.Keyed.{Keyed, StepsCell}
use Rattle.mea_once_core.specs.Table.{entry_at}
use Rattle.mea_once_core.proofs.Tables.{at_entry}
use Rattle.mea_once_core.proofs.Keyeds.{match-none, none-of}
use Rattle.mea_once_core.proofs.Memory.{on-err-ok}
use Rattle.mea_once_core.proofs.keyed.Keyed.begin_at.Goals as goal

pub poll_cell-requires-clause-may : goal.poll_cell-requires-clause-may
poll_cell-requires-clause-may g c = let h = c.requires.there in (h.0, h.1, subst (MayPoll h.0.cell.permit) (sym c.requires.new) tt)

pub join-requires : goal.join-requires
join-requires g c =
    let h = c.requires.there in
    let step = c.poll_cell.ensures.steps h.0 h.1 in
    (record h.0 { cell = rested step.0 }, step.1.sets.0.changed, h.2)

pub answer-requires-clause-calls : goal.answer-requires-clause-calls
answer-requires-clause-calls g c =
    let h = c.requires.there in
    let step = c.poll_cell.ensures.steps h.0 h.1 in
    let e : Shown g.row.V.Denot g.row.W.Denot = record h.0 { cell = rested step.0 } in
    let joined = c.join.ensures.joined e step.1.sets.0.changed in
    (record e { callers = e.callers + 1 }, joined.0.changed, omega arith)

pub returns-in-Ok-clause-starts : goal.returns-in-Ok-clause-starts
returns-in-Ok-clause-starts g c =
    λ e there.
    let none : e.cell.value ≡ None = none-of e.cell.value (λ some.
    let at : c.is_full.result ≡ true = c.is_full.ensures.is.1 (subst (λ (x : Cell g.row.V.Denot g.row.W.Denot). IsSome x.value) (sym (at_entry (λ s. c.cell.result.now ≡ s.cell) (entry_at c.self.inside.table c.args.number) e (subst (λ (s : Keyed g.row.K.Denot g.row.V.Denot g.row.W.Denot). entry_at s.table c.args.number ≡ Some e) (sym c.self.view_is) there) c.cell.ensures)) some) in
    let out = c.if-is_full.false in absurd (cc)) in
    let step = c.in-Ok.ensures.steps e there in
    let e1 : Shown g.row.V.Denot g.row.W.Denot = record e { cell = rested step.0 } in
    let joined = c.join.ensures.joined e1 step.1.sets.0.changed in
    match-none _ _ e.cell.value none
    (inl (
      Ok c.in-Ok.answer,
      step.0,
      c.poll_cell.new.self,
      c.join.new.self,
      subst (λ x. StepsCell g.I.Init.answers g.K.PartialEq.eq c.args.self.now c.args.number e c.args.call.now.call c.args.waker (Ok c.in-Ok.answer) step.0 c.poll_cell.new.self x) (sym c.answer.ensures.call) step.1,
      c.join.ensures.joined,
      c.join.ensures.wakes,
      c.answer.ensures.told (record e1 { callers = e1.callers + 1 }) joined.0.changed,
    ))

pub returns-in-Err-clause-starts : goal.returns-in-Err-clause-starts
returns-in-Err-clause-starts g c =
    λ e there.
    let none : e.cell.value ≡ None = none-of e.cell.value (λ some.
    let at : c.is_full.result ≡ true = c.is_full.ensures.is.1 (subst (λ (x : Cell g.row.V.Denot g.row.W.Denot). IsSome x.value) (sym (at_entry (λ s. c.cell.result.now ≡ s.cell) (entry_at c.self.inside.table c.args.number) e (subst (λ (s : Keyed g.row.K.Denot g.row.V.Denot g.row.W.Denot). entry_at s.table c.args.number ≡ Some e) (sym c.self.view_is) there) c.cell.ensures)) some) in
    let out = c.if-is_full.false in absurd (cc)) in
    let step = c.in-Err.ensures.steps e there in
    match-none _ _ e.cell.value none (inr ((c.in-Err.waker, c.in-Err.field-0-1), step.0, step.1, refl, refl))

pub returns-then-is_full-clause-no_memory : goal.returns-then-is_full-clause-no_memory
returns-then-is_full-clause-no_memory g c = λ never.
    let h = c.requires.there in
    let here = subst (λ (s : Keyed g.row.K.Denot g.row.V.Denot g.row.W.Denot). entry_at s.table c.args.number ≡ Some h.0) (sym c.self.view_is) h.1 in
    let cell = at_entry (λ s. c.cell.result.now ≡ s.cell) (entry_at c.self.inside.table c.args.number) h.0 here c.cell.ensures in
    let full : IsSome h.0.cell.value = subst (λ (x : Cell g.row.V.Denot g.row.W.Denot). IsSome x.value) cell (c.is_full.ensures.is.0 c.if-is_full.true) in
    on-err-ok _ c.hand_out_first.result (at_entry (λ s. IsSome s.cell.value → IsOk c.hand_out_first.result) (entry_at c.args.self.now.table c.args.number) h.0 h.1 (c.hand_out_first.ensures.succeeds never) full)

pub returns-in-Ok-clause-no_memory : goal.returns-in-Ok-clause-no_memory
returns-in-Ok-clause-no_memory g c = λ never. on-err-ok _ c.answer.result (c.answer.ensures.succeeds never)

pub returns-in-Err-clause-no_memory : goal.returns-in-Err-clause-no_memory
returns-in-Err-clause-no_memory g c = λ never e there. c.in-Err.ensures.no_memory e there
