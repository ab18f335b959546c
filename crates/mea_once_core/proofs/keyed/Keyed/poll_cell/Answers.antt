use Rattle.std.proofs.Common.{◌≡◌, ◌≤◌, ◌+◌, ◌++◌, ◌∙◌, Some, Err, is_some, length, OnErr, refl, ap, sym, subst, arith}
use Rattle.mea_once_core.specs.Cell.{Cell, AddAtMost, queues_more}
use Rattle.mea_once_core.specs.Permit.{MayPoll}
use Rattle.mea_once_core.specs.Links.{Shown}
use Rattle.mea_once_core.specs.Table.{entry_at}
use Rattle.mea_once_core.specs.Keyed.{Keyed, IsSameKeyed, StepsCell}
use Rattle.mea_once_core.proofs.Onces.{ok_no_err}
use Rattle.mea_once_core.proofs.Tables.{at_entry}
use Rattle.mea_once_core.proofs.Keyeds.{moved, room-after, refused-cell, on_ok_of, queue-within}
use Rattle.mea_once_core.proofs.Memory.{one-of}
use Rattle.mea_once_core.proofs.Refusals.{refused-same, fills-entry}
use Rattle.mea_once_core.proofs.keyed.Keyed.poll_cell.Goals as goal

pub returns-then-is_err-clause-steps : goal.returns-then-is_err-clause-steps
returns-then-is_err-clause-steps g c = λ e there.
    let here = subst (λ (s : Keyed g.row.K.Denot g.row.V.Denot g.row.W.Denot). entry_at s.table c.args.number ≡ Some e) (sym c.self.view_is) there in
    let k : Keyed g.row.K.Denot g.row.V.Denot g.row.W.Denot = record { table = c.self.inside.table; wakes = c.self.inside.outbox.wakers } in
    let k' : Keyed g.row.K.Denot g.row.V.Denot g.row.W.Denot = record { table = c.self.inside.table; wakes = c.reserve.new.outbox.wakers } in
    subst (λ (s : Keyed g.row.K.Denot g.row.V.Denot g.row.W.Denot). (cell : Cell g.row.V.Denot g.row.W.Denot) × StepsCell g.I.Init.answers g.K.PartialEq.eq s c.args.number e c.args.call.now c.args.waker (Err (c.args.waker, record {})) cell k' c.args.call.now) c.self.view_is
    (refused-cell g.I.Init.answers g.K.PartialEq.eq k k' c.args.number e c.args.call.now c.args.waker (record {}) c.queues_more-more.result c.cell.result.now here c.self.invariant.quiet c.cell.ensures c.queues_more-more.ensures.is
    (λ none. ok_no_err c.reserve.result (c.reserve.ensures.succeeds none) (sym c.is_err.ensures.value ∙ c.if-is_err.true)) refl c.reserve.ensures.same)

pub move_wakes-requires-clause-there : goal.move_wakes-requires-clause-there
move_wakes-requires-clause-there g c =
    let has = (subst (λ (s : Keyed g.row.K.Denot g.row.V.Denot g.row.W.Denot). (e : Shown g.row.V.Denot g.row.W.Denot) × (entry_at s.table c.args.number ≡ Some e) × MayPoll e.cell.permit c.args.call.now.stage) (sym c.self.view_is) c.requires.may) in
    let p = c.poll_init-answer.ensures.polls has.0 has.1 in ap is_some p.sets.0.changed

pub move_wakes-requires-clause-room : goal.move_wakes-requires-clause-room
move_wakes-requires-clause-room g c = λ s there.
    let has = (subst (λ (s : Keyed g.row.K.Denot g.row.V.Denot g.row.W.Denot). (e : Shown g.row.V.Denot g.row.W.Denot) × (entry_at s.table c.args.number ≡ Some e) × MayPoll e.cell.permit c.args.call.now.stage) (sym c.self.view_is) c.requires.may) in
    let p = c.poll_init-answer.ensures.polls has.0 has.1 in
    let more : c.queues_more-more.result ≡ queues_more has.0.cell c.args.call.now.stage = c.queues_more-more.ensures.is ∙ ap (λ x. queues_more x c.args.call.now.stage) (at_entry (λ s. c.cell.result.now ≡ s.cell) (entry_at c.self.inside.table c.args.number) has.0 has.1 c.cell.ensures) in
    let few = subst (λ k. AddAtMost k has.0.cell p.cell) (sym more) p.few in
    let room = on_ok_of (c.self.inside.waiting + c.queues_more-more.result ≤ c.reserve.new.outbox.spare) c.reserve.result (sym c.is_err.ensures.value ∙ c.if-is_err.false) c.reserve.ensures.room in
    room-after g.K.PartialEq.eq c.self.inside.table c.poll_init-answer.new.self c.args.number c.queues_more-more.result c.self.inside.waiting c.reserve.new.outbox.spare has.0 p.cell has.1 c.self.invariant.quiet c.self.invariant.counted few p.sets room s there

pub overflow_sub-self : goal.overflow_sub-self
overflow_sub-self g c =
    let has = (subst (λ (s : Keyed g.row.K.Denot g.row.V.Denot g.row.W.Denot). (e : Shown g.row.V.Denot g.row.W.Denot) × (entry_at s.table c.args.number ≡ Some e) × MayPoll e.cell.permit c.args.call.now.stage) (sym c.self.view_is) c.requires.may) in
    let cell = at_entry (λ s. c.cell-2.result.now ≡ s.cell) (entry_at c.self.inside.table c.args.number) has.0 has.1 c.cell-2.ensures in
    let count = c.waiting-before.ensures ∙ ap (λ (x : Cell g.row.V.Denot g.row.W.Denot). length x.permit.queue) cell in
    let within = queue-within c.self.inside.table.slots c.args.number has.0 has.1 in
    let counted = c.self.invariant.counted in
    omega arith

pub cell-requires-3 : goal.cell-requires-3
cell-requires-3 g c =
    let has = (subst (λ (s : Keyed g.row.K.Denot g.row.V.Denot g.row.W.Denot). (e : Shown g.row.V.Denot g.row.W.Denot) × (entry_at s.table c.args.number ≡ Some e) × MayPoll e.cell.permit c.args.call.now.stage) (sym c.self.view_is) c.requires.may) in
    let p = c.poll_init-answer.ensures.polls has.0 has.1 in
    let r = c.move_wakes.ensures.rests (record has.0 { cell = p.cell }) p.sets.0.changed in
    ap is_some r.sets.0.changed

pub overflow_add-self : goal.overflow_add-self
overflow_add-self g c =
    let has = (subst (λ (s : Keyed g.row.K.Denot g.row.V.Denot g.row.W.Denot). (e : Shown g.row.V.Denot g.row.W.Denot) × (entry_at s.table c.args.number ≡ Some e) × MayPoll e.cell.permit c.args.call.now.stage) (sym c.self.view_is) c.requires.may) in
    let p = c.poll_init-answer.ensures.polls has.0 has.1 in
    let more : c.queues_more-more.result ≡ queues_more has.0.cell c.args.call.now.stage = c.queues_more-more.ensures.is ∙ ap (λ x. queues_more x c.args.call.now.stage) (at_entry (λ s. c.cell.result.now ≡ s.cell) (entry_at c.self.inside.table c.args.number) has.0 has.1 c.cell.ensures) in
    let few = subst (λ k. AddAtMost k has.0.cell p.cell) (sym more) p.few in
    let room = on_ok_of (c.self.inside.waiting + c.queues_more-more.result ≤ c.reserve.new.outbox.spare) c.reserve.result (sym c.is_err.ensures.value ∙ c.if-is_err.false) c.reserve.ensures.room in
    let m = moved g.K.PartialEq.eq c.self.inside.table c.poll_init-answer.new.self c.move_wakes.new.self c.args.number c.queues_more-more.result c.self.inside.waiting c.waiting-before.result c.waiting.result c.reserve.new.outbox c.move_wakes.new.out has.0 p.cell c.cell-2.result.now c.cell-3.result.now
    has.1 c.self.invariant.quiet c.self.invariant.counted few p.sets room c.move_wakes.ensures.rests c.cell-2.ensures c.waiting-before.ensures c.cell-3.ensures c.waiting.ensures in
    let most = m.most in
    let fits = on_ok_of (c.self.inside.waiting + c.queues_more-more.result ≤ 18446744073709551615) c.reserve.result (sym c.is_err.ensures.value ∙ c.if-is_err.false) c.reserve.ensures.fits in
    omega arith

pub invariant_of-self-2 : goal.invariant_of-self-2
invariant_of-self-2 g c =
    let has = (subst (λ (s : Keyed g.row.K.Denot g.row.V.Denot g.row.W.Denot). (e : Shown g.row.V.Denot g.row.W.Denot) × (entry_at s.table c.args.number ≡ Some e) × MayPoll e.cell.permit c.args.call.now.stage) (sym c.self.view_is) c.requires.may) in
    let p = c.poll_init-answer.ensures.polls has.0 has.1 in
    let more : c.queues_more-more.result ≡ queues_more has.0.cell c.args.call.now.stage = c.queues_more-more.ensures.is ∙ ap (λ x. queues_more x c.args.call.now.stage) (at_entry (λ s. c.cell.result.now ≡ s.cell) (entry_at c.self.inside.table c.args.number) has.0 has.1 c.cell.ensures) in
    let few = subst (λ k. AddAtMost k has.0.cell p.cell) (sym more) p.few in
    let room = on_ok_of (c.self.inside.waiting + c.queues_more-more.result ≤ c.reserve.new.outbox.spare) c.reserve.result (sym c.is_err.ensures.value ∙ c.if-is_err.false) c.reserve.ensures.room in
    let m = moved g.K.PartialEq.eq c.self.inside.table c.poll_init-answer.new.self c.move_wakes.new.self c.args.number c.queues_more-more.result c.self.inside.waiting c.waiting-before.result c.waiting.result c.reserve.new.outbox c.move_wakes.new.out has.0 p.cell c.cell-2.result.now c.cell-3.result.now
    has.1 c.self.invariant.quiet c.self.invariant.counted few p.sets room c.move_wakes.ensures.rests c.cell-2.ensures c.waiting-before.ensures c.cell-3.ensures c.waiting.ensures in
    record { quiet = m.quiet; counted = m.counted; room = m.room }

pub returns-clause-steps : goal.returns-clause-steps
returns-clause-steps g c = λ e there.
    let here = subst (λ (s : Keyed g.row.K.Denot g.row.V.Denot g.row.W.Denot). entry_at s.table c.args.number ≡ Some e) (sym c.self.view_is) there in
    let p = c.poll_init-answer.ensures.polls e here in
    let more : c.queues_more-more.result ≡ queues_more e.cell c.args.call.now.stage = c.queues_more-more.ensures.is ∙ ap (λ x. queues_more x c.args.call.now.stage) (at_entry (λ s. c.cell.result.now ≡ s.cell) (entry_at c.self.inside.table c.args.number) e here c.cell.ensures) in
    let few = subst (λ k. AddAtMost k e.cell p.cell) (sym more) p.few in
    let room = on_ok_of (c.self.inside.waiting + c.queues_more-more.result ≤ c.reserve.new.outbox.spare) c.reserve.result (sym c.is_err.ensures.value ∙ c.if-is_err.false) c.reserve.ensures.room in
    let m = moved g.K.PartialEq.eq c.self.inside.table c.poll_init-answer.new.self c.move_wakes.new.self c.args.number c.queues_more-more.result c.self.inside.waiting c.waiting-before.result c.waiting.result c.reserve.new.outbox c.move_wakes.new.out e p.cell c.cell-2.result.now c.cell-3.result.now
    here c.self.invariant.quiet c.self.invariant.counted few p.sets room c.move_wakes.ensures.rests c.cell-2.ensures c.waiting-before.ensures c.cell-3.ensures c.waiting.ensures in
    let k' : Keyed g.row.K.Denot g.row.V.Denot g.row.W.Denot = record { table = c.move_wakes.new.self; wakes = c.move_wakes.new.out.wakers } in
    subst (λ (s : Keyed g.row.K.Denot g.row.V.Denot g.row.W.Denot). (cell : Cell g.row.V.Denot g.row.W.Denot) × StepsCell g.I.Init.answers g.K.PartialEq.eq s c.args.number e c.args.call.now c.args.waker c.poll_init-answer.result cell k' c.poll_init-answer.new.call) c.self.view_is
    (p.cell, record { polls = p.polls; sets = m.sets; wakes = m.wakers ∙ ap (λ ws. ws ++ p.cell.permit.wakes) c.reserve.ensures.same })

pub returns-clause-same : goal.returns-clause-same
returns-clause-same g c =
    let has = (subst (λ (s : Keyed g.row.K.Denot g.row.V.Denot g.row.W.Denot). (e : Shown g.row.V.Denot g.row.W.Denot) × (entry_at s.table c.args.number ≡ Some e) × MayPoll e.cell.permit c.args.call.now.stage) (sym c.self.view_is) c.requires.may) in
    let p = c.poll_init-answer.ensures.polls has.0 has.1 in
    let more : c.queues_more-more.result ≡ queues_more has.0.cell c.args.call.now.stage = c.queues_more-more.ensures.is ∙ ap (λ x. queues_more x c.args.call.now.stage) (at_entry (λ s. c.cell.result.now ≡ s.cell) (entry_at c.self.inside.table c.args.number) has.0 has.1 c.cell.ensures) in
    let few = subst (λ k. AddAtMost k has.0.cell p.cell) (sym more) p.few in
    let room = on_ok_of (c.self.inside.waiting + c.queues_more-more.result ≤ c.reserve.new.outbox.spare) c.reserve.result (sym c.is_err.ensures.value ∙ c.if-is_err.false) c.reserve.ensures.room in
    let m = moved g.K.PartialEq.eq c.self.inside.table c.poll_init-answer.new.self c.move_wakes.new.self c.args.number c.queues_more-more.result c.self.inside.waiting c.waiting-before.result c.waiting.result c.reserve.new.outbox c.move_wakes.new.out has.0 p.cell c.cell-2.result.now c.cell-3.result.now
    has.1 c.self.invariant.quiet c.self.invariant.counted few p.sets room c.move_wakes.ensures.rests c.cell-2.ensures c.waiting-before.ensures c.cell-3.ensures c.waiting.ensures in
    subst (λ (s : Keyed g.row.K.Denot g.row.V.Denot g.row.W.Denot). OnErr c.poll_init-answer.result (IsSameKeyed g.K.PartialEq.eq s (record { table = c.move_wakes.new.self; wakes = c.move_wakes.new.out.wakers }))) c.self.view_is
    (refused-same g.K.PartialEq.eq c.poll_init-answer.result c.self.inside.table c.move_wakes.new.self c.args.number has.0 p.cell c.self.inside.outbox.wakers c.move_wakes.new.out.wakers
    has.1 c.self.invariant.quiet p.stays m.sets (m.wakers ∙ ap (λ ws. ws ++ p.cell.permit.wakes) c.reserve.ensures.same))

pub returns-clause-fills : goal.returns-clause-fills
returns-clause-fills g c =
    let has = (subst (λ (s : Keyed g.row.K.Denot g.row.V.Denot g.row.W.Denot). (e : Shown g.row.V.Denot g.row.W.Denot) × (entry_at s.table c.args.number ≡ Some e) × MayPoll e.cell.permit c.args.call.now.stage) (sym c.self.view_is) c.requires.may) in
    let p = c.poll_init-answer.ensures.polls has.0 has.1 in
    let r = c.move_wakes.ensures.rests (record has.0 { cell = p.cell }) p.sets.0.changed in
    fills-entry g.K.PartialEq.eq c.poll_init-answer.result c.move_wakes.new.self c.args.number has.0 p.cell p.fills r.sets.0.changed

pub returns-then-is_err-clause-no_memory : goal.returns-then-is_err-clause-no_memory
returns-then-is_err-clause-no_memory g c = λ e there.
    let here = subst (λ (s : Keyed g.row.K.Denot g.row.V.Denot g.row.W.Denot). entry_at s.table c.args.number ≡ Some e) (sym c.self.view_is) there in
    let more : c.queues_more-more.result ≡ queues_more e.cell c.args.call.now.stage = c.queues_more-more.ensures.is ∙ ap (λ x. queues_more x c.args.call.now.stage) (at_entry (λ s. c.cell.result.now ≡ s.cell) (entry_at c.self.inside.table c.args.number) e here c.cell.ensures) in
    sym more ∙ one-of c.queues_more-more.result c.queues_more-more.ensures.small (λ none. ok_no_err c.reserve.result (c.reserve.ensures.succeeds none) (sym c.is_err.ensures.value ∙ c.if-is_err.true))

pub returns-clause-no_memory : goal.returns-clause-no_memory
returns-clause-no_memory g c = λ e there.
    let here = subst (λ (s : Keyed g.row.K.Denot g.row.V.Denot g.row.W.Denot). entry_at s.table c.args.number ≡ Some e) (sym c.self.view_is) there in
    (c.poll_init-answer.ensures.polls e here).no_memory
