use Rattle.std.proofs.Common.{◌≡◌, ◌++◌, ◌∙◌, Ok, Err, refl, sym, subst}
use Rattle.mea_once_core.specs.Cell.{Cell, PollsTurn, queues_more}
use Rattle.mea_once_core.specs.Permit.{HoldsAs}
use Rattle.mea_once_core.specs.Once.{Once, woken, TurnsCall}
use Rattle.mea_once_core.proofs.Onces.{refused_turn, refuses_turn, turns_call, turn_settled, ok_no_err}
use Rattle.mea_once_core.proofs.Memory.{one-of}
use Rattle.mea_once_core.proofs.once_core.OnceCore.poll_turn.Goals as goal

pub returns-then-is_err-clause-polls : goal.returns-then-is_err-clause-polls
returns-then-is_err-clause-polls g c =
    let o : Once g.row.W.Denot = record { cell = c.self.inside.cell; done = c.self.inside.done.count; wakes = c.self.inside.outbox.wakers } in
    let o' : Once g.row.W.Denot = record { cell = c.self.inside.cell; done = c.self.inside.done.count; wakes = c.reserve.new.outbox.wakers } in
    subst (λ (s : Once g.row.W.Denot). TurnsCall s c.args.stage.now c.args.waker (Err (c.args.waker, record {})) o' c.args.stage.now) c.self.view_is
    (refuses_turn o o' c.args.stage.now c.args.stage.now c.args.waker (c.args.waker, record {}) c.self.invariant.sound
    (refused_turn c.args.stage.now c.self.inside.cell c.args.waker (record {})
    (λ none. ok_no_err c.reserve.result (c.reserve.ensures.succeeds (c.queues_more-more.ensures.is ∙ none)) (sym c.is_err.ensures.value ∙ c.if-is_err.true)))
    (λ i. record { cell = c.self.inside.cell; done = c.self.inside.done.count; wakes = c.reserve.ensures.same i }))

pub returns-in-Err-clause-polls : goal.returns-in-Err-clause-polls
returns-in-Err-clause-polls g c =
    let o : Once g.row.W.Denot = record { cell = c.self.inside.cell; done = c.self.inside.done.count; wakes = c.self.inside.outbox.wakers } in
    let o' : Once g.row.W.Denot = record { cell = c.poll_turn.new.self; done = c.self.inside.done.count; wakes = c.reserve.new.outbox.wakers } in
    subst (λ (s : Once g.row.W.Denot). TurnsCall s c.args.stage.now c.args.waker (Err c.in-Err.failed) o' c.poll_turn.new.stage) c.self.view_is
    (refuses_turn o o' c.args.stage.now c.poll_turn.new.stage c.args.waker c.in-Err.failed c.self.invariant.sound
    (subst (λ left. PollsTurn c.args.stage.now c.self.inside.cell c.args.waker (Err c.in-Err.failed) left c.poll_turn.new.stage) c.in-Err.ensures.err.0 c.in-Err.ensures.polls)
    (λ i. record { cell = c.in-Err.ensures.err.0 i; done = c.self.inside.done.count; wakes = c.reserve.ensures.same i }))

pub returns-in-Ok-clause-polls : goal.returns-in-Ok-clause-polls
returns-in-Ok-clause-polls g c =
    let o : Once g.row.W.Denot = record { cell = c.self.inside.cell; done = c.self.inside.done.count; wakes = c.self.inside.outbox.wakers } in
    let o' : Once g.row.W.Denot = record { cell = c.settle.new.cell; done = c.settle.new.done.count; wakes = c.settle.new.outbox.wakers } in
    subst (λ (s : Once g.row.W.Denot). TurnsCall s c.args.stage.now c.args.waker (Ok c.in-Ok.turn) o' c.poll_turn.new.stage) c.self.view_is
    (turns_call o c.args.stage.now c.poll_turn.new.stage c.args.waker c.in-Ok.turn c.poll_turn.new.self c.settle.new.cell c.settle.new.done c.settle.new.outbox.wakers
    c.in-Ok.ensures.polls (
      c.settle.ensures.cell,
      c.settle.ensures.done,
      subst (λ ws. c.settle.new.outbox.wakers ≡ (ws ++ woken c.poll_turn.new.self.value c.self.inside.done.count) ++ c.poll_turn.new.self.permit.wakes) c.reserve.ensures.same c.settle.ensures.wakers,
    ))

pub returns-in-Ok-clause-turn : goal.returns-in-Ok-clause-turn
returns-in-Ok-clause-turn g c = turn_settled c.in-Ok.turn c.poll_turn.new.self c.settle.new.cell c.poll_turn.new.stage c.settle.ensures.cell c.in-Ok.ensures.turn

pub returns-in-Ok-clause-held : goal.returns-in-Ok-clause-held
returns-in-Ok-clause-held g c =
    subst (λ (s : Once g.row.W.Denot). HoldsAs s.cell.permit c.args.stage.now c.settle.new.cell.permit c.poll_turn.new.stage) c.self.view_is
    (subst (λ (x : Cell (Unit {0}) g.row.W.Denot). HoldsAs c.self.inside.cell.permit c.args.stage.now x.permit c.poll_turn.new.stage) (sym c.settle.ensures.cell) c.in-Ok.ensures.held)

pub returns-in-Err-clause-held : goal.returns-in-Err-clause-held
returns-in-Err-clause-held g c = subst (λ (s : Once g.row.W.Denot). HoldsAs s.cell.permit c.args.stage.now c.poll_turn.new.self.permit c.poll_turn.new.stage) c.self.view_is c.in-Err.ensures.held

pub returns-in-Err-clause-err : goal.returns-in-Err-clause-err
returns-in-Err-clause-err g c = ((λ i. record { cell = c.in-Err.ensures.err.0 i; done = c.self.inside.done.count; wakes = c.reserve.ensures.same i }) ∙ c.self.view_is, c.in-Err.ensures.err.1)

pub returns-then-is_err-clause-err : goal.returns-then-is_err-clause-err
returns-then-is_err-clause-err g c = ((λ i. record { cell = c.self.inside.cell; done = c.self.inside.done.count; wakes = c.reserve.ensures.same i }) ∙ c.self.view_is, refl)

pub returns-then-is_err-clause-no_memory : goal.returns-then-is_err-clause-no_memory
returns-then-is_err-clause-no_memory g c =
    subst (λ (s : Once g.row.W.Denot). queues_more s.cell c.args.stage.now ≡ 1) c.self.view_is
    (sym c.queues_more-more.ensures.is
    ∙ one-of c.queues_more-more.result c.queues_more-more.ensures.small (λ none. ok_no_err c.reserve.result (c.reserve.ensures.succeeds none) (sym c.is_err.ensures.value ∙ c.if-is_err.true)))

pub returns-in-Err-clause-no_memory : goal.returns-in-Err-clause-no_memory
returns-in-Err-clause-no_memory g c = subst (λ (s : Once g.row.W.Denot). queues_more s.cell c.args.stage.now ≡ 1) c.self.view_is c.in-Err.ensures.no_memory
