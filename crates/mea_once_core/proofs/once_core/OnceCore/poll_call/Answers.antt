use Rattle.std.proofs.Common.{◌≡◌, ◌++◌, ◌∙◌, Ok, Err, refl, sym, subst}
use Rattle.mea_once_core.specs.Cell.{PollsInit, queues_more}
use Rattle.mea_once_core.specs.Once.{Once, woken, PollsCall}
use Rattle.mea_once_core.proofs.Onces.{refused, refuses_call, polls_call, ok_no_err}
use Rattle.mea_once_core.proofs.Memory.{one-of}
use Rattle.mea_once_core.proofs.once_core.OnceCore.poll_call.Goals as goal

pub returns-then-is_err-clause-polls : goal.returns-then-is_err-clause-polls
returns-then-is_err-clause-polls g c =
    let o : Once g.row.W.Denot = record { cell = c.self.inside.cell; done = c.self.inside.done.count; wakes = c.self.inside.outbox.wakers } in
    let o' : Once g.row.W.Denot = record { cell = c.self.inside.cell; done = c.self.inside.done.count; wakes = c.reserve.new.outbox.wakers } in
    subst (λ (s : Once g.row.W.Denot). PollsCall g.I.Init.answers s c.args.call.now c.args.waker (Err (c.args.waker, record {})) o' c.args.call.now) c.self.view_is
    (refuses_call g.I.Init.answers o o' c.args.call.now c.args.call.now c.args.waker (c.args.waker, record {}) (Err (c.args.waker, record {})) c.self.invariant.sound
    (refused g.I.Init.answers c.args.call.now.stage c.self.inside.cell c.args.call.now c.args.waker (record {})
    (λ none. ok_no_err c.reserve.result (c.reserve.ensures.succeeds (c.queues_more-more.ensures.is ∙ none)) (sym c.is_err.ensures.value ∙ c.if-is_err.true)))
    refl (λ i. record { cell = c.self.inside.cell; done = c.self.inside.done.count; wakes = c.reserve.ensures.same i }))

pub returns-in-Err-clause-polls : goal.returns-in-Err-clause-polls
returns-in-Err-clause-polls g c =
    let o : Once g.row.W.Denot = record { cell = c.self.inside.cell; done = c.self.inside.done.count; wakes = c.self.inside.outbox.wakers } in
    let o' : Once g.row.W.Denot = record { cell = c.poll_init.new.self; done = c.self.inside.done.count; wakes = c.reserve.new.outbox.wakers } in
    subst (λ (s : Once g.row.W.Denot). PollsCall g.I.Init.answers s c.args.call.now c.args.waker (Err c.in-Err.failed) o' c.poll_init.new.call) c.self.view_is
    (refuses_call g.I.Init.answers o o' c.args.call.now c.poll_init.new.call c.args.waker c.in-Err.failed (Err c.in-Err.failed) c.self.invariant.sound
    (subst (λ left. PollsInit g.I.Init.answers c.self.inside.cell c.args.call.now c.args.waker (Err c.in-Err.failed) left c.poll_init.new.call) c.in-Err.ensures.err.0 c.in-Err.ensures.polls)
    refl (λ i. record { cell = c.in-Err.ensures.err.0 i; done = c.self.inside.done.count; wakes = c.reserve.ensures.same i }))

pub returns-in-Ok-clause-polls : goal.returns-in-Ok-clause-polls
returns-in-Ok-clause-polls g c =
    let o : Once g.row.W.Denot = record { cell = c.self.inside.cell; done = c.self.inside.done.count; wakes = c.self.inside.outbox.wakers } in
    let o' : Once g.row.W.Denot = record { cell = c.settle.new.cell; done = c.settle.new.done.count; wakes = c.settle.new.outbox.wakers } in
    subst (λ (s : Once g.row.W.Denot). PollsCall g.I.Init.answers s c.args.call.now c.args.waker (Ok c.told.result) o' c.poll_init.new.call) c.self.view_is
    (polls_call g.I.Init.answers o c.args.call.now c.poll_init.new.call c.args.waker c.in-Ok.answer c.told.result c.poll_init.new.self c.settle.new.cell c.settle.new.done c.settle.new.outbox.wakers
    c.in-Ok.ensures.polls c.told.ensures (
      c.settle.ensures.cell,
      c.settle.ensures.done,
      subst (λ ws. c.settle.new.outbox.wakers ≡ (ws ++ woken c.poll_init.new.self.value c.self.inside.done.count) ++ c.poll_init.new.self.permit.wakes) c.reserve.ensures.same c.settle.ensures.wakers,
    ))

pub returns-then-is_err-clause-no_memory : goal.returns-then-is_err-clause-no_memory
returns-then-is_err-clause-no_memory g c =
    subst (λ (s : Once g.row.W.Denot). queues_more s.cell c.args.call.now.stage ≡ 1) c.self.view_is
    (sym c.queues_more-more.ensures.is
    ∙ one-of c.queues_more-more.result c.queues_more-more.ensures.small (λ none. ok_no_err c.reserve.result (c.reserve.ensures.succeeds none) (sym c.is_err.ensures.value ∙ c.if-is_err.true)))

pub returns-in-Err-clause-no_memory : goal.returns-in-Err-clause-no_memory
returns-in-Err-clause-no_memory g c = subst (λ (s : Once g.row.W.Denot). queues_more s.cell c.args.call.now.stage ≡ 1) c.self.view_is c.in-Err.ensures.no_memory
