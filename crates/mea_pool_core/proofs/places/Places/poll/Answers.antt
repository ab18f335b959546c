use Rattle.std.proofs.Common.{subst, sym}
use Rattle.std.specs.Prelude.{IfOk}
use Rattle.mea_sem_core.specs.Calls.{Belongs, PollsOpen, HoldsOpen}
use Rattle.mea_sem_core.specs.declared.acquire.Acquire.{Acquire}
use Rattle.mea_pool_core.specs.declared.lease_wait.LeaseWait.{LeaseWait}
use Rattle.mea_pool_core.specs.Waits.{wait_of}
use Rattle.mea_pool_core.specs.Places.{Places, places_of, Fits, PollsPlace, FindsPlace}
use Rattle.mea_pool_core.proofs.PlaceCalls.{fitting, polled, poll_keeps, finds, kept_on_err}
use Rattle.mea_pool_core.proofs.places.Places.poll.Goals as goal

pub poll_open-answer-requires : goal.poll_open-answer-requires
poll_open-answer-requires g c =
    subst (λ (a : Acquire). Belongs c.self.inside.permits a) (sym c.acquire-acquire.ensures)
    ((fitting c.self.inside.permits c.args.wait.now c.self.invariant).1 (subst (λ (s : Places g.row.W.Denot). Fits s c.args.wait.now) (sym c.self.view_is) c.requires))

pub invariant_of-self : goal.invariant_of-self
invariant_of-self g c =
    poll_keeps c.self.inside.permits c.poll_open-answer.new.self c.args.wait.now c.poll_open-answer.new.acquire c.args.waker c.poll_open-answer.result c.self.invariant c.poll_open-answer.ensures.sound
    (subst (λ (a : Acquire). PollsOpen c.self.inside.permits a c.args.waker c.poll_open-answer.result c.poll_open-answer.new.self c.poll_open-answer.new.acquire) c.acquire-acquire.ensures c.poll_open-answer.ensures.polls)
    (subst (λ (a : Acquire). IfOk c.poll_open-answer.result (λ turn. HoldsOpen c.self.inside.permits a turn c.poll_open-answer.new.self)) c.acquire-acquire.ensures c.poll_open-answer.ensures.holds)
    (subst (λ (s : Places g.row.W.Denot). Fits s c.args.wait.now) (sym c.self.view_is) c.requires)

pub returns-clause-polls : goal.returns-clause-polls
returns-clause-polls g c =
    subst (λ (a : LeaseWait). PollsPlace c.args.self.now c.args.wait.now c.args.waker c.poll_open-answer.result (places_of c.poll_open-answer.new.self) a) (sym c.of.ensures)
    (subst (λ (s : Places g.row.W.Denot). PollsPlace s c.args.wait.now c.args.waker c.poll_open-answer.result (places_of c.poll_open-answer.new.self) (wait_of c.poll_open-answer.new.acquire)) c.self.view_is
    (polled c.self.inside.permits c.poll_open-answer.new.self c.args.wait.now c.poll_open-answer.new.acquire c.args.waker c.poll_open-answer.result c.self.invariant c.poll_open-answer.ensures.sound
    (subst (λ (a : Acquire). PollsOpen c.self.inside.permits a c.args.waker c.poll_open-answer.result c.poll_open-answer.new.self c.poll_open-answer.new.acquire) c.acquire-acquire.ensures c.poll_open-answer.ensures.polls)
    (subst (λ (a : Acquire). IfOk c.poll_open-answer.result (λ turn. HoldsOpen c.self.inside.permits a turn c.poll_open-answer.new.self)) c.acquire-acquire.ensures c.poll_open-answer.ensures.holds)))

pub returns-clause-finds : goal.returns-clause-finds
returns-clause-finds g c = λ unmet.
    subst (λ (s : Places g.row.W.Denot). IfOk c.poll_open-answer.result (λ turn. FindsPlace s turn)) c.self.view_is
    (finds c.self.inside.permits c.poll_open-answer.new.self c.args.wait.now c.poll_open-answer.new.acquire c.args.waker c.poll_open-answer.result unmet c.self.invariant c.poll_open-answer.ensures.sound c.poll_open-answer.ensures.steady
    (subst (λ (a : Acquire). PollsOpen c.self.inside.permits a c.args.waker c.poll_open-answer.result c.poll_open-answer.new.self c.poll_open-answer.new.acquire) c.acquire-acquire.ensures c.poll_open-answer.ensures.polls)
    (subst (λ (a : Acquire). IfOk c.poll_open-answer.result (λ turn. HoldsOpen c.self.inside.permits a turn c.poll_open-answer.new.self)) c.acquire-acquire.ensures c.poll_open-answer.ensures.holds))

pub returns-clause-err : goal.returns-clause-err
returns-clause-err g c =
    kept_on_err c.self.inside.permits c.poll_open-answer.new.self c.args.self.now c.args.wait.now c.of.result c.acquire-acquire.result c.poll_open-answer.new.acquire c.poll_open-answer.result c.self.view_is c.acquire-acquire.ensures c.of.ensures c.poll_open-answer.ensures.err
