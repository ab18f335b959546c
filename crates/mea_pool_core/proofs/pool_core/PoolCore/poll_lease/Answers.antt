use Rattle.std.proofs.Common.{subst, sym, Ok}
use Rattle.mea_sem_core.specs.declared.open_turn.OpenTurn.{OpenTurn}
use Rattle.mea_pool_core.specs.declared.lease_poll.LeasePoll.TheVariants as answer
use Rattle.mea_pool_core.specs.Pool.{Pool}
use Rattle.mea_pool_core.specs.Places.{PollsPlace}
use Rattle.mea_pool_core.specs.Calls.{MayPoll, PollsLease}
use Rattle.mea_pool_core.specs.Parts.{pool_of}
use Rattle.mea_pool_core.proofs.Polls.{place_found, got, got_keeps}
use Rattle.mea_pool_core.proofs.pool_core.PoolCore.poll_lease.Goals as goal

pub lend-requires : goal.lend-requires
lend-requires g c =
    place_found c.self.inside.shelf c.self.inside.places c.self.inside.gate c.args.wait.now c.in-Ok-Ready.field-0 c.in-Ok-Ready._waker c.self.invariant
    (subst (λ (p : Pool g.row.R.Denot g.row.W.Denot). MayPoll p c.args.wait.now) (sym c.self.view_is) c.requires) c.in-Ok-Ready.field-0-is c.in-Ok-Ready.ensures.finds

pub invariant_of-self : goal.invariant_of-self
invariant_of-self g c =
    got_keeps c.self.inside.shelf c.lend.new.self c.self.inside.places c.poll.new.self c.self.inside.gate c.args.wait.now c.poll.new.wait c.args.waker c.in-Ok-Ready._waker c.lend.result c.self.invariant
    (subst (λ (p : Pool g.row.R.Denot g.row.W.Denot). MayPoll p c.args.wait.now) (sym c.self.view_is) c.requires)
    (subst (λ (t : OpenTurn g.row.W.Denot). PollsPlace c.self.inside.places c.args.wait.now c.args.waker (Ok t) c.poll.new.self c.poll.new.wait) c.in-Ok-Ready.field-0-is c.in-Ok-Ready.ensures.polls) c.lend.ensures

pub returns-in-Ok-Ready-clause-polls : goal.returns-in-Ok-Ready-clause-polls
returns-in-Ok-Ready-clause-polls g c =
    subst (λ (p : Pool g.row.R.Denot g.row.W.Denot). PollsLease p c.args.wait.now c.args.waker (Ok (answer.Got c.lend.result)) (pool_of c.lend.new.self c.poll.new.self c.self.inside.gate) c.poll.new.wait) c.self.view_is
    (got c.self.inside.shelf c.lend.new.self c.self.inside.places c.poll.new.self c.self.inside.gate c.args.wait.now c.poll.new.wait c.args.waker c.in-Ok-Ready._waker c.lend.result c.self.invariant
    (subst (λ (t : OpenTurn g.row.W.Denot). PollsPlace c.self.inside.places c.args.wait.now c.args.waker (Ok t) c.poll.new.self c.poll.new.wait) c.in-Ok-Ready.field-0-is c.in-Ok-Ready.ensures.polls) c.lend.ensures)
