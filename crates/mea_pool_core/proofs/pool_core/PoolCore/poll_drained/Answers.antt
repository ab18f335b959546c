use Rattle.std.proofs.Common.{subst, sym}
use Rattle.mea_pool_core.specs.Pool.{Pool}
use Rattle.mea_pool_core.specs.Calls.{MayPollDrain, PollsDrain}
use Rattle.mea_pool_core.specs.Parts.{pool_of}
use Rattle.mea_pool_core.proofs.Polls.{poll_drains, poll_drains_keeps, drain_err}
use Rattle.mea_pool_core.proofs.pool_core.PoolCore.poll_drained.Goals as goal

pub poll-requires : goal.poll-requires
poll-requires g c = subst (λ (p : Pool g.row.R.Denot g.row.W.Denot). MayPollDrain p c.args.wait.now) (sym c.self.view_is) c.requires

pub invariant_of-self : goal.invariant_of-self
invariant_of-self g c =
    poll_drains_keeps c.self.inside.shelf c.self.inside.places c.self.inside.gate c.poll.new.self c.args.wait.now c.poll.new.wait c.args.waker c.poll.result c.self.invariant
    (subst (λ (p : Pool g.row.R.Denot g.row.W.Denot). MayPollDrain p c.args.wait.now) (sym c.self.view_is) c.requires) c.poll.ensures.polls

pub returns-clause-polls : goal.returns-clause-polls
returns-clause-polls g c =
    subst (λ (p : Pool g.row.R.Denot g.row.W.Denot). PollsDrain p c.args.wait.now c.args.waker c.poll.result (pool_of c.self.inside.shelf c.self.inside.places c.poll.new.self) c.poll.new.wait) c.self.view_is
    (poll_drains c.self.inside.shelf c.self.inside.places c.self.inside.gate c.poll.new.self c.args.wait.now c.poll.new.wait c.args.waker c.poll.result c.self.invariant c.poll.ensures.polls)

pub returns-clause-err : goal.returns-clause-err
returns-clause-err g c = drain_err c.self.inside.shelf c.self.inside.places c.self.inside.gate c.poll.new.self c.args.self.now c.args.wait.now c.poll.new.wait c.poll.result c.self.view_is c.poll.ensures.err
