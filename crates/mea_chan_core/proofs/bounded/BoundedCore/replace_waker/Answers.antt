use Rattle.std.proofs.Common.{rules}
use Rattle.mea_chan_core.proofs.Senders.{rewakes_there}
use Rattle.mea_chan_core.proofs.bounded.BoundedCore.replace_waker.Goals as goal

pub invariant_of-self : goal.invariant_of-self
invariant_of-self g c =
    let quiet = rewakes_there c.self.inside.waiting c.poll.new.self c.args.acquire.now c.poll.new.acquire c.args.waker c.poll.result c.self.invariant.waiting (rw (← c.self.view_is) at c.requires) c.poll.ensures.polls in
    search rules
