use Rattle.mea_chan.proofs.BoundedSteps.{polled_fits}
use Rattle.mea_chan.proofs.bounded_entry.BoundedEntry.poll_receive.Goals as goal

pub settle-requires-clause-fits : goal.settle-requires-clause-fits
settle-requires-clause-fits c = rw (c.in-Ok.ensures.polls.1, c.kept_wakers-before.ensures.count) (polled_fits c.args.self.now c.requires.quiet c.kept_wakers-before.ensures.channel.senders _ c.in-Ok.received)
