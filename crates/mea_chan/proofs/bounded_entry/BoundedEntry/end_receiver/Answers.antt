use Rattle.mea_chan.proofs.BoundedSteps.{ended_fits}
use Rattle.mea_chan.proofs.bounded_entry.BoundedEntry.end_receiver.Goals as goal

pub settle-requires-clause-fits : goal.settle-requires-clause-fits
settle-requires-clause-fits c = rw (c.end_receiver.ensures, c.self.view_is, c.kept_wakers-before.ensures.count) (ended_fits c.args.self.now c.requires.quiet c.kept_wakers-before.ensures.channel.senders)
