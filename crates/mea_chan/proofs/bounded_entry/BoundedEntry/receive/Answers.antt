use Rattle.mea_chan.proofs.BoundedSteps.{received_fits}
use Rattle.mea_chan.proofs.bounded_entry.BoundedEntry.receive.Goals as goal

pub settle-requires-clause-fits : goal.settle-requires-clause-fits
settle-requires-clause-fits c = rw (c.try_recv-received.ensures.after, c.kept_wakers-before.ensures.count, ← c.self.view_is) (received_fits c.self.inside.core (rw (← c.self.view_is) at c.requires.quiet) (rw (← c.self.view_is) at c.kept_wakers-before.ensures.channel.senders))
