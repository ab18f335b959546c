use Rattle.mea_chan.proofs.bounded_entry.BoundedEntry.kept_wakers.Goals as goal

pub returns-clause-channel : goal.returns-clause-channel
returns-clause-channel c = rw (← c.self.view_is) c.queue_len.ensures.channel
