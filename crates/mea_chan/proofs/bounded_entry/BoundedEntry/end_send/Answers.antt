use Rattle.std.proofs.Common.{sym, ap, ◌∙◌, arith}
use Rattle.mea_chan.specs.BoundedCores.{kept_by}
use Rattle.mea_chan.proofs.BoundedSteps.{cancelled_fits}
use Rattle.mea_chan.proofs.bounded_entry.BoundedEntry.end_send.Goals as goal

pub settle-requires-clause-fits : goal.settle-requires-clause-fits
settle-requires-clause-fits c = rw (c.kept_wakers-before.ensures.count, ← c.self.view_is) (cancelled_fits c.self.inside.core (rw (← c.self.view_is) at c.requires.quiet) (rw (← c.self.view_is) at c.kept_wakers-before.ensures.channel.senders) c.send.inside.wait.acquire c.end_send.new.self
    c.send.inside.wait.one (rw (← c.self.view_is, ← c.send.view_is) at c.requires.belongs) c.end_send.ensures.ends)

pub returns-clause-ends : goal.returns-clause-ends
returns-clause-ends c =
    let before = c.kept_wakers-before.ensures.count ∙ ap kept_by (sym c.self.view_is) in
    rw (← c.self.view_is, ← c.send.view_is) (
      c.end_send.new.self,
      c.end_send.ensures.ends,
      record { entry = c.settle.ensures.entry; wakers = c.settle.ensures.wakers; counted = omega (arith, c.settle.ensures.counted, before) },
    )
