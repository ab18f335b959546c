use Rattle.std.proofs.Common.{arith}
use Rattle.mea_lock.proofs.Lengths.{lock_cancel_fits}
use Rattle.mea_lock.proofs.entries.LockEntry.cancel.Goals as goal

pub settle-requires-clause-fits : goal.settle-requires-clause-fits
settle-requires-clause-fits g c = rw c.queue_len-before.ensures.is (lock_cancel_fits (g.C.LockCore.lock_of c.self.inside.core) (g.C.LockCore.lock_of c.cancel.new.self) _ c.cancel.ensures
    (rw (← c.self.view_is, ← c.future.view_is) at c.requires.belongs) (rw (← c.self.view_is) at c.requires.quiet))

pub returns : goal.returns
returns g c = rw (← c.self.view_is, ← c.future.view_is) (
  g.C.LockCore.lock_of c.cancel.new.self,
  c.cancel.ensures,
  record {
    entry = c.settle.ensures.core;
    wakers = c.settle.ensures.wakers;
    counted = omega (arith, c.settle.ensures.counted, c.queue_len-before.ensures.is);
  },
)
