use Rattle.std.proofs.Common.{arith}
use Rattle.mea_lock.proofs.Lengths.{unlock_fits}
use Rattle.mea_lock.proofs.entries.LockEntry.unlock.Goals as goal

pub settle-requires-clause-fits : goal.settle-requires-clause-fits
settle-requires-clause-fits g c = rw c.queue_len-before.ensures.is (unlock_fits (g.C.LockCore.lock_of c.self.inside.core) (g.C.LockCore.lock_of c.unlock.new.self) c.args.write c.unlock.ensures
    (rw (← c.self.view_is) at c.requires.quiet))

pub returns : goal.returns
returns g c = rw (← c.self.view_is) (
  g.C.LockCore.lock_of c.unlock.new.self,
  c.unlock.ensures,
  record {
    entry = c.settle.ensures.core;
    wakers = c.settle.ensures.wakers;
    counted = omega (arith, c.settle.ensures.counted, c.queue_len-before.ensures.is);
  },
)
