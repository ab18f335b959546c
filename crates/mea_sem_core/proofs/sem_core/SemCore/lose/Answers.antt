use Rattle.std.proofs.Common.{arith}
use Rattle.mea_sem_core.proofs.Held.{paid-view}
use Rattle.mea_sem_core.proofs.Sound.{sound}
use Rattle.mea_sem_core.proofs.sem_core.SemCore.lose.Goals as goal

pub invariant_of-self : goal.invariant_of-self
invariant_of-self g c =
    let seen = paid-view c.self.inside.waiters c.self.invariant.kept in
    let held = rw (← c.self.view_is) at c.requires in
    record {
      kept = c.self.invariant.kept;
      room = c.self.invariant.room;
      paid = c.self.invariant.paid;
      total = omega (arith, seen, held, c.self.invariant.paid, c.self.invariant.total);
      fits = omega (arith, c.self.invariant.fits);
      idle = c.self.invariant.idle;
      closing = c.self.invariant.closing;
    }

pub returns-clause-sound : goal.returns-clause-sound
returns-clause-sound g c =
    let kept = invariant_of-self g c in
    sound _ _ _ _ _ _ kept.kept kept.paid kept.total kept.idle kept.fits kept.closing
