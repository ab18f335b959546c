use Rattle.std.proofs.Common.{arith}
use Rattle.mea_sem_core.proofs.Held.{paid-view}
use Rattle.mea_sem_core.proofs.Sound.{sound}
use Rattle.mea_sem_core.proofs.sem_core.SemCore.try_acquire.Goals as goal

pub returns-clause-held : goal.returns-clause-held
returns-clause-held g c = λ opened fits.
    let seen = paid-view c.self.inside.waiters c.self.invariant.kept in
    let enough = rw (← c.self.view_is) at fits in
    rw (← c.self.view_is) (omega (arith, seen, enough, c.self.invariant.paid, c.self.invariant.total))

pub returns-clause-sound : goal.returns-clause-sound
returns-clause-sound g c =
    sound _ _ _ _ _ _ c.self.invariant.kept c.self.invariant.paid (omega (arith, c.self.invariant.total)) (λ some. c.self.invariant.idle (omega arith))
    (omega (arith, c.self.invariant.fits)) c.self.invariant.closing

pub returns-then-self-clause-sound : goal.returns-then-self-clause-sound
returns-then-self-clause-sound g c =
    rw (← c.self.view_is) (sound c.self.inside.waiters c.self.inside.free c.self.inside.live c.self.inside.paid c.self.inside.closed c.self.inside.outbox.wakers c.self.invariant.kept c.self.invariant.paid c.self.invariant.total c.self.invariant.idle c.self.invariant.fits c.self.invariant.closing)
