use Rattle.mea_sem_core.proofs.Sound.{sound}
use Rattle.mea_sem_core.proofs.sem_core.SemCore.live.Goals as goal

pub returns-clause-sound : goal.returns-clause-sound
returns-clause-sound g c =
    rw (← c.self.view_is) (sound c.self.inside.waiters c.self.inside.free c.self.inside.live c.self.inside.paid c.self.inside.closed c.self.inside.outbox.wakers c.self.invariant.kept c.self.invariant.paid c.self.invariant.total c.self.invariant.idle c.self.invariant.fits c.self.invariant.closing)
