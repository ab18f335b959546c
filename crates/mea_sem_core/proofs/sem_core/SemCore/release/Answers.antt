use Rattle.mea_sem_core.proofs.Sound.{sound}
use Rattle.mea_sem_core.proofs.sem_core.SemCore.release.Goals as goal

pub returns-then-n-self-clause-sound : goal.returns-then-n-self-clause-sound
returns-then-n-self-clause-sound g c =
    rw (← c.self.view_is) (sound _ _ _ _ _ c.self.inside.outbox.wakers c.self.invariant.kept c.self.invariant.paid c.self.invariant.total c.self.invariant.idle c.self.invariant.fits c.self.invariant.closing)
