use Rattle.mea_sem_core.proofs.Sound.{sound}
use Rattle.mea_sem_core.proofs.sem_core.SemCore.next_wake.Goals as goal

pub returns-clause-sound : goal.returns-clause-sound
returns-clause-sound g c =
    sound _ _ _ _ _ _ c.self.invariant.kept c.self.invariant.paid c.self.invariant.total c.self.invariant.idle c.self.invariant.fits c.self.invariant.closing
