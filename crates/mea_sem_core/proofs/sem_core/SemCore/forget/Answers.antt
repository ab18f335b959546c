use Rattle.std.proofs.Common.{arith}
use Rattle.mea_sem_core.proofs.Sound.{sound}
use Rattle.mea_sem_core.proofs.sem_core.SemCore.forget.Goals as goal

pub returns-clause-sound : goal.returns-clause-sound
returns-clause-sound g c =
    sound _ _ _ _ _ _ c.self.invariant.kept c.self.invariant.paid (omega (arith, c.self.invariant.total)) (λ some. c.self.invariant.idle (omega arith))
    (omega (arith, c.self.invariant.fits)) c.self.invariant.closing
