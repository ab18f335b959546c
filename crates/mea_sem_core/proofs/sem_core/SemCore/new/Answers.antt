use Rattle.std.proofs.Common.{◌≡◌, refl, arith, rules}
use Rattle.mea_sem_core.specs.Places.{IsQueue, paid_in}
use Rattle.mea_sem_core.proofs.Sound.{sound}
use Rattle.mea_sem_core.proofs.sem_core.SemCore.new.Goals as goal

pub returns-clause-sound : goal.returns-clause-sound
returns-clause-sound g c =
    let kept : IsQueue c.new.result = search rules in
    let paid : 0 ≡ paid_in c.new.result = rw c.new.ensures.slots refl in
    sound _ _ _ _ _ _ kept paid (omega arith) (λ some. c.new.ensures.order) (omega arith)
    (rw c.new.ensures.slots refl)
