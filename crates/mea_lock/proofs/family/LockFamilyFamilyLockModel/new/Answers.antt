use Rattle.mea_lock.proofs.Playing.{none_registered}
use Rattle.mea_lock.proofs.family.LockFamilyFamilyLockModel.new.Goals as goal

pub returns-clause-none : goal.returns-clause-none
returns-clause-none c = none_registered
