use Rattle.mea_once_model.proofs.Wakers.{none_registered}
use Rattle.mea_once.proofs.family.OnceFamilyFamilyOnceModel.new.Goals as goal

pub returns-clause-none : goal.returns-clause-none
returns-clause-none c = none_registered
