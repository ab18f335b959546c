use Rattle.mea_share.proofs.Playing.{none_registered}
use Rattle.mea_share.proofs.family.ShareFamilyFamilyShareModel.new.Goals as goal

pub returns-clause-none : goal.returns-clause-none
returns-clause-none c = none_registered
