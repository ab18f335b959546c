use Rattle.mea_chan.proofs.Playing.{none_registered}
use Rattle.mea_chan.proofs.family.ChanFamilyFamilyChanModel.new.Goals as goal

pub returns-clause-none : goal.returns-clause-none
returns-clause-none c = none_registered
