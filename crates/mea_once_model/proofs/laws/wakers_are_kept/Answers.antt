use Rattle.mea_once_model.proofs.Wakers.{keeps}
use Rattle.mea_once_model.proofs.laws.wakers_are_kept.Goals as goal

pub returns : goal.returns
returns c = keeps
