use Rattle.mea_share_model.proofs.Wakers.{keeps}
use Rattle.mea_share_model.proofs.laws.wakers_are_kept.Goals as goal

pub returns : goal.returns
returns c = keeps
