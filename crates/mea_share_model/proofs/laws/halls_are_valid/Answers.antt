use Rattle.mea_share_model.proofs.Keeping.{reached}
use Rattle.mea_share_model.proofs.laws.halls_are_valid.Goals as goal

pub returns : goal.returns
returns c = λ run runs. (reached run runs).1
