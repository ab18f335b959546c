use Rattle.mea_share_model.proofs.Wakers.{no_wake_is_lost}
use Rattle.mea_share_model.proofs.laws.no_wake_is_lost.Goals as goal

pub returns : goal.returns
returns c = λ run runs. no_wake_is_lost run runs
