use Rattle.mea_meet_model.proofs.KeptWakers.{no_wake_is_lost}
use Rattle.mea_meet_model.proofs.laws.no_wake_is_lost.Goals as goal

pub returns : goal.returns
returns c = no_wake_is_lost
