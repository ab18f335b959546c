use Rattle.mea_meet_model.proofs.KeptWakers.{keeps}
use Rattle.mea_meet_model.proofs.laws.wakers_are_kept.Goals as goal

pub returns : goal.returns
returns c = keeps
