use Rattle.mea_meet_model.proofs.EachEvent.{valid_run}
use Rattle.mea_meet_model.proofs.validity.halls_are_valid.Goals as goal

pub returns : goal.returns
returns c = valid_run
