use Rattle.mea_share_model.proofs.Settling.{settled_reached}
use Rattle.mea_share_model.proofs.laws.nobody_waits_beside_a_free_permit.Goals as goal

pub returns : goal.returns
returns c = settled_reached
