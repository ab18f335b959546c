use Rattle.mea_share_core.proofs.Numbered.{nobody_in_use}
use Rattle.mea_share_core.proofs.fair_core.FairCore.is_in_use.Goals as goal

pub returns-in-None : goal.returns-in-None
returns-in-None g c = nobody_in_use _ c.args.number c.in-None.ensures.none
