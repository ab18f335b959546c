use Rattle.mea_pool_core.proofs.Slots.{once_in_run}
use Rattle.mea_pool_core.proofs.laws.each_slot_stands_once.Goals as goal

pub returns : goal.returns
returns g c = λ resources p h runs slot. once_in_run resources p h runs slot
