use Rattle.mea_hall.proofs.Histories.{front_wakes}
use Rattle.mea_hall.proofs.history.no_wake_is_lost.Goals as goal

pub returns : goal.returns
returns c = front_wakes
