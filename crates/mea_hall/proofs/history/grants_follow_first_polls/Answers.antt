use Rattle.mea_hall.proofs.Histories.{front_orders}
use Rattle.mea_hall.proofs.history.grants_follow_first_polls.Goals as goal

pub returns : goal.returns
returns c = front_orders
