use Rattle.mea_hall.proofs.Histories.{front_balances}
use Rattle.mea_hall.proofs.history.permits_balance.Goals as goal

pub returns : goal.returns
returns c = front_balances
