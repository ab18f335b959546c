use Rattle.mea_sem_model.proofs.Balanced.{balanced}
use Rattle.mea_sem_model.proofs.balance.permits_balance.Goals as goal

pub returns : goal.returns
returns c = λ run runs s. balanced run runs s
