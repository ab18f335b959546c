use Rattle.mea_chan_core.proofs.Enough.{enough_woken}
use Rattle.mea_chan_core.proofs.laws.enough_senders_are_woken.Goals as goal

pub returns : goal.returns
returns g c = λ channel watch runs. enough_woken channel watch runs
