use Rattle.mea_once_model.proofs.Wakers.{valid_of}
use Rattle.mea_once_model.proofs.laws.tables_are_valid.Goals as goal

pub returns : goal.returns
returns c = λ run runs k. valid_of run runs k
