use Rattle.mea_once_model.proofs.Wakers.{values_stay}
use Rattle.mea_once_model.proofs.laws.a_value_stays.Goals as goal

pub returns : goal.returns
returns c = λ run i kind a o k v runs later had lasts. values_stay run runs i later kind a o k v had lasts
