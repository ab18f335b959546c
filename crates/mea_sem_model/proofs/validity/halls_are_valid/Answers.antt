use Rattle.mea_sem_model.proofs.StaysValid.{always_valid}
use Rattle.mea_sem_model.proofs.validity.halls_are_valid.Goals as goal

pub returns : goal.returns
returns c = λ run runs fit. always_valid run runs fit
