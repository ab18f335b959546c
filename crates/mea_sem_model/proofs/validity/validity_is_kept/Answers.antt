use Rattle.mea_sem_model.proofs.Keeps.{valid_empty}
use Rattle.mea_sem_model.proofs.StaysValid.{kept_valid}
use Rattle.mea_sem_model.proofs.validity.validity_is_kept.Goals as goal

pub returns-clause-empty : goal.returns-clause-empty
returns-clause-empty c = valid_empty

pub returns-clause-event : goal.returns-clause-event
returns-clause-event c = λ h i e v low fits cause. kept_valid h i e v low fits cause
