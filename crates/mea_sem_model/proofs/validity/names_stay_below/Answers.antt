use Rattle.mea_sem_model.proofs.Keeps.{below_empty, keeps_below}
use Rattle.mea_sem_model.proofs.validity.names_stay_below.Goals as goal

pub returns-clause-empty : goal.returns-clause-empty
returns-clause-empty c = below_empty 0

pub returns-clause-event : goal.returns-clause-event
returns-clause-event c = λ h i e v low cause. keeps_below h i e v low cause
