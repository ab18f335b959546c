use Rattle.mea_sem_model.proofs.Keeps.{accounted_empty, keeps_account}
use Rattle.mea_sem_model.proofs.validity.tallies_account.Goals as goal

pub returns-clause-empty : goal.returns-clause-empty
returns-clause-empty c = λ s. accounted_empty s

pub returns-clause-event : goal.returns-clause-event
returns-clause-event c = λ h i e v low cause account s. keeps_account h i e v low cause account s
