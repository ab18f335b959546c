use Rattle.mea_sem_model.proofs.Closed.{is_closed_then, cuts, close_conserves}
use Rattle.mea_sem_model.proofs.closing.a_close_cuts_who_waits.Goals as goal

pub returns-clause-closes : goal.returns-clause-closes
returns-clause-closes c = λ h i s. is_closed_then h i s

pub returns-clause-cuts : goal.returns-clause-cuts
returns-clause-cuts c = λ h i s f w x v is of waits. cuts h i s f w x v is of waits

pub returns-clause-conserves : goal.returns-clause-conserves
returns-clause-conserves c = λ h i k v low cause s. close_conserves h i k v low cause s
