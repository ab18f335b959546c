use Rattle.mea_sem_model.proofs.Waiting.{settles}
use Rattle.mea_sem_model.proofs.waiters.wakes_are_of_waiters.Goals as goal

pub returns-clause-most : goal.returns-clause-most
returns-clause-most c = λ h i e. (settles h i e).most

pub returns-clause-grows : goal.returns-clause-grows
returns-clause-grows c = λ h i e. (settles h i e).grows

pub returns-clause-falls : goal.returns-clause-falls
returns-clause-falls c = λ h i e not_one. (settles h i e).falls not_one
