use Rattle.mea_sem_model.proofs.Lives.{keeps_wakers}
use Rattle.mea_sem_model.proofs.wakes.wakers_are_kept.Goals as goal

pub returns : goal.returns
returns c = keeps_wakers
