use Rattle.mea_sem_model.proofs.Lives.{loses_no_wake}
use Rattle.mea_sem_model.proofs.wakes.no_wake_is_lost.Goals as goal

pub returns : goal.returns
returns c = λ run runs. loses_no_wake run runs
