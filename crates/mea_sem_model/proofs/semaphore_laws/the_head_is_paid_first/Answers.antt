use Rattle.mea_sem_model.proofs.HeadFirst.{part_waiting, past_waiting, in_order}
use Rattle.mea_sem_model.proofs.semaphore_laws.the_head_is_paid_first.Goals as goal

pub returns-clause-part : goal.returns-clause-part
returns-clause-part c = λ e q n all short. part_waiting e q n all short

pub returns-clause-whole : goal.returns-clause-whole
returns-clause-whole c = λ e q n enough. past_waiting e q n enough

pub returns-clause-order : goal.returns-clause-order
returns-clause-order c = λ q n all. in_order q n all
