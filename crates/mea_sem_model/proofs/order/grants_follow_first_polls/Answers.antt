use Rattle.mea_sem_model.proofs.OrderLaws.{in_order, wakes_in_order, nobody_past}
use Rattle.mea_sem_model.proofs.order.grants_follow_first_polls.Goals as goal

pub returns-clause-order : goal.returns-clause-order
returns-clause-order c = λ run runs. in_order run runs

pub returns-clause-wakes : goal.returns-clause-wakes
returns-clause-wakes c = λ run runs. wakes_in_order run runs

pub returns-clause-tries : goal.returns-clause-tries
returns-clause-tries c = λ run runs. nobody_past run runs
