use Rattle.mea_pool_core.proofs.Granting.{line_of_run}
use Rattle.mea_pool_core.proofs.laws.leases_are_granted_in_order.Goals as goal

pub returns-clause-order : goal.returns-clause-order
returns-clause-order g c = λ resources p h runs. (line_of_run resources p h runs).rising

pub returns-clause-line : goal.returns-clause-line
returns-clause-line g c = λ resources p h runs. (line_of_run resources p h runs).line
