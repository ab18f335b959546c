use Rattle.mea_pool_core.proofs.Slots.{stays_drained, all_back, told_of_run}
use Rattle.mea_pool_core.proofs.laws.a_drained_pool_stays_drained.Goals as goal

pub returns-clause-stays : goal.returns-clause-stays
returns-clause-stays g c = λ resources p p' h h' runs is further. stays_drained resources p p' h h' runs is further

pub returns-clause-all : goal.returns-clause-all
returns-clause-all g c = λ resources p h runs is. all_back resources p h runs is

pub returns-clause-told : goal.returns-clause-told
returns-clause-told g c = λ resources p h runs is. told_of_run resources p h runs is
