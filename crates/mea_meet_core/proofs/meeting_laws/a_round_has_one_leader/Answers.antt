use Rattle.mea_meet_core.proofs.BarrierLaws.{runs_on, a_round, a_part}
use Rattle.mea_meet_core.proofs.meeting_laws.a_round_has_one_leader.Goals as goal

pub returns-clause-counted : goal.returns-clause-counted
returns-clause-counted g c = λ b to arrivals runs. ((runs_on b to arrivals runs).size, (runs_on b to arrivals runs).counted)

pub returns-clause-led : goal.returns-clause-led
returns-clause-led g c = λ b to arrivals runs. (runs_on b to arrivals runs).rounds

pub returns-clause-round : goal.returns-clause-round
returns-clause-round g c = λ b to arrivals runs positive whole. a_round b to arrivals runs positive whole

pub returns-clause-before : goal.returns-clause-before
returns-clause-before g c = λ b to arrivals runs start few. a_part b to arrivals runs start few
