use Rattle.mea_meet_core.proofs.LatchLaws.{stays}
use Rattle.mea_meet_core.proofs.meeting_laws.a_latch_at_0_stays_there.Goals as goal

pub returns-clause-stays : goal.returns-clause-stays
returns-clause-stays g c = λ from to runs none. stays from to runs none
