use Rattle.mea_meet_model.proofs.WhoLeads.{exactly, wakes, arrives, one}
use Rattle.mea_meet_model.proofs.leaders.a_round_has_one_leader.Goals as goal

pub returns-clause-exactly : goal.returns-clause-exactly
returns-clause-exactly c = exactly

pub returns-clause-wakes : goal.returns-clause-wakes
returns-clause-wakes c = wakes

pub returns-clause-arrives : goal.returns-clause-arrives
returns-clause-arrives c = λ h n i e v later. arrives h n i e v later

pub returns-clause-one : goal.returns-clause-one
returns-clause-one c = one
