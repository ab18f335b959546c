use Rattle.mea_meet_model.proofs.Living.{lives_there}
use Rattle.mea_meet_model.proofs.validity.what_is_there_lives.Goals as goal

pub returns-clause-latches : goal.returns-clause-latches
returns-clause-latches c = λ h n v. lives_there h.latches n v.latches

pub returns-clause-groups : goal.returns-clause-groups
returns-clause-groups c = λ h n v. lives_there h.groups n v.groups

pub returns-clause-shutdowns : goal.returns-clause-shutdowns
returns-clause-shutdowns c = λ h n v. lives_there h.shutdowns n v.shutdowns
