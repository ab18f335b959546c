use Rattle.mea_meet_model.proofs.Registrations.{grows, falls}
use Rattle.mea_meet_model.proofs.MostWoken.{most}
use Rattle.mea_meet_model.proofs.registered.wakes_are_of_the_registered.Goals as goal

pub returns-clause-most : goal.returns-clause-most
returns-clause-most c = most

pub returns-clause-grows : goal.returns-clause-grows
returns-clause-grows c = grows

pub returns-clause-falls : goal.returns-clause-falls
returns-clause-falls c = falls
