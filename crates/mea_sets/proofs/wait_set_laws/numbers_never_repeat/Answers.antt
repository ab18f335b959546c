use Rattle.mea_sets.proofs.WaitSets.{given_stays, never_fresh}
use Rattle.mea_sets.proofs.wait_set_laws.numbers_never_repeat.Goals as goal

pub returns-clause-kept : goal.returns-clause-kept
returns-clause-kept g c = λ s t follows slot given. given_stays s t follows slot given

pub returns-clause-fresh : goal.returns-clause-fresh
returns-clause-fresh g c = λ s t follows slot given. never_fresh t slot (given_stays s t follows slot given)
