use Rattle.mea_sets.proofs.WaitSets.{pairs_of-replaced, pairs_of-appended}
use Rattle.mea_sets.proofs.wait_set_laws.a_set_is_its_pairs.Goals as goal

pub returns-clause-replaced : goal.returns-clause-replaced
returns-clause-replaced g c = λ s place w there. pairs_of-replaced s place w there

pub returns-clause-appended : goal.returns-clause-appended
returns-clause-appended g c = λ s slot w gone. pairs_of-appended s slot w gone
