use Rattle.std.proofs.Common.{ap, ◌∙◌}
use Rattle.mea_once_model.specs.Tables as tables
use Rattle.mea_once_model.proofs.CellWakers.{settles}
use Rattle.mea_once_model.proofs.TableLaws.{key_settles, settles_in_round}
use Rattle.mea_once_model.proofs.laws.a_settled_initialiser_is_woken.Goals as goal

pub returns-clause-cell : goal.returns-clause-cell
returns-clause-cell c = λ h i f r x c future there. settles h i f r x c future there

pub returns-clause-by_key : goal.returns-clause-by_key
returns-clause-by_key c = λ once h i f n r x t c future there round at. key_settles once h i f r x t future there ∙ settles_in_round once h f n r x t c round at

pub returns-clause-new : goal.returns-clause-new
returns-clause-new c = λ once h i f r x t future there round. key_settles once h i f r x t future there ∙ ap (λ p. (tables.settle once h f r x t p).wakes) round
