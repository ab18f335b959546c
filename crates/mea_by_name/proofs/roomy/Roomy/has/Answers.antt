use Rattle.std.proofs.Common.{is_some, ap, ◌∙◌}
use Rattle.mea_by_name.proofs.Kept.{copied_is}
use Rattle.mea_by_name.proofs.roomy.Roomy.has.Goals as goal

pub returns : goal.returns
returns g c = c.is_some.ensures ∙ copied_is c.get.result ∙ ap is_some c.get.ensures
