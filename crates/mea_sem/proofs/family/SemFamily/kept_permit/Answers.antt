use Rattle.std.proofs.Common.{ap, sym, ◌∙◌}
use Rattle.std.specs.Option.{option_map}
use Rattle.mea_sem.specs.Store.{permit_of}
use Rattle.mea_sem.proofs.Things.{at-entries}
use Rattle.mea_sem.proofs.Refusals.{permit-at}
use Rattle.mea_sem.proofs.Lists.{alone}
use Rattle.mea_sem.proofs.Inside.{seen_alone}
use Rattle.mea_sem.proofs.family.SemFamily.kept_permit.Goals as goal

pub returns : goal.returns
returns c = permit-at (alone c.self.inside) (seen_alone c.self.view_is) c.args.p ∙ ap (option_map permit_of) (at-entries _ _ ∙ sym c.get.ensures)
