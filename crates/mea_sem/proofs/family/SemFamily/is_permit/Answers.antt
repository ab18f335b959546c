use Rattle.std.proofs.Common.{is_some, sym, ap, ◌∙◌}
use Rattle.mea_sem.proofs.Things.{at-entries}
use Rattle.mea_sem.proofs.Refusals.{is_permit-at}
use Rattle.mea_sem.proofs.Lists.{alone}
use Rattle.mea_sem.proofs.Inside.{seen_alone}
use Rattle.mea_sem.proofs.family.SemFamily.is_permit.Goals as goal

pub returns : goal.returns
returns c = c.has.ensures ∙ ap is_some (sym (at-entries _ _)) ∙ sym (is_permit-at (alone c.self.inside) (seen_alone c.self.view_is) c.args.p)
