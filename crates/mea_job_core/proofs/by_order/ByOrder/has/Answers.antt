use Rattle.std.proofs.Common.{is_some, sym, ap, ◌∙◌}
use Rattle.std.specs.FinMap.{get}
use Rattle.mea_share_core.proofs.Kept.{tree-kept}
use Rattle.mea_job_core.proofs.by_order.ByOrder.has.Goals as goal

pub returns : goal.returns
returns g c = c.contains_key.ensures ∙ ap is_some (sym (tree-kept c.self.inside.map.entries c.args.number) ∙ ap (λ m. get m c.args.number) c.self.view_is)
