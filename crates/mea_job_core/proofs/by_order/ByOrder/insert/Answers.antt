use Rattle.std.proofs.Common.{ap, ◌∙◌}
use Rattle.std.specs.FinMap.{insert}
use Rattle.mea_share_core.proofs.Kept.{tree_put}
use Rattle.mea_job_core.proofs.by_order.ByOrder.insert.Goals as goal

pub returns-in-Ok-clause-ok : goal.returns-in-Ok-clause-ok
returns-in-Ok-clause-ok g c =
    tree_put c.self.inside.map.entries c.insert.new.self.entries c.args.number c.args.thing c.in-Ok.ensures.updates.0
    ∙ ap (λ m. insert m c.args.number c.args.thing) c.self.view_is
