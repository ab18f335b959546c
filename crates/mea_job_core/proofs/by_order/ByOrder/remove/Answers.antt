use Rattle.std.proofs.Common.{sym, ap, ◌∙◌}
use Rattle.std.specs.FinMap.{get, remove}
use Rattle.mea_base.proofs.Maps.{not_none}
use Rattle.mea_share_core.proofs.Kept.{tree-kept, tree_remove}
use Rattle.mea_job_core.proofs.by_order.ByOrder.remove.Goals as goal

pub unreachable-requires : goal.unreachable-requires
unreachable-requires g c =
    not_none (get c.args.self.now c.args.number) c.requires
    (ap (λ m. get m c.args.number) (sym c.self.view_is) ∙ tree-kept c.self.inside.map.entries c.args.number ∙ sym c.remove.ensures.value ∙ c.in-None.is)

pub returns-clause-value : goal.returns-clause-value
returns-clause-value g c = ap (λ m. get m c.args.number) (sym c.self.view_is) ∙ tree-kept c.self.inside.map.entries c.args.number ∙ sym c.remove.ensures.value ∙ c.in-Some.is

pub returns-clause-rest : goal.returns-clause-rest
returns-clause-rest g c =
    tree_remove c.self.inside.map.entries c.remove.new.self.entries c.args.number c.remove.ensures.updates.0
    ∙ ap (λ m. remove m c.args.number) c.self.view_is
