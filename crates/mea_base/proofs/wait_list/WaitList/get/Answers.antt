use Rattle.std.proofs.Common.{◌∙◌}
use Rattle.mea_base.proofs.WaitLinks.{used_node, node_behind, get_view}
use Rattle.mea_base.proofs.wait_list.WaitList.get.Goals as goal

pub index-requires : goal.index-requires
index-requires g c =
    let used = used_node c.self.inside.nodes.slots c.args.number (rw (← c.self.view_is) at c.requires) in
    node_behind _ used

pub unreachable-requires : goal.unreachable-requires
unreachable-requires g c =
    let used = used_node c.self.inside.nodes.slots c.args.number (rw (← c.self.view_is) at c.requires) in
    let here = rw c.index.ensures at used in
    let none = rw c.in-None.is at here in
    cc

pub returns : goal.returns
returns g c = rw (← c.self.view_is) (get_view c.self.inside.nodes.slots c.args.number c.index.result.now c.index.ensures ∙ c.in-Some.is)
