use Rattle.std.proofs.Common.{not, eqb, sym, ap, ◌∙◌}
use Rattle.mea_base.specs.WaitListLinks.{next_of}
use Rattle.mea_base.proofs.WaitLinks.{used_node, node_behind, linked_test}
use Rattle.mea_base.proofs.wait_list.WaitList.is_linked.Goals as goal

pub index-requires : goal.index-requires
index-requires g c =
    let used = used_node c.self.inside.nodes.slots c.args.number (rw (← c.self.view_is) at c.requires) in
    node_behind _ used

pub returns : goal.returns
returns g c =
    let used = used_node c.self.inside.nodes.slots c.args.number (rw (← c.self.view_is) at c.requires) in
    rw (← c.self.view_is) (
    ap (λ o. not (eqb (next_of o) c.args.number)) (sym c.index.ensures)
    ∙ linked_test c.self.inside.nodes.slots _ c.self.invariant.ring c.args.number used)
