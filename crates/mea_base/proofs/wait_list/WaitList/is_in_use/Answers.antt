use Rattle.std.proofs.Common.{sym, ap, ◌∙◌}
use Rattle.mea_base.specs.WaitListLinks.{value_of}
use Rattle.mea_base.proofs.WaitLinks.{view_at, get_view}
use Rattle.mea_base.proofs.wait_list.WaitList.is_in_use.Goals as goal

pub returns-in-Some : goal.returns-in-Some
returns-in-Some g c =
    let seen = get_view c.self.inside.nodes.slots c.args.number c.in-Some.node.now (sym c.in-Some.ensures) in
    rw (← c.self.view_is, seen) ((λ true_now. sym c.is_some.ensures ∙ true_now), (λ used. c.is_some.ensures ∙ used))

pub returns-in-None : goal.returns-in-None
returns-in-None g c =
    let seen = view_at c.self.inside.nodes.slots c.args.number ∙ ap value_of (sym c.in-None.ensures) in
    rw (← c.self.view_is, seen) ((λ true_now. absurd (cc)), (λ used. absurd (cc)))
