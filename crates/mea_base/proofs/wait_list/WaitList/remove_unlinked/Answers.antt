use Rattle.std.proofs.Common.{sym, ap, ◌∙◌, arith}
use Rattle.mea_base.specs.WaitListLinks.{value_of}
use Rattle.mea_base.proofs.WaitLinks.{any_key, used_node, node_behind, sentinel_removed, view_at, get_view, after_remove}
use Rattle.mea_base.proofs.wait_list.WaitList.remove_unlinked.Goals as goal

pub remove-value-requires : goal.remove-value-requires
remove-value-requires g c =
    let used = used_node c.self.inside.nodes.slots c.args.number (rw (← c.self.view_is) at c.requires.in_use) in
    node_behind _ used

pub unreachable-requires : goal.unreachable-requires
unreachable-requires g c =
    let used = used_node c.self.inside.nodes.slots c.args.number (rw (← c.self.view_is) at c.requires.in_use) in
    let here = rw c.remove-value.ensures.value at used in
    let none = rw c.in-None.is at here in
    cc

pub invariant_of-self : goal.invariant_of-self
invariant_of-self g c =
    let used = used_node c.self.inside.nodes.slots c.args.number (rw (← c.self.view_is) at c.requires.in_use) in
    let unlinked = rw (← c.self.view_is) at c.requires.unlinked in
    let left = after_remove c.self.inside.nodes c.remove-value.new.self c.self.inside.len c.args.number c.self.invariant.ring used unlinked c.remove-value.ensures.updates in
    let made = sentinel_removed c.self.inside.nodes c.remove-value.new.self _ c.self.invariant.ring c.args.number used c.remove-value.ensures.updates in
    record {
      ring = left.ring;
      first_key = any_key c.remove-value.new.self.slots c.remove-value.new.self.vacant_key made;
      sentinel = λ some. made;
      room = omega (arith, c.remove-value.ensures.len, c.remove-value.ensures.capacity, c.self.invariant.room);
      fits = omega (arith, c.remove-value.ensures.len, c.self.invariant.fits);
    }

pub returns-clause-value : goal.returns-clause-value
returns-clause-value g c = rw (← c.self.view_is)
    (get_view c.self.inside.nodes.slots c.args.number c.remove-value.result c.remove-value.ensures.value ∙ c.in-Some.is)

pub returns-clause-updates : goal.returns-clause-updates
returns-clause-updates g c =
    rw (← c.self.view_is) record {
      changed = view_at c.remove-value.new.self.slots c.args.number ∙ ap value_of c.remove-value.ensures.updates.changed;
      others = λ other differs. view_at c.remove-value.new.self.slots other ∙ ap value_of (c.remove-value.ensures.updates.others other differs)
          ∙ sym (view_at c.self.inside.nodes.slots other);
    }

pub returns-clause-order : goal.returns-clause-order
returns-clause-order g c =
    let used = used_node c.self.inside.nodes.slots c.args.number (rw (← c.self.view_is) at c.requires.in_use) in
    let unlinked = rw (← c.self.view_is) at c.requires.unlinked in
    let left = after_remove c.self.inside.nodes c.remove-value.new.self c.self.inside.len c.args.number c.self.invariant.ring used unlinked c.remove-value.ensures.updates in
    rw (← c.self.view_is) left.order
