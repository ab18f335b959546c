use Rattle.std.proofs.Common.{◌≡◌, ◌≢◌, not, eqb, false, true, sym, ap, ◌∙◌, arith}
use Rattle.std.proofs.lemmas.Bool.{eq-eqb, ne_eqb}
use Rattle.mea_base.specs.WaitListLinks.{next_in}
use Rattle.mea_base.proofs.Chains.{without-absent}
use Rattle.mea_base.proofs.WaitLinks.{any_key, used_node, node_behind, sentinel_here, around, absent_here, alone_here, before_moves, linked_test, left_alone, taken_out, after_unlink, after_nothing, same_view}
use Rattle.mea_base.proofs.wait_list.WaitList.unlink_counted.Goals as goal

pub detach-prev-requires : goal.detach-prev-requires
detach-prev-requires g c =
    let used = used_node c.self.inside.nodes.slots c.args.number (rw (← c.self.view_is) at c.requires) in
    node_behind _ used

-- ---- a number off the ring
pub invariant_of-self : goal.invariant_of-self
invariant_of-self g c =
    let used = used_node c.self.inside.nodes.slots c.args.number (rw (← c.self.view_is) at c.requires) in
    let stays : next_in c.self.inside.nodes.slots c.args.number ≡ c.args.number = sym c.detach-prev.ensures.next ∙ c.if-next-number.true in
    let links = left_alone c.self.inside.nodes c.detach-prev.new.nodes c.args.number stays (alone_here c.self.inside.nodes.slots _ c.self.invariant.ring c.args.number used stays) c.detach-prev.ensures.links in
    let was = sentinel_here c.self.inside.nodes.slots _ c.self.invariant.ring c.args.number used in
    let made = links.nodes 0 ∙ was in
    record {
      ring = (after_nothing c.self.inside.nodes c.detach-prev.new.nodes c.self.inside.len c.self.invariant.ring was links).ring;
      first_key = any_key c.detach-prev.new.nodes.slots c.detach-prev.new.nodes.vacant_key made;
      sentinel = λ some. made;
      room = omega (arith, links.len, links.capacity, c.self.invariant.room);
      fits = omega (arith, links.len, c.self.invariant.fits);
    }

pub returns-then-next-number-clause-is : goal.returns-then-next-number-clause-is
returns-then-next-number-clause-is g c =
    let used = used_node c.self.inside.nodes.slots c.args.number (rw (← c.self.view_is) at c.requires) in
    let stays : next_in c.self.inside.nodes.slots c.args.number ≡ c.args.number = sym c.detach-prev.ensures.next ∙ c.if-next-number.true in
    let links = left_alone c.self.inside.nodes c.detach-prev.new.nodes c.args.number stays (alone_here c.self.inside.nodes.slots _ c.self.invariant.ring c.args.number used stays) c.detach-prev.ensures.links in
    let was = sentinel_here c.self.inside.nodes.slots _ c.self.invariant.ring c.args.number used in
    let absent = absent_here c.self.inside.nodes.slots _ c.self.invariant.ring c.args.number used stays in
    let order = (after_nothing c.self.inside.nodes c.detach-prev.new.nodes c.self.inside.len c.self.invariant.ring was links).order ∙ sym (without-absent c.args.number _ absent) in
    let slots = same_view c.self.inside.nodes.slots c.detach-prev.new.nodes.slots links.values in
    rw (← c.self.view_is) (λ i. record { order = order i; slots = slots i; spare = c.self.inside.spare })

pub returns-then-next-number-clause-linked : goal.returns-then-next-number-clause-linked
returns-then-next-number-clause-linked g c = λ linked. absurd (
    let used = used_node c.self.inside.nodes.slots c.args.number (rw (← c.self.view_is) at c.requires) in
    let stays : next_in c.self.inside.nodes.slots c.args.number ≡ c.args.number = sym c.detach-prev.ensures.next ∙ c.if-next-number.true in
    let test = linked_test c.self.inside.nodes.slots _ c.self.invariant.ring c.args.number used in
    let is = rw (← c.self.view_is) at linked in
    let no : not (eqb (next_in c.self.inside.nodes.slots c.args.number) c.args.number) ≡ false = ap not (eq-eqb _ _ stays) in
    cc)

-- ---- a linked number
pub set_next_counted-requires : goal.set_next_counted-requires
set_next_counted-requires g c =
    let used = used_node c.self.inside.nodes.slots c.args.number (rw (← c.self.view_is) at c.requires) in
    let moves : next_in c.self.inside.nodes.slots c.args.number ≢ c.args.number = λ same. c.if-next-number.false (c.detach-prev.ensures.next ∙ same) in
    c.detach-prev.ensures.links.nodes _ ∙ rw c.detach-prev.ensures.prev (around c.self.inside.nodes.slots _ c.self.invariant.ring c.args.number used moves).prev_on

pub set_prev_counted-requires : goal.set_prev_counted-requires
set_prev_counted-requires g c =
    let used = used_node c.self.inside.nodes.slots c.args.number (rw (← c.self.view_is) at c.requires) in
    let moves : next_in c.self.inside.nodes.slots c.args.number ≢ c.args.number = λ same. c.if-next-number.false (c.detach-prev.ensures.next ∙ same) in
    c.set_next_counted.ensures.links.nodes _ ∙ c.detach-prev.ensures.links.nodes _
    ∙ rw c.detach-prev.ensures.next (around c.self.inside.nodes.slots _ c.self.invariant.ring c.args.number used moves).next_on

pub invariant_of-self-2 : goal.invariant_of-self-2
invariant_of-self-2 g c =
    let used = used_node c.self.inside.nodes.slots c.args.number (rw (← c.self.view_is) at c.requires) in
    let moves : next_in c.self.inside.nodes.slots c.args.number ≢ c.args.number = λ same. c.if-next-number.false (c.detach-prev.ensures.next ∙ same) in
    let prev_moves = before_moves c.self.inside.nodes.slots _ c.self.invariant.ring c.args.number used moves in
    let links = taken_out c.self.inside.nodes c.detach-prev.new.nodes c.set_next_counted.new.nodes c.set_prev_counted.new.nodes c.args.number _ _ c.detach-prev.ensures.prev c.detach-prev.ensures.next (rw c.detach-prev.ensures.prev prev_moves) (rw c.detach-prev.ensures.next moves) c.detach-prev.ensures.links c.set_next_counted.ensures.links c.set_prev_counted.ensures.links in
    let made = links.nodes 0 ∙ sentinel_here c.self.inside.nodes.slots _ c.self.invariant.ring c.args.number used in
    record {
      ring = (after_unlink c.self.inside.nodes c.set_prev_counted.new.nodes c.self.inside.len c.args.number c.self.invariant.ring used moves links).ring;
      first_key = any_key c.set_prev_counted.new.nodes.slots c.set_prev_counted.new.nodes.vacant_key made;
      sentinel = λ some. made;
      room = omega (arith, links.len, links.capacity, c.self.invariant.room);
      fits = omega (arith, links.len, c.self.invariant.fits);
    }

pub returns-clause-is : goal.returns-clause-is
returns-clause-is g c =
    let used = used_node c.self.inside.nodes.slots c.args.number (rw (← c.self.view_is) at c.requires) in
    let moves : next_in c.self.inside.nodes.slots c.args.number ≢ c.args.number = λ same. c.if-next-number.false (c.detach-prev.ensures.next ∙ same) in
    let prev_moves = before_moves c.self.inside.nodes.slots _ c.self.invariant.ring c.args.number used moves in
    let links = taken_out c.self.inside.nodes c.detach-prev.new.nodes c.set_next_counted.new.nodes c.set_prev_counted.new.nodes c.args.number _ _ c.detach-prev.ensures.prev c.detach-prev.ensures.next (rw c.detach-prev.ensures.prev prev_moves) (rw c.detach-prev.ensures.next moves) c.detach-prev.ensures.links c.set_next_counted.ensures.links c.set_prev_counted.ensures.links in
    let order = (after_unlink c.self.inside.nodes c.set_prev_counted.new.nodes c.self.inside.len c.args.number c.self.invariant.ring used moves links).order in
    let slots = same_view c.self.inside.nodes.slots c.set_prev_counted.new.nodes.slots links.values in
    rw (← c.self.view_is) (λ i. record { order = order i; slots = slots i; spare = c.self.inside.spare })

pub returns-clause-alone : goal.returns-clause-alone
returns-clause-alone g c = λ unlinked. absurd (
    let used = used_node c.self.inside.nodes.slots c.args.number (rw (← c.self.view_is) at c.requires) in
    let moves : next_in c.self.inside.nodes.slots c.args.number ≢ c.args.number = λ same. c.if-next-number.false (c.detach-prev.ensures.next ∙ same) in
    let test = linked_test c.self.inside.nodes.slots _ c.self.invariant.ring c.args.number used in
    let is = rw (← c.self.view_is) at unlinked in
    let yes : not (eqb (next_in c.self.inside.nodes.slots c.args.number) c.args.number) ≡ true = ap not (ne_eqb _ _ moves) in
    cc)
