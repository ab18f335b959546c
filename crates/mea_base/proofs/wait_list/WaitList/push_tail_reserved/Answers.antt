use Rattle.std.proofs.Common.{sym, ap, ◌∙◌, arith}
use Rattle.mea_base.specs.WaitListLinks.{prev_of, value_of}
use Rattle.mea_base.proofs.WaitLinks.{any_key, view_at, updates_view, sound_view, sentinel_new, linked-le-nodes, length-order, after_tail, last_node}
use Rattle.mea_base.proofs.wait_list.WaitList.push_tail_reserved.Goals as goal

pub insert_between-number-requires-clause-prev : goal.insert_between-number-requires-clause-prev
insert_between-number-requires-clause-prev g c =
    let made = c.self.invariant.sentinel (rw (← c.self.view_is) at c.requires) in
    rw (ap prev_of (sym c.index.ensures)) (last_node c.self.inside.nodes.slots _ c.self.invariant.ring made)

pub overflow_add-self : goal.overflow_add-self
overflow_add-self g c =
    let room = rw (← c.self.view_is) at c.requires in
    omega (arith, room, c.self.invariant.fits, linked-le-nodes c.self.inside.nodes _ c.self.invariant.ring, length-order c.self.inside.nodes.slots c.self.inside.len)

pub invariant_of-self : goal.invariant_of-self
invariant_of-self g c =
    let room = rw (← c.self.view_is) at c.requires in
    let made = c.self.invariant.sentinel room in
    let made_new = sentinel_new c.self.inside.nodes c.insert_between-number.new.nodes _ c.self.invariant.ring made _ _ _ _ c.insert_between-number.ensures in
    record {
      ring = (after_tail c.self.inside.nodes c.insert_between-number.new.nodes c.self.inside.len c.self.invariant.ring made _ _ _
          (ap prev_of (sym c.index.ensures)) c.insert_between-number.ensures).ring;
      first_key = any_key c.insert_between-number.new.nodes.slots c.insert_between-number.new.nodes.vacant_key made_new;
      sentinel = λ some. made_new;
      room = omega (arith, room, c.self.invariant.room, c.insert_between-number.ensures.len, c.insert_between-number.ensures.capacity);
      fits = omega (arith, room, c.self.invariant.fits, c.insert_between-number.ensures.len);
    }

pub returns-clause-fresh : goal.returns-clause-fresh
returns-clause-fresh g c =
    rw (← c.self.view_is) (view_at c.self.inside.nodes.slots c.insert_between-number.result ∙ ap value_of c.insert_between-number.ensures.vacant)

pub returns-clause-updates : goal.returns-clause-updates
returns-clause-updates g c =
    let made = c.self.invariant.sentinel (rw (← c.self.view_is) at c.requires) in
    rw (← c.self.view_is) (updates_view c.self.inside.nodes c.insert_between-number.new.nodes _ c.self.invariant.ring made _ _ _ c.args.value c.insert_between-number.ensures _ _ _ _)

pub returns-clause-order : goal.returns-clause-order
returns-clause-order g c =
    let made = c.self.invariant.sentinel (rw (← c.self.view_is) at c.requires) in
    rw (← c.self.view_is) (after_tail c.self.inside.nodes c.insert_between-number.new.nodes c.self.inside.len c.self.invariant.ring made _ _ _
    (ap prev_of (sym c.index.ensures)) c.insert_between-number.ensures).order

pub returns-clause-sound : goal.returns-clause-sound
returns-clause-sound g c =
    let kept = invariant_of-self g c in
    sound_view c.insert_between-number.new.nodes.slots _ _ kept.ring (omega (arith, kept.fits))
