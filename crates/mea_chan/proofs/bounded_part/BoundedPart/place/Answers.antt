use Rattle.std.proofs.Common.{inr, refl, arith}
use Rattle.mea_base.proofs.Maps.{get-there, is_there}
use Rattle.mea_chan.proofs.BoundedEvents.{site}
use Rattle.mea_family.proofs.Refusals.{some_room}
use Rattle.mea_chan.proofs.BoundedEnds.{unmade, all_unmade, made_room}
use Rattle.mea_chan.proofs.bounded_part.BoundedPart.place.Goals as goal

pub returns-in_default : goal.returns-in_default
returns-in_default c = (inr ((some_room c.args.capacity (λ zero. let some = c.requires.some in absurd (omega (arith, some, zero)))), refl, λ no. no), rw c.in_default.ensures.err c.self.view_is, refl)

pub remove-requires : goal.remove-requires
remove-requires c = rw c.in-Ok.ensures.ok (is_there _ _ (get-there c.self.inside.senders c.args.number _))

pub invariant_of-self-in_default-insert : goal.invariant_of-self-in_default-insert
invariant_of-self-in_default-insert c = (rw c.remove.ensures.rest (unmade (site c.self.inside.channels c.self.inside.senders c.self.inside.receivers c.self.inside.sends c.self.inside.next c.self.view_is c.self.invariant c.requires.next c.ranges.number.fits) c.args.capacity _ c.in_default-insert.ensures.err _ c.in-Ok.ensures.ok).0)

pub returns-in_default-insert : goal.returns-in_default-insert
returns-in_default-insert c = (inr ((some_room c.args.capacity (λ zero. let some = c.requires.some in absurd (omega (arith, some, zero)))), refl, λ no. no), (rw c.remove.ensures.rest (unmade (site c.self.inside.channels c.self.inside.senders c.self.inside.receivers c.self.inside.sends c.self.inside.next c.self.view_is c.self.invariant c.requires.next c.ranges.number.fits) c.args.capacity _ c.in_default-insert.ensures.err _ c.in-Ok.ensures.ok).1), refl)

pub remove-requires-in_default-insert-2 : goal.remove-requires-in_default-insert-2
remove-requires-in_default-insert-2 c = rw c.in-Ok.ensures.ok (is_there _ _ (get-there c.self.inside.senders c.args.number _))

pub remove-requires-in_default-insert-2-2 : goal.remove-requires-in_default-insert-2-2
remove-requires-in_default-insert-2-2 c = rw c.in-Ok-insert.ensures.ok (is_there _ _ (get-there c.self.inside.receivers c.args.number _))

pub invariant_of-self-in_default-insert-2 : goal.invariant_of-self-in_default-insert-2
invariant_of-self-in_default-insert-2 c = (rw (c.remove-in_default-insert-2.ensures.rest, c.remove-in_default-insert-2-2.ensures.rest) (all_unmade (site c.self.inside.channels c.self.inside.senders c.self.inside.receivers c.self.inside.sends c.self.inside.next c.self.view_is c.self.invariant c.requires.next c.ranges.number.fits) c.args.capacity _ c.in_default-insert-2.ensures.err _ c.in-Ok-insert.ensures.ok _ c.in-Ok.ensures.ok).0)

pub returns-in_default-insert-2 : goal.returns-in_default-insert-2
returns-in_default-insert-2 c = (inr ((some_room c.args.capacity (λ zero. let some = c.requires.some in absurd (omega (arith, some, zero)))), refl, λ no. no), (rw (c.remove-in_default-insert-2.ensures.rest, c.remove-in_default-insert-2-2.ensures.rest) (all_unmade (site c.self.inside.channels c.self.inside.senders c.self.inside.receivers c.self.inside.sends c.self.inside.next c.self.view_is c.self.invariant c.requires.next c.ranges.number.fits) c.args.capacity _ c.in_default-insert-2.ensures.err _ c.in-Ok-insert.ensures.ok _ c.in-Ok.ensures.ok).1), refl)

pub invariant_of-self-2 : goal.invariant_of-self-2
invariant_of-self-2 c = (rw (c.in-Ok-insert-2.ensures.ok, c.in-Ok-insert.ensures.ok, c.in-Ok.ensures.ok, c.requires.new) (made_room (site c.self.inside.channels c.self.inside.senders c.self.inside.receivers c.self.inside.sends c.self.inside.next c.self.view_is c.self.invariant c.requires.next c.ranges.number.fits) c.args.capacity c.args.ready.now).0)

pub returns : goal.returns
returns c = ((some_room c.args.capacity (λ zero. let some = c.requires.some in absurd (omega (arith, some, zero)))), (rw (c.in-Ok-insert-2.ensures.ok, c.in-Ok-insert.ensures.ok, c.in-Ok.ensures.ok, c.requires.new) (made_room (site c.self.inside.channels c.self.inside.senders c.self.inside.receivers c.self.inside.sends c.self.inside.next c.self.view_is c.self.invariant c.requires.next c.ranges.number.fits) c.args.capacity c.args.ready.now).1))
