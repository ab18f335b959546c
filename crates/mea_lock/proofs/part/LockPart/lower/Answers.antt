use Rattle.std.proofs.Common.{sym, ap, ◌∙◌}
use Rattle.mea_base.proofs.Maps.{inside, is_there}
use Rattle.mea_family.specs.Causes.{unknown_unless}
use Rattle.mea_lock.proofs.PartEvents.{site, guard_is, guarded_lock, is_held, its_kept, its_room, lowered}
use Rattle.mea_lock.proofs.part.LockPart.lower.Goals as goal

pub at_mut-requires : goal.at_mut-requires
at_mut-requires g c = is_there _ c.in-Some.guard (guard_is (site c.self.inside.locks c.self.inside.futures c.self.inside.guards.things c.self.inside.next c.self.view_is c.self.invariant c.requires.next c.ranges.number.fits) c.args.g c.in-Some.guard c.in-Some.ensures.some.0)

pub at_mut-requires-2 : goal.at_mut-requires-2
at_mut-requires-2 g c = guarded_lock (site c.self.inside.locks c.self.inside.futures c.self.inside.guards.things c.self.inside.next c.self.view_is c.self.invariant c.requires.next c.ranges.number.fits) c.args.g c.in-Some.guard (guard_is (site c.self.inside.locks c.self.inside.futures c.self.inside.guards.things c.self.inside.next c.self.view_is c.self.invariant c.requires.next c.ranges.number.fits) c.args.g c.in-Some.guard c.in-Some.ensures.some.0)

pub lower-requires-clause-held : goal.lower-requires-clause-held
lower-requires-clause-held g c = rw c.in-Some.ensures.some.1 at (is_held (site c.self.inside.locks c.self.inside.futures c.self.inside.guards.things c.self.inside.next c.self.view_is c.self.invariant c.requires.next c.ranges.number.fits) c.args.g c.in-Some.guard c.at_mut-2.result.now (guard_is (site c.self.inside.locks c.self.inside.futures c.self.inside.guards.things c.self.inside.next c.self.view_is c.self.invariant c.requires.next c.ranges.number.fits) c.args.g c.in-Some.guard c.in-Some.ensures.some.0) c.at_mut-2.ensures.value)

pub lower-requires-clause-quiet : goal.lower-requires-clause-quiet
lower-requires-clause-quiet g c = (its_kept (site c.self.inside.locks c.self.inside.futures c.self.inside.guards.things c.self.inside.next c.self.view_is c.self.invariant c.requires.next c.ranges.number.fits) c.in-Some.guard.lock c.at_mut-2.result.now c.at_mut-2.ensures.value).quiet

pub lower-requires-clause-room : goal.lower-requires-clause-room
lower-requires-clause-room g c = its_room (site c.self.inside.locks c.self.inside.futures c.self.inside.guards.things c.self.inside.next c.self.view_is c.self.invariant c.requires.next c.ranges.number.fits) c.in-Some.guard.lock c.at_mut-2.result.now c.at_mut-2.ensures.value c.args.ready.now c.requires.room

pub invariant_of-self : goal.invariant_of-self
invariant_of-self g c = rw (inside (sym c.at_mut.ensures.value ∙ (guard_is (site c.self.inside.locks c.self.inside.futures c.self.inside.guards.things c.self.inside.next c.self.view_is c.self.invariant c.requires.next c.ranges.number.fits) c.args.g c.in-Some.guard c.in-Some.ensures.some.0))) (lowered (site c.self.inside.locks c.self.inside.futures c.self.inside.guards.things c.self.inside.next c.self.view_is c.self.invariant c.requires.next c.ranges.number.fits) c.args.g c.in-Some.guard c.at_mut-2.result.now (guard_is (site c.self.inside.locks c.self.inside.futures c.self.inside.guards.things c.self.inside.next c.self.view_is c.self.invariant c.requires.next c.ranges.number.fits) c.args.g c.in-Some.guard c.in-Some.ensures.some.0) c.at_mut-2.ensures.value c.in-Some.ensures.some.1 c.lower.ensures.0 c.lower.new.self c.args.ready.now c.lower.new.ready c.lower.ensures.1 c.lower.ensures.2).0

pub returns : goal.returns
returns g c = (ap unknown_unless (sym c.in-Some.ensures.there), rw (inside (sym c.at_mut.ensures.value ∙ (guard_is (site c.self.inside.locks c.self.inside.futures c.self.inside.guards.things c.self.inside.next c.self.view_is c.self.invariant c.requires.next c.ranges.number.fits) c.args.g c.in-Some.guard c.in-Some.ensures.some.0))) (lowered (site c.self.inside.locks c.self.inside.futures c.self.inside.guards.things c.self.inside.next c.self.view_is c.self.invariant c.requires.next c.ranges.number.fits) c.args.g c.in-Some.guard c.at_mut-2.result.now (guard_is (site c.self.inside.locks c.self.inside.futures c.self.inside.guards.things c.self.inside.next c.self.view_is c.self.invariant c.requires.next c.ranges.number.fits) c.args.g c.in-Some.guard c.in-Some.ensures.some.0) c.at_mut-2.ensures.value c.in-Some.ensures.some.1 c.lower.ensures.0 c.lower.new.self c.args.ready.now c.lower.new.ready c.lower.ensures.1 c.lower.ensures.2).1)
