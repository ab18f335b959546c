use Rattle.std.proofs.Common.{sym, ap}
use Rattle.mea_family.specs.Causes.{unknown_unless}
use Rattle.mea_lock.proofs.PartEvents.{site, guard_is, guarded_lock, is_held, valued, set}
use Rattle.mea_lock.proofs.part.LockPart.set.Goals as goal

pub at_mut-requires : goal.at_mut-requires
at_mut-requires g c = guarded_lock (site c.self.inside.locks c.self.inside.futures c.self.inside.guards.things c.self.inside.next c.self.view_is c.self.invariant c.requires c.ranges.number.fits) c.args.g c.in-Some.guard (guard_is (site c.self.inside.locks c.self.inside.futures c.self.inside.guards.things c.self.inside.next c.self.view_is c.self.invariant c.requires c.ranges.number.fits) c.args.g c.in-Some.guard c.in-Some.ensures.some.0)

pub set_value-requires : goal.set_value-requires
set_value-requires g c = rw c.in-Some.ensures.some.1 at (is_held (site c.self.inside.locks c.self.inside.futures c.self.inside.guards.things c.self.inside.next c.self.view_is c.self.invariant c.requires c.ranges.number.fits) c.args.g c.in-Some.guard c.at_mut.result.now (guard_is (site c.self.inside.locks c.self.inside.futures c.self.inside.guards.things c.self.inside.next c.self.view_is c.self.invariant c.requires c.ranges.number.fits) c.args.g c.in-Some.guard c.in-Some.ensures.some.0) c.at_mut.ensures.value)

pub invariant_of-self : goal.invariant_of-self
invariant_of-self g c = rw c.set_value.ensures (valued (site c.self.inside.locks c.self.inside.futures c.self.inside.guards.things c.self.inside.next c.self.view_is c.self.invariant c.requires c.ranges.number.fits) c.in-Some.guard.lock c.at_mut.result.now c.at_mut.ensures.value c.args.v)

pub returns : goal.returns
returns g c = (ap unknown_unless (sym c.in-Some.ensures.there), rw c.set_value.ensures (set (site c.self.inside.locks c.self.inside.futures c.self.inside.guards.things c.self.inside.next c.self.view_is c.self.invariant c.requires c.ranges.number.fits) c.args.g c.in-Some.guard c.at_mut.result.now (guard_is (site c.self.inside.locks c.self.inside.futures c.self.inside.guards.things c.self.inside.next c.self.view_is c.self.invariant c.requires c.ranges.number.fits) c.args.g c.in-Some.guard c.in-Some.ensures.some.0) c.at_mut.ensures.value c.args.v))
