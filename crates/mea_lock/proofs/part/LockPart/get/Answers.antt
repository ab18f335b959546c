use Rattle.std.proofs.Common.{is_some, sym, ap}
use Rattle.mea_family.specs.Causes.{unknown_unless}
use Rattle.mea_lock.proofs.PartEvents.{site, guard_is, guarded_lock, is_held, rests, got}
use Rattle.mea_lock.proofs.part.LockPart.get.Goals as goal

pub at-requires : goal.at-requires
at-requires g c = guarded_lock (site c.self.inside.locks c.self.inside.futures c.self.inside.guards.things c.self.inside.next c.self.view_is c.self.invariant c.requires c.ranges.number.fits) c.args.g c.in-Some.guard (guard_is (site c.self.inside.locks c.self.inside.futures c.self.inside.guards.things c.self.inside.next c.self.view_is c.self.invariant c.requires c.ranges.number.fits) c.args.g c.in-Some.guard (sym c.in-Some.ensures))

pub value_by-v-requires : goal.value_by-v-requires
value_by-v-requires g c = is_held (site c.self.inside.locks c.self.inside.futures c.self.inside.guards.things c.self.inside.next c.self.view_is c.self.invariant c.requires c.ranges.number.fits) c.args.g c.in-Some.guard c.at.result.now (guard_is (site c.self.inside.locks c.self.inside.futures c.self.inside.guards.things c.self.inside.next c.self.view_is c.self.invariant c.requires c.ranges.number.fits) c.args.g c.in-Some.guard (sym c.in-Some.ensures)) c.at.ensures

pub invariant_of-self : goal.invariant_of-self
invariant_of-self g c = rests (site c.self.inside.locks c.self.inside.futures c.self.inside.guards.things c.self.inside.next c.self.view_is c.self.invariant c.requires c.ranges.number.fits)

pub returns : goal.returns
returns g c = (ap (λ o. unknown_unless (is_some o)) (sym c.in-Some.ensures), rw c.value_by-v.ensures (got (site c.self.inside.locks c.self.inside.futures c.self.inside.guards.things c.self.inside.next c.self.view_is c.self.invariant c.requires c.ranges.number.fits) c.args.g c.in-Some.guard c.at.result.now (guard_is (site c.self.inside.locks c.self.inside.futures c.self.inside.guards.things c.self.inside.next c.self.view_is c.self.invariant c.requires c.ranges.number.fits) c.args.g c.in-Some.guard (sym c.in-Some.ensures)) c.at.ensures))
