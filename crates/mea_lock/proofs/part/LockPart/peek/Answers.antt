use Rattle.std.proofs.Common.{sym, ◌∙◌}
use Rattle.mea_lock.proofs.PartEvents.{site, lock_there, is_idle, peeked}
use Rattle.mea_family.proofs.Refusals.{borrowed_none}
use Rattle.mea_lock.proofs.part.LockPart.peek.Goals as goal

pub at_mut-requires : goal.at_mut-requires
at_mut-requires g c = lock_there (site c.self.inside.locks c.self.inside.futures c.self.inside.guards.things c.self.inside.next c.self.view_is c.self.invariant c.requires c.ranges.number.fits) c.args.o (borrowed_none _ _ (sym c.cause_of_use.ensures.is ∙ c.in_default.is)).0

pub idle_value-v-requires : goal.idle_value-v-requires
idle_value-v-requires g c = is_idle (site c.self.inside.locks c.self.inside.futures c.self.inside.guards.things c.self.inside.next c.self.view_is c.self.invariant c.requires c.ranges.number.fits) c.args.o c.at_mut.result.now c.at_mut.ensures.value (borrowed_none _ _ (sym c.cause_of_use.ensures.is ∙ c.in_default.is)).1

pub invariant_of-self : goal.invariant_of-self
invariant_of-self g c = rw c.idle_value-v.ensures.same (peeked (site c.self.inside.locks c.self.inside.futures c.self.inside.guards.things c.self.inside.next c.self.view_is c.self.invariant c.requires c.ranges.number.fits) c.args.o c.at_mut.result.now c.at_mut.ensures.value).0

pub returns : goal.returns
returns g c = ((sym c.cause_of_use.ensures.is ∙ c.in_default.is), rw (c.idle_value-v.ensures.same, c.idle_value-v.ensures.value) (peeked (site c.self.inside.locks c.self.inside.futures c.self.inside.guards.things c.self.inside.next c.self.view_is c.self.invariant c.requires c.ranges.number.fits) c.args.o c.at_mut.result.now c.at_mut.ensures.value).1)
