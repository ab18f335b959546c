use Rattle.std.proofs.Common.{sym, ◌∙◌}
use Rattle.mea_lock.proofs.PartEvents.{site, lock_there, is_idle, taken}
use Rattle.mea_family.proofs.Refusals.{borrowed_none}
use Rattle.mea_lock.proofs.part.LockPart.take.Goals as goal

pub remove-requires : goal.remove-requires
remove-requires g c = lock_there (site c.self.inside.locks c.self.inside.futures c.self.inside.guards.things c.self.inside.next c.self.view_is c.self.invariant c.requires c.ranges.number.fits) c.args.o (borrowed_none _ _ (sym c.cause_of_use.ensures.is ∙ c.in_default.is)).0

pub into_value-v-requires : goal.into_value-v-requires
into_value-v-requires g c = is_idle (site c.self.inside.locks c.self.inside.futures c.self.inside.guards.things c.self.inside.next c.self.view_is c.self.invariant c.requires c.ranges.number.fits) c.args.o c.remove.result c.remove.ensures.value (borrowed_none _ _ (sym c.cause_of_use.ensures.is ∙ c.in_default.is)).1

pub invariant_of-self : goal.invariant_of-self
invariant_of-self g c = rw c.remove.ensures.rest (taken (site c.self.inside.locks c.self.inside.futures c.self.inside.guards.things c.self.inside.next c.self.view_is c.self.invariant c.requires c.ranges.number.fits) c.args.o c.remove.result c.remove.ensures.value (borrowed_none _ _ (sym c.cause_of_use.ensures.is ∙ c.in_default.is)).1).0

pub returns : goal.returns
returns g c = ((sym c.cause_of_use.ensures.is ∙ c.in_default.is), rw (c.remove.ensures.rest, c.into_value-v.ensures) (taken (site c.self.inside.locks c.self.inside.futures c.self.inside.guards.things c.self.inside.next c.self.view_is c.self.invariant c.requires c.ranges.number.fits) c.args.o c.remove.result c.remove.ensures.value (borrowed_none _ _ (sym c.cause_of_use.ensures.is ∙ c.in_default.is)).1).1)
