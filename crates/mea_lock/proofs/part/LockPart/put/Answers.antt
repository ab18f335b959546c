use Rattle.std.proofs.Common.{sym, ◌∙◌}
use Rattle.mea_lock.proofs.PartEvents.{site, lock_there, is_idle, valued, put}
use Rattle.mea_family.proofs.Refusals.{borrowed_none}
use Rattle.mea_lock.proofs.part.LockPart.put.Goals as goal

pub at_mut-requires : goal.at_mut-requires
at_mut-requires g c = lock_there (site c.self.inside.locks c.self.inside.futures c.self.inside.guards.things c.self.inside.next c.self.view_is c.self.invariant c.requires c.ranges.number.fits) c.args.o (borrowed_none _ _ (sym c.cause_of_use.ensures.is ∙ c.in_default.is)).0

pub set_idle_value-requires : goal.set_idle_value-requires
set_idle_value-requires g c = is_idle (site c.self.inside.locks c.self.inside.futures c.self.inside.guards.things c.self.inside.next c.self.view_is c.self.invariant c.requires c.ranges.number.fits) c.args.o c.at_mut.result.now c.at_mut.ensures.value (borrowed_none _ _ (sym c.cause_of_use.ensures.is ∙ c.in_default.is)).1

pub invariant_of-self : goal.invariant_of-self
invariant_of-self g c = rw c.set_idle_value.ensures (valued (site c.self.inside.locks c.self.inside.futures c.self.inside.guards.things c.self.inside.next c.self.view_is c.self.invariant c.requires c.ranges.number.fits) c.args.o c.at_mut.result.now c.at_mut.ensures.value c.args.v)

pub returns : goal.returns
returns g c = ((sym c.cause_of_use.ensures.is ∙ c.in_default.is), rw c.set_idle_value.ensures (put (site c.self.inside.locks c.self.inside.futures c.self.inside.guards.things c.self.inside.next c.self.view_is c.self.invariant c.requires c.ranges.number.fits) c.args.o c.at_mut.result.now c.at_mut.ensures.value c.args.v))
