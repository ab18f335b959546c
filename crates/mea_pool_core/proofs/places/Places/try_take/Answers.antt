use Rattle.std.proofs.Common.{subst}
use Rattle.mea_pool_core.specs.Places.{Places, places_of, TriesPlace}
use Rattle.mea_pool_core.proofs.PlaceCalls.{tried}
use Rattle.mea_pool_core.proofs.places.Places.try_take.Goals as goal

pub invariant_of-self : goal.invariant_of-self
invariant_of-self g c =
    (tried c.self.inside.permits c.try_acquire.new.self c.try_acquire.result c.self.invariant c.try_acquire.ensures.sound c.try_acquire.ensures.taken c.try_acquire.ensures.refused c.try_acquire.ensures.closed c.try_acquire.ensures.held).0

pub returns : goal.returns
returns g c =
    subst (λ (s : Places g.row.W.Denot). TriesPlace s c.try_acquire.result (places_of c.try_acquire.new.self)) c.self.view_is
    (tried c.self.inside.permits c.try_acquire.new.self c.try_acquire.result c.self.invariant c.try_acquire.ensures.sound c.try_acquire.ensures.taken c.try_acquire.ensures.refused c.try_acquire.ensures.closed c.try_acquire.ensures.held).1
