use Rattle.std.proofs.Common.{subst, sym}
use Rattle.mea_sem_core.specs.Calls.{Belongs, Cancels}
use Rattle.mea_sem_core.specs.declared.acquire.Acquire.{Acquire}
use Rattle.mea_pool_core.specs.Places.{Places, Fits}
use Rattle.mea_pool_core.proofs.PlaceCalls.{fitting, cancelled, cancel_keeps}
use Rattle.mea_pool_core.proofs.places.Places.cancel.Goals as goal

pub cancel-requires : goal.cancel-requires
cancel-requires g c =
    subst (λ (a : Acquire). Belongs c.self.inside.permits a) (sym c.acquire.ensures)
    ((fitting c.self.inside.permits c.args.wait c.self.invariant).1 (subst (λ (s : Places g.row.W.Denot). Fits s c.args.wait) (sym c.self.view_is) c.requires))

pub invariant_of-self : goal.invariant_of-self
invariant_of-self g c =
    cancel_keeps c.self.inside.permits c.cancel.new.self c.args.wait c.self.invariant (c.cancel.ensures.sound c.self.invariant.sound) c.cancel.ensures.held
    (subst (λ (a : Acquire). Cancels c.self.inside.permits a c.cancel.new.self) c.acquire.ensures c.cancel.ensures.cancels)
    (subst (λ (s : Places g.row.W.Denot). Fits s c.args.wait) (sym c.self.view_is) c.requires)

pub returns : goal.returns
returns g c =
    rw (← c.self.view_is) (cancelled c.self.inside.permits c.cancel.new.self c.args.wait c.self.invariant (c.cancel.ensures.sound c.self.invariant.sound) c.cancel.ensures.held
    (subst (λ (a : Acquire). Cancels c.self.inside.permits a c.cancel.new.self) c.acquire.ensures c.cancel.ensures.cancels))
