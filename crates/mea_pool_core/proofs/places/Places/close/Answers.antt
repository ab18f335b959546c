use Rattle.std.proofs.Common.{ap, ◌∙◌}
use Rattle.mea_pool_core.specs.Places.{Places, closed_places}
use Rattle.mea_pool_core.proofs.PlaceCalls.{closed_as}
use Rattle.mea_pool_core.proofs.places.Places.close.Goals as goal

pub invariant_of-self : goal.invariant_of-self
invariant_of-self g c =
    (closed_as c.self.inside.permits c.close.new.self c.self.invariant (ap (λ (s : Places g.row.W.Denot). s.closed) c.self.view_is ∙ c.requires) c.close.ensures.sound c.close.ensures.held c.close.ensures.closes).0

pub returns : goal.returns
returns g c =
    (closed_as c.self.inside.permits c.close.new.self c.self.invariant (ap (λ (s : Places g.row.W.Denot). s.closed) c.self.view_is ∙ c.requires) c.close.ensures.sound c.close.ensures.held c.close.ensures.closes).1
    ∙ ap (λ (s : Places g.row.W.Denot). closed_places s) c.self.view_is
