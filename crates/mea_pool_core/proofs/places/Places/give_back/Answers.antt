use Rattle.std.proofs.Common.{◌≤◌, ◌-◌, ap, subst, sym, ◌∙◌}
use Rattle.mea_pool_core.specs.Places.{Places, with_place}
use Rattle.mea_pool_core.proofs.PlaceCalls.{gives}
use Rattle.mea_pool_core.proofs.places.Places.give_back.Goals as goal

pub invariant_of-self : goal.invariant_of-self
invariant_of-self g c =
    (gives c.self.inside.permits c.give_back.new.self c.self.invariant (subst (λ (s : Places g.row.W.Denot). 1 ≤ s.held) (sym c.self.view_is) c.requires) c.give_back.ensures.given c.give_back.ensures.sound c.give_back.ensures.held).0

pub returns : goal.returns
returns g c =
    (gives c.self.inside.permits c.give_back.new.self c.self.invariant (subst (λ (s : Places g.row.W.Denot). 1 ≤ s.held) (sym c.self.view_is) c.requires) c.give_back.ensures.given c.give_back.ensures.sound c.give_back.ensures.held).1
    ∙ ap (λ (s : Places g.row.W.Denot). with_place (record s { held = s.held - 1 })) c.self.view_is
