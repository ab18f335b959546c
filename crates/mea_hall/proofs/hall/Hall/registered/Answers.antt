use Rattle.std.proofs.Common.{ap, subst, ◌∙◌}
use Rattle.mea_hall.specs.World.{Play, IsValid, registered}
use Rattle.mea_hall.proofs.hall.Hall.registered.Goals as goal

pub returns-clause-valid : goal.returns-clause-valid
returns-clause-valid c = subst (λ (p : Play). IsValid p.world p.events) c.self.view_is (c.are_valid.ensures c.self.inside.events c.self.invariant.below)

pub returns-clause-count : goal.returns-clause-count
returns-clause-count c = c.registered.ensures ∙ c.self.invariant.counted ∙ ap (λ (p : Play). registered p.world) c.self.view_is
