use Rattle.std.proofs.Common.{ap, ◌∙◌}
use Rattle.mea_by_name.proofs.Kept.{kept_alike}
use Rattle.mea_by_name.proofs.roomy.Roomy.reserve.Goals as goal

pub invariant_of-self : goal.invariant_of-self
invariant_of-self g c = λ some. c.reserve.ensures.entries.2 c.self.inside.name ∙ c.self.invariant some

pub returns-clause-things : goal.returns-clause-things
returns-clause-things g c = kept_alike c.self.inside.name c.self.inside.one c.self.inside.map.entries c.reserve.new.self.entries c.reserve.ensures.entries.2 ∙ ap (λ (m : _). m.things) c.self.view_is
