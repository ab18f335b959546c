use Rattle.std.proofs.Common.{sym, ap, ◌∙◌}
use Rattle.std.specs.FinMap.{get}
use Rattle.mea_by_name.proofs.Beside.{one_at, other_at}
use Rattle.mea_by_name.proofs.roomy.Roomy.get.Goals as goal

pub returns-then-stands : goal.returns-then-stands
returns-then-stands g c = c.as_ref.ensures.value ∙ sym (one_at c.self.inside.name c.self.inside.one c.self.inside.map.entries c.args.name (sym c.stands.ensures ∙ c.if-stands.true)) ∙ ap (λ (m : _). get m.things c.args.name) c.self.view_is

pub returns-else-stands : goal.returns-else-stands
returns-else-stands g c = c.get_in.ensures ∙ sym (other_at c.self.inside.name c.self.inside.one c.self.inside.map.entries c.args.name (sym c.stands.ensures ∙ c.if-stands.false)) ∙ ap (λ (m : _). get m.things c.args.name) c.self.view_is
