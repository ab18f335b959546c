use Rattle.std.proofs.Common.{sym, ap, ◌∙◌}
use Rattle.std.specs.FinMap.{get, remove}
use Rattle.mea_by_name.specs.ByName.{kept}
use Rattle.mea_by_name.specs.Beside.{beside}
use Rattle.mea_by_name.proofs.Beside.{one_at, other_at, one_gone, other_gone, stays_apart}
use Rattle.mea_by_name.proofs.roomy.Roomy.take.Goals as goal

pub returns-then-stands-clause-value : goal.returns-then-stands-clause-value
returns-then-stands-clause-value g c = c.take.ensures.value ∙ sym (one_at c.self.inside.name c.self.inside.one c.self.inside.map.entries c.args.name (sym c.stands.ensures ∙ c.if-stands.true)) ∙ ap (λ (m : _). get m.things c.args.name) c.self.view_is

pub returns-then-stands-clause-things : goal.returns-then-stands-clause-things
returns-then-stands-clause-things g c =
    ap (λ o. kept (beside c.self.inside.name o c.self.inside.map.entries)) c.take.ensures.after
    ∙ one_gone c.self.inside.name c.self.inside.one c.self.inside.map.entries c.args.name (sym c.stands.ensures ∙ c.if-stands.true) c.self.invariant
    ∙ ap (λ (m : _). remove m.things c.args.name) c.self.view_is

pub invariant_of-self-else-stands : goal.invariant_of-self-else-stands
invariant_of-self-else-stands g c = stays_apart c.self.inside.name c.self.inside.one c.self.inside.map.entries c.take_from.new.map.entries c.args.name _ (sym c.stands.ensures ∙ c.if-stands.false) c.take_from.ensures.changes c.self.invariant

pub returns-else-stands-clause-value : goal.returns-else-stands-clause-value
returns-else-stands-clause-value g c = c.take_from.ensures.value ∙ sym (other_at c.self.inside.name c.self.inside.one c.self.inside.map.entries c.args.name (sym c.stands.ensures ∙ c.if-stands.false)) ∙ ap (λ (m : _). get m.things c.args.name) c.self.view_is

pub returns-else-stands-clause-things : goal.returns-else-stands-clause-things
returns-else-stands-clause-things g c =
    other_gone c.self.inside.name c.self.inside.one c.self.inside.map.entries c.take_from.new.map.entries c.args.name (sym c.stands.ensures ∙ c.if-stands.false) c.take_from.ensures.changes
    ∙ ap (λ (m : _). remove m.things c.args.name) c.self.view_is
