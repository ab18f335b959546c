use Rattle.std.proofs.Common.{sym, ap, ◌∙◌}
use Rattle.std.specs.FinMap.{insert}
use Rattle.mea_by_name.specs.ByName.{kept}
use Rattle.mea_by_name.specs.Beside.{beside}
use Rattle.mea_by_name.proofs.Beside.{not_beside, other_put, stays_apart, put_beside, put_apart}
use Rattle.mea_by_name.proofs.roomy.Roomy.put.Goals as goal

pub invariant_of-self : goal.invariant_of-self
invariant_of-self g c = put_apart c.self.inside.name c.self.inside.one c.self.inside.map.entries c.args.name c.args.x (sym c.may_stand.ensures ∙ c.if-may_stand.true) c.self.invariant

pub returns-then-may_stand-clause-things : goal.returns-then-may_stand-clause-things
returns-then-may_stand-clause-things g c =
    put_beside c.self.inside.name c.self.inside.one c.self.inside.map.entries c.args.name c.args.x (sym c.may_stand.ensures ∙ c.if-may_stand.true)
    ∙ ap (λ (m : _). insert m.things c.args.name c.args.x) c.self.view_is

pub invariant_of-self-2 : goal.invariant_of-self-2
invariant_of-self-2 g c =
    let other = not_beside c.self.inside.name c.self.inside.one c.self.inside.map.entries c.args.name (sym c.may_stand.ensures ∙ c.if-may_stand.false) in
    stays_apart c.self.inside.name c.self.inside.one c.self.inside.map.entries c.put_in.new.map.entries c.args.name _ other c.in-Ok.ensures.changes c.self.invariant

pub returns-clause-things : goal.returns-clause-things
returns-clause-things g c =
    let other = not_beside c.self.inside.name c.self.inside.one c.self.inside.map.entries c.args.name (sym c.may_stand.ensures ∙ c.if-may_stand.false) in
    other_put c.self.inside.name c.self.inside.one c.self.inside.map.entries c.put_in.new.map.entries c.args.name c.args.x other c.in-Ok.ensures.changes
    ∙ ap (λ (m : _). insert m.things c.args.name c.args.x) c.self.view_is
