use Rattle.std.proofs.Common.{sym, ap, ◌∙◌}
use Rattle.std.specs.FinMap.{insert, remove}
use Rattle.mea_by_name.proofs.Beside.{follows_apart, replaced, swapped}
use Rattle.mea_by_name.proofs.roomy.Roomy.replace.Goals as goal

pub invariant_of-self : goal.invariant_of-self
invariant_of-self g c = follows_apart c.self.inside.name c.self.inside.one c.self.inside.map.entries c.args.from c.args.to c.args.x (sym c.may_follow.ensures ∙ c.if-may_follow.true)

pub returns-then-may_follow-clause-things : goal.returns-then-may_follow-clause-things
returns-then-may_follow-clause-things g c =
    replaced c.self.inside.name c.self.inside.one c.self.inside.map.entries c.args.from c.args.to c.args.x (sym c.may_follow.ensures ∙ c.if-may_follow.true) c.self.invariant
    ∙ ap (λ (m : _). insert (remove m.things c.args.from) c.args.to c.args.x) c.self.view_is

pub returns-clause-things : goal.returns-clause-things
returns-clause-things g c =
    c.take.ensures.things ∙ ap (λ m. remove m c.args.from) c.in-Ok.ensures.things
    ∙ swapped c.args.self.now.things c.args.from c.args.to c.args.x c.requires
