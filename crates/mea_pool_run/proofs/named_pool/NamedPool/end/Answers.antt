use Rattle.std.proofs.Common.{Some, ap, sym, subst, ◌∙◌}
use Rattle.std.specs.Option.{option_copied}
use Rattle.mea_pool_run.specs.declared.thing.Thing.{Thing}
use Rattle.mea_pool_run.proofs.Still.{IsNoWait, end_unknown}
use Rattle.mea_pool_run.proofs.named_pool.NamedPool.end.Goals as goal

pub end_lease-requires-clause-asks : goal.end_lease-requires-clause-asks
end_lease-requires-clause-asks c = (c.in-Some-Ask.field-0-0, sym c.get.ensures ∙ ap option_copied c.in-Some-Ask.is ∙ ap (λ (t : Thing). Some t) c.in-Some-Ask.field-0-is)

pub end_drain-requires-clause-awaits : goal.end_drain-requires-clause-awaits
end_drain-requires-clause-awaits c = (c.in-Some-Wait.field-0-0, sym c.get.ensures ∙ ap option_copied c.in-Some-Wait.is ∙ ap (λ (t : Thing). Some t) c.in-Some-Wait.field-0-is)

pub returns-in-Some-Held-clause-goes : goal.returns-in-Some-Held-clause-goes
returns-in-Some-Held-clause-goes c =
    end_unknown c.args.self.now.pool c.args.self.now.things c.requires.stands c.args.name
    (subst IsNoWait (sym (sym c.get.ensures ∙ ap option_copied c.in-Some-Held.is ∙ ap (λ (t : Thing). Some t) c.in-Some-Held.field-0-is)) tt)

pub returns-in-None-clause-goes : goal.returns-in-None-clause-goes
returns-in-None-clause-goes c =
    end_unknown c.args.self.now.pool c.args.self.now.things c.requires.stands c.args.name
    (subst IsNoWait (sym (sym c.get.ensures ∙ ap option_copied c.in-None.is)) tt)
