use Rattle.std.proofs.Common.{Some, ap, sym, subst, ◌∙◌}
use Rattle.std.specs.Option.{option_copied}
use Rattle.mea_pool_run.specs.declared.thing.Thing.{Thing}
use Rattle.mea_pool_run.proofs.Still.{IsNoLease, back_unknown}
use Rattle.mea_pool_run.proofs.named_pool.NamedPool.put_back.Goals as goal

pub put_lease_back-requires-clause-out : goal.put_lease_back-requires-clause-out
put_lease_back-requires-clause-out c = (c.in-Some-Held.field-0-0, sym c.get.ensures ∙ ap option_copied c.in-Some-Held.is ∙ ap (λ (t : Thing). Some t) c.in-Some-Held.field-0-is)

pub returns-in-Some-Ask-clause-goes : goal.returns-in-Some-Ask-clause-goes
returns-in-Some-Ask-clause-goes c =
    back_unknown c.args.self.now.pool c.args.self.now.things c.requires.stands c.args.name
    (subst IsNoLease (sym (sym c.get.ensures ∙ ap option_copied c.in-Some-Ask.is ∙ ap (λ (t : Thing). Some t) c.in-Some-Ask.field-0-is)) tt)

pub returns-in-Some-Wait-clause-goes : goal.returns-in-Some-Wait-clause-goes
returns-in-Some-Wait-clause-goes c =
    back_unknown c.args.self.now.pool c.args.self.now.things c.requires.stands c.args.name
    (subst IsNoLease (sym (sym c.get.ensures ∙ ap option_copied c.in-Some-Wait.is ∙ ap (λ (t : Thing). Some t) c.in-Some-Wait.field-0-is)) tt)

pub returns-in-None-clause-goes : goal.returns-in-None-clause-goes
returns-in-None-clause-goes c =
    back_unknown c.args.self.now.pool c.args.self.now.things c.requires.stands c.args.name
    (subst IsNoLease (sym (sym c.get.ensures ∙ ap option_copied c.in-None.is)) tt)
