use Rattle.std.proofs.Common.{Some, refl, ap, sym, subst, ◌∙◌}
use Rattle.std.specs.Option.{option_copied_mut}
use Rattle.mea_by_name.proofs.Own.{insert_same}
use Rattle.mea_pool_run.specs.declared.thing.Thing.{Thing}
use Rattle.mea_pool_run.specs.declared.thing.Thing.TheVariants.{Held}
use Rattle.mea_pool_run.proofs.Events.{goes_as, below_as}
use Rattle.mea_pool_run.proofs.Still.{IsNoLease, use_unknown, sets}
use Rattle.mea_pool_run.proofs.Things.{below_stays}
use Rattle.mea_pool_run.proofs.named_pool.NamedPool.set.Goals as goal

pub returns-in-Held-clause-goes : goal.returns-in-Held-clause-goes
returns-in-Held-clause-goes c = sets c.args.self.now.pool c.args.self.now.things c.requires.stands c.args.name c.args.value c.in-Held.lease (sym c.get_mut.ensures.value ∙ ap option_copied_mut c.in-Some.is ∙ ap (λ (t : Thing). Some t) c.in-Held.is)

pub returns-in-Held-clause-below : goal.returns-in-Held-clause-below
returns-in-Held-clause-below c = λ n below. below_stays c.args.self.now.things c.args.name (Held c.in-Held.lease) (Held (c.in-Held.lease.0, c.args.value)) n (sym c.get_mut.ensures.value ∙ ap option_copied_mut c.in-Some.is ∙ ap (λ (t : Thing). Some t) c.in-Held.is) below

pub returns-in-Ask-clause-goes : goal.returns-in-Ask-clause-goes
returns-in-Ask-clause-goes c =
    goes_as _ _ _ _ _ _ _ refl (insert_same c.args.self.now.things c.args.name c.in-Some.thing.now (sym c.get_mut.ensures.value ∙ ap option_copied_mut c.in-Some.is)) refl
    (use_unknown c.args.self.now.pool c.args.self.now.things c.requires.stands c.args.name c.args.value (subst IsNoLease (sym (sym c.get_mut.ensures.value ∙ ap option_copied_mut c.in-Some.is ∙ ap (λ (t : Thing). Some t) c.in-Ask.is)) tt))

pub returns-in-Ask-clause-below : goal.returns-in-Ask-clause-below
returns-in-Ask-clause-below c = λ n below. below_as _ _ n (insert_same c.args.self.now.things c.args.name c.in-Some.thing.now (sym c.get_mut.ensures.value ∙ ap option_copied_mut c.in-Some.is)) below

pub returns-in-Wait-clause-goes : goal.returns-in-Wait-clause-goes
returns-in-Wait-clause-goes c =
    goes_as _ _ _ _ _ _ _ refl (insert_same c.args.self.now.things c.args.name c.in-Some.thing.now (sym c.get_mut.ensures.value ∙ ap option_copied_mut c.in-Some.is)) refl
    (use_unknown c.args.self.now.pool c.args.self.now.things c.requires.stands c.args.name c.args.value (subst IsNoLease (sym (sym c.get_mut.ensures.value ∙ ap option_copied_mut c.in-Some.is ∙ ap (λ (t : Thing). Some t) c.in-Wait.is)) tt))

pub returns-in-Wait-clause-below : goal.returns-in-Wait-clause-below
returns-in-Wait-clause-below c = λ n below. below_as _ _ n (insert_same c.args.self.now.things c.args.name c.in-Some.thing.now (sym c.get_mut.ensures.value ∙ ap option_copied_mut c.in-Some.is)) below

pub returns-in_default-clause-goes : goal.returns-in_default-clause-goes
returns-in_default-clause-goes c = use_unknown c.args.self.now.pool c.args.self.now.things c.requires.stands c.args.name c.args.value (subst IsNoLease (sym (sym c.get_mut.ensures.value ∙ ap option_copied_mut c.in_default.is)) tt)
