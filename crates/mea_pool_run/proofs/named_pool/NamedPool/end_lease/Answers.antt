use Rattle.std.proofs.Common.{Some, is_some, refl, ap, sym, ◌∙◌}
use Rattle.mea_base.proofs.Maps.{inside}
use Rattle.mea_pool_run.specs.declared.thing.Thing.{Thing}
use Rattle.mea_pool_run.proofs.Polls.{may_poll}
use Rattle.mea_pool_run.proofs.Events.{goes_as, below_as}
use Rattle.mea_pool_run.proofs.Passing.{ends}
use Rattle.mea_pool_run.proofs.Things.{below_gone}
use Rattle.mea_pool_run.proofs.named_pool.NamedPool.end_lease.Goals as goal

pub remove-requires : goal.remove-requires
remove-requires c = ap is_some c.requires.asks.1

pub unreachable-requires : goal.unreachable-requires
unreachable-requires c = c.in_default.not-Ask c.requires.asks.0 (inside (sym c.remove.ensures.value ∙ c.requires.asks.1))

pub cancel_lease-requires : goal.cancel_lease-requires
cancel_lease-requires c = (may_poll c.args.self.now.pool c.args.self.now.things c.args.name c.in-Ask.wait c.requires.stands.keeps (c.remove.ensures.value ∙ ap (λ (t : Thing). Some t) c.in-Ask.is)).0

pub returns-clause-goes : goal.returns-clause-goes
returns-clause-goes c =
    goes_as _ _ _ _ _ _ _ refl c.remove.ensures.rest refl (ends c.args.self.now.pool c.args.self.now.things c.requires.stands c.args.name c.in-Ask.wait c.cancel_lease.new.self (c.remove.ensures.value ∙ ap (λ (t : Thing). Some t) c.in-Ask.is) c.cancel_lease.ensures)

pub returns-clause-below : goal.returns-clause-below
returns-clause-below c = λ n below. below_as _ _ n c.remove.ensures.rest (below_gone c.args.self.now.things c.args.name n below)
