use Rattle.std.proofs.Common.{Some, is_some, refl, ap, sym, ◌∙◌}
use Rattle.mea_base.proofs.Maps.{inside}
use Rattle.mea_pool_run.specs.declared.thing.Thing.{Thing}
use Rattle.mea_pool_run.specs.Kept.{held}
use Rattle.mea_pool_run.proofs.Events.{goes_as, below_as}
use Rattle.mea_pool_run.proofs.Passing.{comes_back_to}
use Rattle.mea_pool_run.proofs.Things.{below_gone}
use Rattle.mea_pool_run.proofs.named_pool.NamedPool.put_lease_back.Goals as goal

pub remove-requires : goal.remove-requires
remove-requires c = ap is_some c.requires.out.1

pub unreachable-requires : goal.unreachable-requires
unreachable-requires c = c.in_default.not-Held c.requires.out.0 (inside (sym c.remove.ensures.value ∙ c.requires.out.1))

pub put_back-requires : goal.put_back-requires
put_back-requires c = c.requires.stands.keeps.lending.out c.args.name c.in-Held.lease.0 (ap held (c.remove.ensures.value ∙ ap (λ (t : Thing). Some t) c.in-Held.is))

pub returns-clause-goes : goal.returns-clause-goes
returns-clause-goes c =
    goes_as _ _ _ _ _ _ _ c.put_back.ensures c.remove.ensures.rest refl (comes_back_to c.args.self.now.pool c.args.self.now.things c.requires.stands c.args.name c.in-Held.lease (c.remove.ensures.value ∙ ap (λ (t : Thing). Some t) c.in-Held.is))

pub returns-clause-below : goal.returns-clause-below
returns-clause-below c = λ n below. below_as _ _ n c.remove.ensures.rest (below_gone c.args.self.now.things c.args.name n below)
