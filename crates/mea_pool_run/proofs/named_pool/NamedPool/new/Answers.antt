use Rattle.std.proofs.Common.{◌≡◌, sym, subst}
use Rattle.mea_by_name.specs.ByName.{Names}
use Rattle.mea_pool_run.specs.declared.thing.Thing.{Thing}
use Rattle.mea_pool_run.specs.PoolByName.{begun}
use Rattle.mea_pool_run.specs.Kept.{pool_by_name, Stands, AreBelow}
use Rattle.mea_pool_run.proofs.Starts.{starts, stands_new, none_below}
use Rattle.mea_pool_run.proofs.named_pool.NamedPool.new.Goals as goal

pub returns-in-Ok-clause-state : goal.returns-in-Ok-clause-state
returns-in-Ok-clause-state c =
    subst (λ (things : Names Thing). pool_by_name c.in-Ok.pool things ≡ begun c.args.size) (sym c.new-in-Ok.ensures)
    (starts c.args.size c.in_ok-resources.resources.items c.in-Ok.pool c.in_ok-resources.ensures c.in-Ok.ensures.is)

pub returns-in-Ok-clause-stands : goal.returns-in-Ok-clause-stands
returns-in-Ok-clause-stands c = subst (λ (things : Names Thing). Stands c.in-Ok.pool things) (sym c.new-in-Ok.ensures) (stands_new c.in_ok-resources.resources.items c.in-Ok.pool c.in-Ok.ensures.is)

pub returns-in-Ok-clause-below : goal.returns-in-Ok-clause-below
returns-in-Ok-clause-below c = subst (λ (things : Names Thing). AreBelow things 0) (sym c.new-in-Ok.ensures) (none_below 0)
