use Rattle.std.proofs.Common.{◌+◌, ap, sym, ◌∙◌}
use Rattle.mea_pool_run.specs.declared.event.PoolEvent.{PoolEvent}
use Rattle.mea_pool_run.specs.PoolByName.{outcome, quietly}
use Rattle.mea_pool_run.specs.Kept.{pool_by_name}
use Rattle.mea_pool_run.proofs.Events.{below_as}
use Rattle.mea_pool_run.proofs.Still.{nothing_changes}
use Rattle.mea_pool_run.proofs.Things.{below_more}
use Rattle.mea_pool_run.proofs.named_pool.NamedPool.play.Goals as goal

pub returns-in-Use-clause-below : goal.returns-in-Use-clause-below
returns-in-Use-clause-below c = c.set.ensures.below (c.args.number + 1) (below_more c.args.self.now.things c.args.number c.requires.below)

pub returns-in-Back-clause-below : goal.returns-in-Back-clause-below
returns-in-Back-clause-below c = c.put_back.ensures.below (c.args.number + 1) (below_more c.args.self.now.things c.args.number c.requires.below)

pub returns-in-End-clause-below : goal.returns-in-End-clause-below
returns-in-End-clause-below c = c.end.ensures.below (c.args.number + 1) (below_more c.args.self.now.things c.args.number c.requires.below)

pub returns-in-Drain-clause-below : goal.returns-in-Drain-clause-below
returns-in-Drain-clause-below c = below_as c.args.self.now.things _ (c.args.number + 1) c.drain.ensures.same (below_more c.args.self.now.things c.args.number c.requires.below)

pub returns-in-Idle-clause-goes : goal.returns-in-Idle-clause-goes
unfolding outcome
returns-in-Idle-clause-goes c =
    let s = pool_by_name c.args.self.now.pool c.args.self.now.things in
    nothing_changes c.args.self.now.pool c.args.self.now.things c.requires.stands (outcome s c.args.number c.args.event) c.idle.result
    (ap (λ (e : PoolEvent). outcome s c.args.number e) c.in-Idle.is ∙ ap (quietly s) (sym c.idle.ensures))

pub returns-in-Idle-clause-below : goal.returns-in-Idle-clause-below
returns-in-Idle-clause-below c = below_more c.args.self.now.things c.args.number c.requires.below
