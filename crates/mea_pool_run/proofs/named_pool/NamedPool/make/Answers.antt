use Rattle.std.proofs.Common.{◌+◌, refl, arith}
use Rattle.mea_pool_run.proofs.Events.{goes_as, below_as}
use Rattle.mea_pool_run.proofs.Still.{makes}
use Rattle.mea_pool_run.proofs.Things.{below_put, below_more}
use Rattle.mea_pool_run.proofs.named_pool.NamedPool.make.Goals as goal

pub returns-clause-goes : goal.returns-clause-goes
returns-clause-goes c =
    goes_as _ _ _ _ _ _ _ refl c.in_ok-insert.ensures.ok refl
    (makes c.args.self.now.pool c.args.self.now.things c.requires.stands c.args.number c.args.thing (c.requires.below c.args.number (omega arith)) c.requires.new)

pub returns-clause-below : goal.returns-clause-below
returns-clause-below c =
    below_as _ _ (c.args.number + 1) c.in_ok-insert.ensures.ok
    (below_put c.args.self.now.things c.args.number c.args.thing (c.args.number + 1) (below_more c.args.self.now.things c.args.number c.requires.below) (omega arith))
