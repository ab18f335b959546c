use Rattle.std.proofs.Common.{refl}
use Rattle.mea_pool_run.proofs.Events.{goes_as}
use Rattle.mea_pool_run.proofs.Passing.{drains}
use Rattle.mea_pool_run.proofs.named_pool.NamedPool.drain.Goals as goal

pub returns-clause-goes : goal.returns-clause-goes
returns-clause-goes c = goes_as _ _ _ _ _ _ _ c.drain.ensures refl refl (drains c.args.self.now.pool c.args.self.now.things c.requires.stands)
