use Rattle.mea_pool_run.proofs.machine.PoolMachine.new.Goals as goal

pub returns-clause-stands : goal.returns-clause-stands
returns-clause-stands c = (c.in_ok-named.ensures.stands, c.in_ok-named.ensures.below)
