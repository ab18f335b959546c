use Rattle.mea_pool_run.proofs.Orderly.{are_orderly}
use Rattle.mea_pool_run.proofs.running.run_pool.Goals as goal

pub returns-in-Some-clause-usage : goal.returns-in-Some-clause-usage
returns-in-Some-clause-usage g c =
    let pool = (c.size_of.ensures.pool c.in-Some.size).0 c.in-Some.is in
    (λ usage. absurd (c.play.ensures.usage usage), λ none. absurd (none (c.in-Some.size, pool)))

pub returns-in-Some-clause-orderly : goal.returns-in-Some-clause-orderly
returns-in-Some-clause-orderly g c = λ size script _ _. are_orderly size script

pub returns-in-None-clause-orderly : goal.returns-in-None-clause-orderly
returns-in-None-clause-orderly g c = λ size script _ _. are_orderly size script
