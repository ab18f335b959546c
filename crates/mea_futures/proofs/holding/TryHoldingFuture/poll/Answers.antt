use Rattle.mea_futures.proofs.Outputs.{keeps_tries}
use Rattle.mea_futures.proofs.holding.TryHoldingFuture.poll.Goals as goal
use Rattle.std.proofs.Common.{rules}

pub returns-clause-same : goal.returns-clause-same
returns-clause-same g c = keeps_tries (λ k. k.value) _ _ c.poll.result (search rules) c.poll.ensures.same
