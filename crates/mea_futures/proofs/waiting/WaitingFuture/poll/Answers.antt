use Rattle.mea_futures.proofs.Outputs.{keeps_answers}
use Rattle.mea_futures.proofs.waiting.WaitingFuture.poll.Goals as goal

pub returns-clause-same : goal.returns-clause-same
returns-clause-same g c = keeps_answers _ _ c.step.result c.step.ensures.same
