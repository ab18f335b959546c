-- the state between the two calls is that which the poll left
use Rattle.mea_sync.proofs.semaphore.steps.poll_to_forget.Goals as goal

pub returns-clause-allowed : goal.returns-clause-allowed
returns-clause-allowed g c =
    λ belongs. record {
      between = c.poll-answer.new.core;
      polls = c.poll-answer.ensures.allowed belongs;
      loses = c.lose_granted.ensures;
    }

pub returns-clause-renewed : goal.returns-clause-renewed
returns-clause-renewed g c =
    λ foreign. record {
      between = c.poll-answer.new.core;
      polls = c.poll-answer.ensures.renewed foreign;
      loses = c.lose_granted.ensures;
    }
