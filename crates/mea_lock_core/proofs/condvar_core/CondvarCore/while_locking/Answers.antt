use Rattle.std.proofs.Common.{◌∙◌}
use Rattle.mea_lock_core.specs.Notes.{condvar_of}
use Rattle.mea_lock_core.proofs.Stages.{asking_polls}
use Rattle.mea_lock_core.proofs.condvar_core.CondvarCore.while_locking.Goals as goal

pub returns-clause-polls : goal.returns-clause-polls
returns-clause-polls g c =
    record {
      first = c.in_ok-turn.turn;
      between = condvar_of c.reserve.new.waiters c.reserve.new.outbox;
      lock = c.poll_asking.new.lock;
      stage = c.poll_asking.new.wait;
      polls = asking_polls _ _ _ _ _ _ _ _ (c.reserve.ensures.same ∙ c.self.view_is) c.requires.asks c.in_ok-turn.ensures.polls;
      continues = c.resume.ensures.continues;
    }
