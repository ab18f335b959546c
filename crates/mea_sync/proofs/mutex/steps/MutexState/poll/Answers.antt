-- the lock was not changed, so it is sound as it was; whether the wait was one of it can be told
use Rattle.std.proofs.Common.{rules}
use Rattle.mea_sync.proofs.Refusals.{waker_back}
use Rattle.mea_sync.proofs.mutex.steps.MutexState.poll.Goals as goal

pub returns-in_err-waker-clause-waker : goal.returns-in_err-waker-clause-waker
returns-in_err-waker-clause-waker g c =
    let back = waker_back c.args.self.now.lock c.poll_checked.new.self c.args.wait.now c.poll_checked.new.wait c.args.waker c.in_err-waker.field-0.0
    (rw c.in_err-waker.ensures.err at c.in_err-waker.ensures.sound) c.in_err-waker.ensures.allowed c.in_err-waker.ensures.renewed in
    search rules
