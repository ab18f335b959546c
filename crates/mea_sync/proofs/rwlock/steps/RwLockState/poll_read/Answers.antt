-- the lock was not changed, so it is sound as it was; whether the wait was one of it can be told
use Rattle.std.proofs.Common.{◌≡◌, ◌⊎◌, rules, inr}
use Rattle.mea_base.proofs.Tests.{on_err}
use Rattle.mea_lock_core.specs.RwLock.{MayPoll, renewed_rw}
use Rattle.mea_sync.proofs.Refusals.{rw_refused}
use Rattle.mea_sync.proofs.rwlock.steps.RwLockState.poll_read.Goals as goal

pub returns-in_err-waker-clause-waker : goal.returns-in_err-waker-clause-waker
returns-in_err-waker-clause-waker g c =
    let told = rw_refused c.args.self.now.lock c.poll_checked.new.self c.args.wait.now c.poll_checked.new.wait c.args.waker c.in_err-waker.field-0.0
    (rw c.in_err-waker.ensures.err at c.in_err-waker.ensures.sound) c.in_err-waker.ensures.allowed c.in_err-waker.ensures.renewed in
    search rules

pub returns-in_err-waker-clause-lost : goal.returns-in_err-waker-clause-lost
returns-in_err-waker-clause-lost g c =
    let told = rw_refused c.args.self.now.lock c.poll_checked.new.self c.args.wait.now c.poll_checked.new.wait c.args.waker c.in_err-waker.field-0.0
    (rw c.in_err-waker.ensures.err at c.in_err-waker.ensures.sound) c.in_err-waker.ensures.allowed c.in_err-waker.ensures.renewed in
    let left : (¬ MayPoll c.args.self.now.lock c.args.wait.now → (c.poll_checked.new.wait ≡ c.args.wait.now) ⊎ (c.poll_checked.new.wait ≡ renewed_rw c.args.wait.now)) = λ other. inr (told.2 other) in
    on_err _ _ left
