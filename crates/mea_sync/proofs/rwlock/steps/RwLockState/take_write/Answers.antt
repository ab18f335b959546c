-- whether the wait was one of the lock can be told
use Rattle.std.proofs.Common.{rules, inr}
use Rattle.mea_sync.proofs.Refusals.{rw_refused, rw_ready}
use Rattle.mea_sync.proofs.rwlock.steps.RwLockState.take_write.Goals as goal

pub returns-in_err-waker-clause-waker : goal.returns-in_err-waker-clause-waker
returns-in_err-waker-clause-waker g c =
    let told = rw_refused c.args.self.now.lock c.poll_checked.new.self c.args.wait.now c.poll_checked.new.wait c.args.waker c.in_err-waker.field-0.0
    c.is_writing-was_writing.ensures.sound c.in_err-waker.ensures.allowed c.in_err-waker.ensures.renewed in
    search rules

pub returns-in-None-clause-waker : goal.returns-in-None-clause-waker
returns-in-None-clause-waker g c =
    rw_ready c.args.self.now.lock c.poll_checked.new.self c.args.wait.now c.poll_checked.new.wait c.args.waker c.in-Ready.waker
    c.is_writing-was_writing.ensures.sound (λ may. rw c.in-Ready.is at (c.in_ok-waker.ensures.allowed may)) (λ other. rw c.in-Ready.is at (c.in_ok-waker.ensures.renewed other))

pub returns-in-None-clause-kept : goal.returns-in-None-clause-kept
returns-in-None-clause-kept g c =
    let same = rw_ready c.args.self.now.lock c.poll_checked.new.self c.args.wait.now c.poll_checked.new.wait c.args.waker c.in-Ready.waker
    c.is_writing-was_writing.ensures.sound (λ may. rw c.in-Ready.is at (c.in_ok-waker.ensures.allowed may)) (λ other. rw c.in-Ready.is at (c.in_ok-waker.ensures.renewed other)) in
    λ may. inr (record {
      between = c.poll_checked.new.self;
      done = c.poll_checked.new.wait;
      polls = rw (c.in-Ready.is, same) at (c.in_ok-waker.ensures.allowed may);
      back = c.in-None.ensures.none.1;
      again = c.write.ensures;
    })
