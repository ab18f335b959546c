-- the poll of the core leaves the wait, and a new one has its guard's value again
use Rattle.std.proofs.Common.{◌≤◌, is_some, rules}
use Rattle.mea_sem_core.specs.Core.{held_of}
use Rattle.mea_sync.proofs.Refusals.{wait_stays, new_holds, keeps_place}
use Rattle.mea_sync.proofs.condvar.steps.poll.Goals as goal
use Rattle.mea_sync.proofs.condvar.steps.poll.Goals.{in-Some+in-Some-1, in-Some+in-None-1, in_default}

pub returns-in-Err-clause-kept : goal.returns-in-Err-clause-kept
returns-in-Err-clause-kept g c =
    λ may.
    let lock = c.args.state.now.lock in
    let polled = c.poll_wait_checked-turn.new in
    let whole = c.in-Err.ensures.unchanged.1 in
    let kept = rw c.keep.ensures.lock at c.keep.ensures.sound in
    let sound = rw whole at kept in
    let same = wait_stays c.args.core.now polled.self lock polled.lock c.args.wait.now polled.wait c.args.waker c.in-Err.e sound may (c.in-Err.ensures.allowed may) in
    keeps_place c.args.wait.now polled.wait c.keep.new.wait (is_some c.keep.new.guarded) same c.keep.ensures.stays c.keep.ensures.new (λ fresh.
    let holds : 1 ≤ held_of polled.lock.permits = rw whole (new_holds c.args.core.now lock c.args.wait.now fresh may) in
    let there = (c.keep.ensures.held holds).0 in
    let had = c.requires fresh in
    elim c.match-take.branch [ in-Some+in-Some-1 w ↦ search rules | in-Some+in-None-1 w ↦ search rules | in_default w ↦ search rules ])
