use Rattle.std.proofs.Common.{◌≡◌, ◌≤◌, length}
use Rattle.mea_lock_core.specs.Condvar.{notified_all}
use Rattle.mea_lock_core.specs.Notes.{condvar_of, AreNoted}
use Rattle.mea_lock_core.proofs.note.notify_each.Given as goal

abbrev pub invariant-loop-waiters : goal.invariant-loop-waiters
invariant-loop-waiters g l = record {
  notified : notified_all (condvar_of l.waiters l.outbox) ≡ notified_all (condvar_of l.fn.waiters l.fn.outbox);
  noted : AreNoted l.waiters;
  room : length l.waiters.order ≤ l.outbox.spare;
}

abbrev pub decreases-loop-waiters : goal.decreases-loop-waiters
decreases-loop-waiters g l = length l.waiters.order
