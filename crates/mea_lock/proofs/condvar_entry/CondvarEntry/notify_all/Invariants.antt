use Rattle.std.proofs.Common.{◌≡◌, ◌+◌, ◌≤◌, ◌++◌, [], length, map}
use Rattle.mea_lock_core.specs.Condvar.{notifying}
use Rattle.mea_lock.specs.CondEntries.{wakers_in}
use Rattle.mea_lock.proofs.condvar_entry.CondvarEntry.notify_all.Given as goal

-- what was handed on and what is still there are what there was
abbrev pub invariant-loop-next : goal.invariant-loop-next
invariant-loop-next l = record {
  rest : record { condvar = record l.self-inside.core { wakes = [] }; waits = l.self-inside.waits } ≡ record l.fn.self { condvar = record { waiting = []; notified = notifying l.fn.self.condvar.notified l.fn.self.condvar.waiting; wakes = [] } };
  moved : l.ready.wakers ++ map (λ k. k.waker) l.self-inside.core.wakes ≡ l.fn.ready.wakers ++ wakers_in l.fn.self.condvar.waiting;
  counted : l.ready.registered + length l.fn.self.condvar.waiting ≡ l.fn.ready.registered + length l.self-inside.core.wakes;
  room : length l.fn.self.condvar.waiting ≤ l.fn.ready.registered;
}

abbrev pub decreases-loop-next : goal.decreases-loop-next
decreases-loop-next l = length l.self-inside.core.wakes
