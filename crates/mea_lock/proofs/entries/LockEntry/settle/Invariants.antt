use Rattle.std.proofs.Common.{◌≡◌, ◌+◌, ◌≤◌, ◌++◌, length, map}
use Rattle.mea_lock.specs.Entries.{settled}
use Rattle.mea_lock.proofs.entries.LockEntry.settle.Given as goal

-- what was handed on and what is still there are what there was
abbrev pub invariant-loop-next : goal.invariant-loop-next
invariant-loop-next g l = record {
  rest : record { lock = settled (g.C.LockCore.lock_of l.self-inside.core); named = l.self-inside.named; things = l.self-inside.things; plain = l.self-inside.plain } ≡ record l.fn.self { lock = settled l.fn.self.lock };
  moved : l.ready.wakers ++ map (λ k. k.waker) (g.C.LockCore.lock_of l.self-inside.core).permits.wakes ≡ l.fn.ready.wakers ++ map (λ k. k.waker) l.fn.self.lock.permits.wakes;
  counted : l.ready.registered + l.before ≡ l.fn.ready.registered + length l.fn.self.lock.permits.queue + l.gone;
  fits : length (g.C.LockCore.lock_of l.self-inside.core).permits.wakes ≤ l.gone;
  room : l.before ≤ l.fn.ready.registered;
}

abbrev pub decreases-loop-next : goal.decreases-loop-next
decreases-loop-next g l = length (g.C.LockCore.lock_of l.self-inside.core).permits.wakes
