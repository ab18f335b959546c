use Rattle.std.proofs.Common.{◌≡◌, ◌+◌, ◌≤◌, ◌++◌, [], length, map}
use Rattle.mea_meet.proofs.barrier_entry.BarrierEntry.hand_on.Given as goal

-- what was handed on and what is still there are what there was
abbrev pub invariant-loop-next : goal.invariant-loop-next
invariant-loop-next l = record {
  rest : record l.self { core = record l.self.core { wakes = [] } } ≡ record l.fn.self { core = record l.fn.self.core { wakes = [] } };
  moved : l.ready.wakers ++ map (λ k. k.waker) l.self.core.wakes ≡ l.fn.ready.wakers ++ map (λ k. k.waker) l.fn.self.core.wakes;
  counted : l.ready.registered + length l.fn.self.core.wakes ≡ l.fn.ready.registered + length l.self.core.wakes;
  room : length l.fn.self.core.wakes ≤ l.fn.ready.registered;
}

abbrev pub decreases-loop-next : goal.decreases-loop-next
decreases-loop-next l = length l.self.core.wakes
