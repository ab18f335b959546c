use Rattle.std.proofs.Common.{◌≡◌, ◌+◌, ◌≤◌, ◌++◌, length, map}
use Rattle.mea_chan_broadcast.specs.BroadcastCores.{kept_by, handed_on}
use Rattle.mea_chan_broadcast.proofs.broadcast_entry.BroadcastEntry.settle.Given as goal

-- what was handed on and what is still there are what there was
abbrev pub invariant-loop-next : goal.invariant-loop-next
invariant-loop-next l = record {
  rest : record l.self { core = handed_on l.self.core } ≡ record l.fn.self { core = handed_on l.fn.self.core };
  moved : l.ready.wakers ++ map (λ k. k.waker) l.self.core.wakes ≡ l.fn.ready.wakers ++ map (λ k. k.waker) l.fn.self.core.wakes;
  counted : l.ready.registered + l.before ≡ l.fn.ready.registered + kept_by l.fn.self.core + l.gone;
  fits : length l.self.core.wakes ≤ l.gone;
  room : l.before ≤ l.fn.ready.registered;
}

abbrev pub decreases-loop-next : goal.decreases-loop-next
decreases-loop-next l = length l.self.core.wakes
