use Rattle.std.proofs.Common.{◌≡◌, ◌+◌, ◌≤◌, ◌++◌, length, map}
use Rattle.mea_chan.specs.BoundedCores.{kept_by, handed_on}
use Rattle.mea_chan.proofs.bounded_entry.BoundedEntry.settle.Given as goal

-- what was handed on and what is still there are what there was
abbrev pub invariant-loop-next : goal.invariant-loop-next
invariant-loop-next l = record {
  rest : handed_on l.self-inside.core ≡ handed_on l.fn.self;
  moved : l.ready.wakers ++ map (λ k. k.waker) l.self-inside.core.wakes ≡ l.fn.ready.wakers ++ map (λ k. k.waker) l.fn.self.wakes;
  counted : l.ready.registered + l.before ≡ l.fn.ready.registered + kept_by l.fn.self + l.gone;
  fits : length l.self-inside.core.wakes ≤ l.gone;
  room : l.before ≤ l.fn.ready.registered;
}

abbrev pub decreases-loop-next : goal.decreases-loop-next
decreases-loop-next l = length l.self-inside.core.wakes
