use Rattle.std.proofs.Common.{◌≡◌, ◌+◌, ◌++◌, [], length}
use Rattle.mea_sem.proofs.moving.hand_on.Given as goal

-- what was handed on and what is still there are what there was
abbrev pub invariant-loop-waker : goal.invariant-loop-waker
invariant-loop-waker l = record {
  rest : record l.core { wakes = [] } ≡ record l.fn.core { wakes = [] };
  moved : l.ready.wakers ++ l.core.wakes ≡ l.fn.ready.wakers ++ l.fn.core.wakes;
  counted : l.ready.registered + length l.fn.core.wakes ≡ l.fn.ready.registered + length l.core.wakes;
}

abbrev pub decreases-loop-waker : goal.decreases-loop-waker
decreases-loop-waker l = length l.core.wakes
