use Rattle.std.proofs.Common.{◌≡◌, ◌+◌, ◌++◌, length}
use Rattle.mea_sets.proofs.wait_set.move_wakers.Given as goal

abbrev pub invariant-loop-waker : goal.invariant-loop-waker
invariant-loop-waker g l = record {
  moved : l.out.wakers ++ l.wakers.items ≡ l.fn.out.wakers ++ l.fn.wakers.items;
  spare : l.out.spare + length l.fn.wakers.items ≡ l.fn.out.spare + length l.wakers.items;
}

abbrev pub decreases-loop-waker : goal.decreases-loop-waker
decreases-loop-waker g l = length l.wakers.items
