use Rattle.std.proofs.Common.{◌≡◌, ◌+◌, ◌++◌, [], length}
use Rattle.mea_chan_core.proofs.moving.move_wakes.Given as goal

abbrev pub invariant-loop-waker : goal.invariant-loop-waker
invariant-loop-waker g l = record {
  rest : record l.semaphore { wakes = [] } ≡ record l.fn.semaphore { wakes = [] };
  moved : l.outbox.wakers ++ l.semaphore.wakes ≡ l.fn.outbox.wakers ++ l.fn.semaphore.wakes;
  spare : l.outbox.spare + length l.fn.semaphore.wakes ≡ l.fn.outbox.spare + length l.semaphore.wakes;
}

abbrev pub decreases-loop-waker : goal.decreases-loop-waker
decreases-loop-waker g l = length l.semaphore.wakes
