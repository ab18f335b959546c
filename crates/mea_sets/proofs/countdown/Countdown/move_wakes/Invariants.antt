use Rattle.std.proofs.Common.{◌≡◌, ◌+◌, ◌++◌, length}
use Rattle.mea_sets.proofs.countdown.Countdown.move_wakes.Given as goal

abbrev pub invariant-loop-waker : goal.invariant-loop-waker
invariant-loop-waker g l = record {
  count : l.self.count ≡ l.fn.self.count;
  moved : l.out.wakers ++ l.self.wakes ≡ l.fn.out.wakers ++ l.fn.self.wakes;
  spare : l.out.spare + length l.fn.self.wakes ≡ l.fn.out.spare + length l.self.wakes;
}

abbrev pub decreases-loop-waker : goal.decreases-loop-waker
decreases-loop-waker g l = length l.self.wakes
