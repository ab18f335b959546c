use Rattle.std.proofs.Common.{◌≡◌, ◌≢◌, ◌≤◌, [], length}
use Rattle.mea_events.specs.Replies.{with_wakes}
use Rattle.mea_hall.specs.World.{Play}
use Rattle.mea_hall.proofs.played.hand_over.Given as goal

-- what is left to hand over does to the replies so far what all does to those at the start
abbrev pub invariant-loop-waker : goal.invariant-loop-waker
invariant-loop-waker l = record {
  hall : ◌≡◌ {A = Play} l.hall (record l.fn.hall { wakes = l.hall.wakes });
  replies : with_wakes l.replies.replies l.hall.wakes ≡ with_wakes l.fn.replies.replies l.fn.hall.wakes;
  room : length l.hall.wakes ≤ l.replies.spare;
  last : l.replies.replies ≢ [];
}

abbrev pub decreases-loop-waker : goal.decreases-loop-waker
decreases-loop-waker l = length l.hall.wakes
