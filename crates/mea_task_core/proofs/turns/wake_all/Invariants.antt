use Rattle.std.proofs.Common.{◌≡◌, ◌+◌, ◌<◌, ◌≤◌, ◌++◌, ℕ, length}
use Rattle.mea_sem.specs.Play.{Play}
use Rattle.mea_task_core.specs.Machine.{woken}
use Rattle.mea_task_core.specs.Sound.{times}
use Rattle.mea_task_core.proofs.turns.wake_all.Given as goal

-- those that are left do to the tasks and the run queue so far what all do to those at the start
abbrev pub invariant-loop-waker : goal.invariant-loop-waker
invariant-loop-waker l = record {
  hall : ◌≡◌ {A = Play} l.hall (record l.fn.hall { wakes = l.hall.wakes });
  tasks : woken l.tasks.items l.hall.wakes ≡ woken l.fn.tasks.items l.fn.hall.wakes;
  queue : l.queue.tasks ++ l.hall.wakes ≡ l.fn.queue.tasks ++ l.fn.hall.wakes;
  room : l.queue.room ≡ l.fn.queue.room;
  fits : length l.queue.tasks + length l.hall.wakes ≤ l.queue.room;
  there : (w : ℕ) → 1 ≤ times w l.hall.wakes → w < length l.tasks.items;
}

abbrev pub decreases-loop-waker : goal.decreases-loop-waker
decreases-loop-waker l = length l.hall.wakes
