-- what an executor keeps to
use Rattle.std.specs.Prelude.{ℕ, ◌≡◌, ◌≤◌, [], length}
use Rattle.mea_sem.specs.Play.{Play}
use Rattle.mea_task_core.specs.Machine.{Machine}
use Rattle.mea_task_core.specs.Sound.{IsSound}

-- what the executor has stands for this machine: the machine is sound, and hall, numbers and run queue go with it
pub record IsKept (m : Machine) (play : Play) (room : ℕ) : Type 0 where
  pub sound : IsSound m
  -- the wakers are taken after each event
  pub quiet : play.wakes ≡ []
  pub numbers : play.next ≡ m.events
  -- each task has its place in the run queue
  pub places : length m.tasks ≤ room
