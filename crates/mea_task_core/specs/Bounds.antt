-- how many turns and events tasks may take
use Rattle.std.specs.Prelude.{ℕ, ◌≡◌, ◌+◌, ◌-◌, ◌*◌, Bool, true, false, List, Option, Some, None, length, drop}
use Rattle.std.specs.List.{sum_by, count_by}
use Rattle.mea_task_core.specs.declared.step.Step.{Step}
use Rattle.mea_task_core.specs.declared.step.Step.TheVariants.{Take, Give, Yield}
use Rattle.mea_task_core.specs.declared.phase.Phase.{Phase}
use Rattle.mea_task_core.specs.declared.phase.Phase.TheVariants.{Queued, Asks, Waits, Woken, Finished, Failed}
use Rattle.mea_task_core.specs.Task.{TaskRecord}
use Rattle.mea_task_core.specs.Machine.{Machine}

-- whether a further turn may be needed after a step: a take may wait, and a yield ends its turn
abbrev pub may_rest : Step → Bool
may_rest (Take s n) = true
may_rest (Give s n) = false
may_rest Yield = true

-- how many takes and yields these are
abbrev pub takes_and_yields : List Step → ℕ
takes_and_yields steps = count_by may_rest steps

-- the second machine has the semaphores of the first, and as many tasks, and no step was added
pub record AddsNothing (m n : Machine) : Type 0 where
  pub semaphores : n.semaphores ≡ m.semaphores
  pub tasks : length n.tasks ≡ length m.tasks
  pub added : n.added ≡ m.added
  pub allowance : n.allowance ≡ m.allowance

-- ---- what is left

-- the steps that are not over
abbrev pub rest_of : TaskRecord → List Step
rest_of x = drop x.position x.steps

-- the turns that a task with this phase may still begin, where its turn is not on
abbrev pub turns_by : Phase → ℕ → ℕ
turns_by Queued k = k + 1
turns_by (Asks f) k = k + 1
turns_by (Waits f) k = k
turns_by (Woken f) k = k
turns_by Finished k = 0
turns_by Failed k = 0

-- the turns that a task may still begin, where its turn is not on
abbrev pub turns_left : TaskRecord → ℕ
turns_left x = turns_by x.phase (takes_and_yields (rest_of x))

-- more than the moves that a task with this phase and so many steps may still make
abbrev pub moves_by : Phase → ℕ → ℕ
moves_by Queued k = 4 * k + 2
moves_by (Asks f) k = 4 * k + 1
moves_by (Waits f) k = 4 * k - 1
moves_by (Woken f) k = 4 * k - 1
moves_by Finished k = 0
moves_by Failed k = 0

-- more than the moves that a task may still make
abbrev pub moves_left : TaskRecord → ℕ
moves_left x = moves_by x.phase (length (rest_of x))

-- 1 while a turn is on
abbrev pub one_if_on : Option ℕ → ℕ
one_if_on None = 0
one_if_on (Some t) = 1

-- more than the moves that a machine may still make: each move makes it less
abbrev pub work : Machine → ℕ
work m = sum_by moves_left m.tasks + (1 - one_if_on m.running)
