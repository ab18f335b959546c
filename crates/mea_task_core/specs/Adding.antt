-- semaphores and tasks that are added
use Rattle.std.specs.Prelude.{ℕ, ◌≡◌, ◌+◌, ◌^◌, ◌<◌, ◌≤◌, ◌++◌, Bool, true, not, List, [], ◌∷◌, Option, Some, None, nat_lt, length}
use Rattle.std.specs.List.{position}
use Rattle.mea_events.specs.declared.sem_event.SemEvent.TheVariants as events
use Rattle.mea_task_core.specs.declared.step.Step.{Step}
use Rattle.mea_task_core.specs.declared.step.Step.TheVariants.{Take, Give, Yield}
use Rattle.mea_task_core.specs.declared.phase.Phase.TheVariants.{Queued}
use Rattle.mea_task_core.specs.declared.faults.AddFault.{AddFault}
use Rattle.mea_task_core.specs.declared.faults.AddFault.TheVariants as faults
use Rattle.mea_task_core.specs.Task.{TaskRecord}
use Rattle.mea_task_core.specs.Machine.{Machine, outcome_of}
use Rattle.mea_task_core.specs.Bounds.{takes_and_yields}

-- a semaphore with n permits is made, and takes the next place
abbrev pub with_semaphore : Machine → ℕ → Machine
with_semaphore m n = record m { hall = (outcome_of m (events.New n)).hall; events = m.events + 1; semaphores = m.semaphores ++ m.events ∷ [] }

-- a task at its first step, in the run queue
abbrev pub new_task : List Step → TaskRecord
new_task steps = record { steps = steps; position = 0; phase = Queued }

-- a task takes the next number, and goes to the end of the run queue
abbrev pub with_new_task : Machine → List Step → Machine
with_new_task m steps = record m { tasks = m.tasks ++ new_task steps ∷ []; queue = m.queue ++ length m.tasks ∷ []; added = m.added + (length steps + 1); allowance = m.allowance + (takes_and_yields steps + 1) }

-- whether the semaphore that a step means is among so many
abbrev pub is_known : ℕ → Step → Bool
is_known count (Take s n) = nat_lt s count
is_known count (Give s n) = nat_lt s count
is_known count Yield = true

-- the first step that means a semaphore which is not there
abbrev pub first_unknown : Machine → List Step → Option ℕ
first_unknown m steps = position (λ s. not (is_known (length m.semaphores) s)) steps

-- the tasks and steps added, with these
abbrev pub size_with : Machine → List Step → ℕ
size_with m steps = m.added + (length steps + 1)

-- why a task is not added; its steps come back
abbrev pub IsFault : Machine → List Step → AddFault → Type 0
IsFault m steps (faults.Unknown k back) = (first_unknown m steps ≡ Some k) × (back.items ≡ steps)
IsFault m steps (faults.TooMany back) = (first_unknown m steps ≡ None) × (2 ^ 60 < size_with m steps) × (back.items ≡ steps)
IsFault m steps (faults.NoMemory back) = (first_unknown m steps ≡ None) × (size_with m steps ≤ 2 ^ 60) × (back.items ≡ steps)

-- a task can be added
pub record IsAllowed (m : Machine) (steps : List Step) : Type 0 where
  pub known : first_unknown m steps ≡ None
  pub few : size_with m steps ≤ 2 ^ 60
