-- what tasks are once no move is left
use Rattle.std.specs.Prelude.{ℕ, ◌≡◌, ◌≤◌, Option, Some, None, slice_get}
use Rattle.mea_family.specs.declared.answer.Answer.TheVariants as answers
use Rattle.mea_events.specs.declared.sem_event.SemEvent.TheVariants as events
use Rattle.mea_sem_model.specs.Hall.{queue_at, lack_of}
use Rattle.mea_sem_model.specs.Step.{step}
use Rattle.mea_task_core.specs.declared.step.Step.{Step}
use Rattle.mea_task_core.specs.declared.step.Step.TheVariants.{Take, Give, Yield}
use Rattle.mea_task_core.specs.declared.phase.Phase.{Phase}
use Rattle.mea_task_core.specs.declared.phase.Phase.TheVariants.{Queued, Asks, Waits, Woken, Finished, Failed}
use Rattle.mea_task_core.specs.declared.state.TaskState.{TaskState}
use Rattle.mea_task_core.specs.declared.state.TaskState.TheVariants as states
use Rattle.mea_task_core.specs.Task.{TaskRecord, next_step}
use Rattle.mea_task_core.specs.Machine.{Machine, name_of, moves}
use Rattle.mea_task_core.specs.Bounds.{work}

-- the machine, run until no move is left: it has no more moves than work
abbrev pub run_out : Machine → Machine
run_out m = moves (work m) m

-- a task waits with the future f for n permits of the semaphore at a place: f lacks at least one, and each further
-- poll of it would reply `pending`
pub record IsLacking (m : Machine) (x : TaskRecord) (f : ℕ) : Type 0 where
  pub place : ℕ
  pub demand : ℕ
  pub takes : next_step x ≡ Some (Take place demand)
  pub lacks : 1 ≤ lack_of (queue_at m.hall (name_of m place)) f
  pub pending : (i w : ℕ) → (step m.hall i (events.Poll f w)).reply ≡ answers.Pending

-- a task with this phase can do nothing more, or waits and lacks a permit
abbrev pub IsSettledBy : Machine → TaskRecord → Phase → Type 0
IsSettledBy m x Queued = ⊥
IsSettledBy m x (Asks f) = ⊥
IsSettledBy m x (Waits f) = IsLacking m x f
IsSettledBy m x (Woken f) = ⊥
IsSettledBy m x Finished = Unit {0}
IsSettledBy m x Failed = Unit {0}

-- each task is finished, has failed, or waits and lacks a permit
abbrev pub AreSettled : Machine → Type 0
AreSettled m = (t : ℕ) (x : TaskRecord) → slice_get m.tasks t ≡ Some x → IsSettledBy m x x.phase

-- ---- what is told of a task

-- the state of a task that waits, told by the take that it comes to next
abbrev pub waits_for : Option Step → TaskState
waits_for None = states.Queued
waits_for (Some (Take s n)) = states.Waits s n
waits_for (Some (Give s n)) = states.Queued
waits_for (Some Yield) = states.Queued

-- the state of a task with this phase
abbrev pub state_by : TaskRecord → Phase → TaskState
state_by x Queued = states.Queued
state_by x (Asks f) = states.Queued
state_by x (Waits f) = waits_for (next_step x)
state_by x (Woken f) = states.Queued
state_by x Finished = states.Finished
state_by x Failed = states.Failed

-- the state of task t
abbrev pub state_at : Option TaskRecord → TaskState
state_at None = states.Queued
state_at (Some x) = state_by x x.phase
