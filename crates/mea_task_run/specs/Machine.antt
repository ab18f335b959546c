-- the semaphores and tasks that lines make, and what a script of them is answered
use Rattle.std.specs.Prelude.{ℕ, ◌≡◌, ◌+◌, ◌≤◌, ◌++◌, ◌&&◌, Bool, true, List, [], ◌∷◌, Option, Some, None, length, is_some, if◌then◌else◌}
use Rattle.std.specs.Global.{Vec}
use Rattle.std.specs.List.{AllByRecursion}
use Rattle.mea_text.specs.Words.{◌>>=◌}
use Rattle.mea_script.specs.Rules.{Rules}
use Rattle.mea_script.specs.Told.{Told, told_by}
use Rattle.mea_task_core.specs.declared.step.Step.{Step as TaskStep}
use Rattle.mea_task_core.specs.Adding.{with_semaphore, with_new_task, is_known}
use Rattle.mea_task_core.specs.Machine.{Machine, new_machine}
use Rattle.mea_task_core.specs.Settled.{run_out}
use Rattle.mea_task_run.specs.declared.event.TaskEvent.{TaskEvent}
use Rattle.mea_task_run.specs.declared.event.TaskEvent.TheVariants.{Sem, Task, Step}
use Rattle.mea_task_run.specs.declared.machine.TaskMachine.{TaskMachine}
use Rattle.mea_task_run.specs.Lines.{event_of}
use Rattle.mea_task_run.specs.Results.{results}

-- the machine with all that was made but for the latest task, to which steps may come still; its steps
pub record Program : Type 0 where
  pub machine : Machine
  pub latest : Option (List TaskStep)

-- nothing was made
abbrev pub new_program : Program
new_program = record { machine = new_machine; latest = None }

-- the machine with these steps as a task, if there are any to add
abbrev pub with_latest : Machine → Option (List TaskStep) → Machine
with_latest m None = m
with_latest m (Some steps) = with_new_task m steps

-- the machine with the latest task too
abbrev pub whole : Program → Machine
whole p = with_latest p.machine p.latest

-- the steps of the latest task as a machine of scripts keeps them
abbrev pub steps_in : Option (Vec TaskStep) → Option (List TaskStep)
steps_in None = None
steps_in (Some steps) = Some steps.items

-- the program that a machine of scripts stands for
abbrev pub program_of : TaskMachine → Program
program_of p = record { machine = p.executor; latest = steps_in p.latest }

-- ---- events

-- a step is an event where a task was begun, and where the semaphore that it means was made before
abbrev pub admits : Program → TaskEvent → Bool
admits p (Sem n) = true
admits p Task = true
admits p (Step s) = is_some p.latest && is_known (length p.machine.semaphores) s

-- the event of a line for a program
abbrev pub event_in : Program → List ℕ → Option TaskEvent
event_in p line = event_of line >>= (λ e. if admits p e then Some e else None)

-- the steps of the latest task with one more
abbrev pub with_step : Option (List TaskStep) → TaskStep → Option (List TaskStep)
with_step None s = None
with_step (Some steps) s = Some (steps ++ s ∷ [])

-- what an event makes of a program
abbrev pub after : Program → TaskEvent → Program
after p (Sem n) = record p { machine = with_semaphore p.machine n }
after p Task = record { machine = whole p; latest = Some [] }
after p (Step s) = record p { latest = with_step p.latest s }

-- no event is refused or replied to; at the end of the input the tasks are run until no move is left
unfoldable pub task_rules : Rules Program TaskEvent
task_rules = record {
  event = event_in;
  cause = λ p e. None;
  reply = λ p n e. [];
  next = λ p n e. after p e;
  last = λ p n. results (run_out (whole p));
}

-- what a script of tasks is answered
abbrev pub tasks_of : List ℕ → Told
tasks_of script = told_by task_rules new_program script

-- ---- what holds before line n

-- how much the latest task adds: itself and each step
abbrev pub size_of : Option (List TaskStep) → ℕ
size_of None = 0
size_of (Some steps) = length steps + 1

-- each of its steps means one of so many semaphores
abbrev pub AreKnown : ℕ → Option (List TaskStep) → Type 0
AreKnown count None = Unit {0}
AreKnown count (Some steps) = AllByRecursion (λ s. is_known count s ≡ true) steps

-- what a program keeps to there
pub record StandsAt (p : Program) (n : ℕ) : Type 0 where
  -- each event, each semaphore, and each task and step has its line
  pub events : p.machine.events ≤ n
  pub semaphores : length p.machine.semaphores ≤ n
  pub added : p.machine.added + size_of p.latest ≤ n
  -- the steps of the latest task mean semaphores that are there
  pub known : AreKnown (length p.machine.semaphores) p.latest
