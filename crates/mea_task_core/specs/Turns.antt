-- what the parts of an executor require of the machine before a move
use Rattle.std.specs.Prelude.{ℕ, ◌≡◌, Option, Some, None, slice_get}
use Rattle.mea_events.specs.declared.sem_event.SemEvent.{SemEvent}
use Rattle.mea_events.specs.declared.sem_event.SemEvent.TheVariants as events
use Rattle.mea_sem_model.specs.Cause.{cause_of}
use Rattle.mea_task_core.specs.declared.step.Step.{Step}
use Rattle.mea_task_core.specs.declared.step.Step.TheVariants.{Take, Give, Yield}
use Rattle.mea_task_core.specs.declared.phase.Phase.TheVariants.{Finished}
use Rattle.mea_task_core.specs.Task.{TaskRecord, next_step, over}
use Rattle.mea_task_core.specs.Machine.{Machine, name_of, with_task, stops, outcome_of, asks, polled, gives, yields, move}

-- the turn of task t is on, it comes to this step, if one is left, and the next move makes this of the machine
pub record ComesTo (m : Machine) (t : ℕ) (o : Option Step) (after : TaskRecord → Machine) : Type 0 where
  pub task : TaskRecord
  pub on : m.running ≡ Some t
  pub there : slice_get m.tasks t ≡ Some task
  pub next : next_step task ≡ o
  pub is : move m ≡ after task

-- ---- what task t comes to

-- all its steps are over
abbrev pub ComesToItsEnd : Machine → ℕ → Type 0
ComesToItsEnd m t = ComesTo m t None (λ x. stops (with_task m t (over Finished)))

-- a yield
abbrev pub ComesToYield : Machine → ℕ → Type 0
ComesToYield m t = ComesTo m t (Some Yield) (λ x. yields m t x)

-- a take of n permits of the semaphore at place s, for which it has no future
abbrev pub ComesToAsk : Machine → ℕ → ℕ → ℕ → Type 0
ComesToAsk m t s n = ComesTo m t (Some (Take s n)) (λ x. asks m t x s n)

-- a take for which it has the future f
abbrev pub ComesToPoll : Machine → ℕ → ℕ → Type 0
ComesToPoll m t f = (s : ℕ) × (n : ℕ) × ComesTo m t (Some (Take s n)) (λ x. polled m t x f (outcome_of m (events.Poll f t)))

-- the event by which n permits are released to the semaphore at place s
abbrev pub release : Machine → ℕ → ℕ → SemEvent
release m s n = events.Release (name_of m s) n

-- that release
abbrev pub ComesToGive : Machine → ℕ → ℕ → ℕ → Type 0
ComesToGive m t s n = ComesTo m t (Some (Give s n)) (λ x. gives m t x (cause_of m.hall (release m s n)) (outcome_of m (release m s n)))
