-- tasks that take turns: the hall that their steps are played on, the tasks by number, and the run queue
use Rattle.std.specs.Prelude.{ℕ, zero, suc, ◌≡◌, ◌+◌, ◌++◌, Bool, true, false, List, [], ◌∷◌, Option, Some, None, refl, slice_get, slice_set, slice_index, if◌then◌else◌}
use Rattle.std.specs.Coded.{Coded, code_by, coded×, coded_ℕ, coded_list, coded_option}
use Rattle.mea_family.specs.declared.stop.Stop.{Stop}
use Rattle.mea_family.specs.Family.{is_pending}
use Rattle.mea_events.specs.declared.sem_event.SemEvent.{SemEvent}
use Rattle.mea_events.specs.declared.sem_event.SemEvent.TheVariants as events
use Rattle.mea_sem_model.specs.Hall.{Hall, empty_hall, hall_code}
use Rattle.mea_sem_model.specs.Cause.{cause_of}
use Rattle.mea_sem_model.specs.Step.{Outcome, step}
use Rattle.mea_task_core.specs.declared.step.Step.{Step}
use Rattle.mea_task_core.specs.declared.step.Step.TheVariants.{Take, Give, Yield}
use Rattle.mea_task_core.specs.declared.phase.Phase.{Phase}
use Rattle.mea_task_core.specs.declared.phase.Phase.TheVariants.{Asks, Waits, Woken, Finished, Failed}
use Rattle.mea_task_core.specs.Task.{TaskRecord, task_code, next_step, at_phase, past, over, woken_phase}

-- the hall; how many events were played, which is the number of the next; the name in the hall of the semaphore
-- at each place; the tasks by number; the run queue; the task whose turn it is; how many turns have begun; how many
-- tasks and steps were added; how many tasks, takes and yields were
pub record Machine : Type 0 where
  pub hall : Hall
  pub events : ℕ
  pub semaphores : List ℕ
  pub tasks : List TaskRecord
  pub queue : List ℕ
  pub running : Option ℕ
  pub polls : ℕ
  pub added : ℕ
  pub allowance : ℕ

-- no semaphore, no task, and nothing was played
abbrev pub new_machine : Machine
new_machine = record { hall = empty_hall; events = 0; semaphores = []; tasks = []; queue = []; running = None; polls = 0; added = 0; allowance = 0 }

-- the name in the hall of the semaphore at a place
abbrev pub name_of : Machine → ℕ → ℕ
name_of m s = slice_index m.semaphores s

-- task t is this now
abbrev pub with_task : Machine → ℕ → TaskRecord → Machine
with_task m t x = record m { tasks = slice_set m.tasks t x }

-- the turn is over
abbrev pub stops : Machine → Machine
stops m = record m { running = None }

-- ---- an event

-- task t is woken, if there is one
abbrev pub wake_at : List TaskRecord → ℕ → Option TaskRecord → List TaskRecord
wake_at tasks t None = tasks
wake_at tasks t (Some x) = slice_set tasks t (at_phase x (woken_phase x.phase))

-- these tasks are woken
abbrev pub woken : List TaskRecord → List ℕ → List TaskRecord
woken tasks [] = tasks
woken tasks (t ∷ ts) = woken (wake_at tasks t (slice_get tasks t)) ts

-- an event had this outcome: the tasks that it wakes go to the end of the run queue, in the order of the wakes
abbrev pub played : Machine → Outcome → Machine
played m o = record m { hall = o.hall; events = m.events + 1; tasks = woken m.tasks o.wakes; queue = m.queue ++ o.wakes }

-- the next event is this
abbrev pub outcome_of : Machine → SemEvent → Outcome
outcome_of m e = step m.hall m.events e

-- ---- a step of the running task t

-- it makes a future of n permits, which forgets what it takes
abbrev pub asks : Machine → ℕ → TaskRecord → ℕ → ℕ → Machine
asks m t x s n = with_task (played m (outcome_of m (events.Acqf (name_of m s) n))) t (at_phase x (Asks m.events))

-- the poll of its future had this outcome: it waits, and its turn is over, or the step is over
abbrev pub polled : Machine → ℕ → TaskRecord → ℕ → Outcome → Machine
polled m t x f o = if is_pending o.reply then stops (with_task (played m o) t (at_phase x (Waits f))) else with_task (played m o) t (past x)

-- it takes n permits: it makes a future where it has none, and polls it with its own number
abbrev pub takes : Machine → ℕ → TaskRecord → ℕ → ℕ → Phase → Machine
takes m t x s n (Asks f) = polled m t x f (outcome_of m (events.Poll f t))
takes m t x s n (Woken f) = polled m t x f (outcome_of m (events.Poll f t))
takes m t x s n _ = asks m t x s n

-- its release had this outcome, or has this cause for refusal, and then it has failed
abbrev pub gives : Machine → ℕ → TaskRecord → Option Stop → Outcome → Machine
gives m t x None o = with_task (played m o) t (past x)
gives m t x (Some stop) o = stops (with_task m t (over Failed))

-- it goes to the end of the run queue, and its turn is over
abbrev pub yields : Machine → ℕ → TaskRecord → Machine
yields m t x = record (with_task m t (past x)) { queue = m.queue ++ t ∷ []; running = None }

-- it comes to this step, or has finished
abbrev pub comes_to : Machine → ℕ → TaskRecord → Option Step → Machine
comes_to m t x None = stops (with_task m t (over Finished))
comes_to m t x (Some (Take s n)) = takes m t x s n x.phase
comes_to m t x (Some (Give s n)) = gives m t x (cause_of m.hall (events.Release (name_of m s) n)) (outcome_of m (events.Release (name_of m s) n))
comes_to m t x (Some Yield) = yields m t x

-- ---- moves

-- the first task of the run queue begins its turn
abbrev pub begins : Machine → List ℕ → Machine
begins m [] = m
begins m (t ∷ ts) = record m { queue = ts; running = Some t; polls = m.polls + 1 }

-- the running task t plays the next event of its steps
abbrev pub goes_on : Machine → ℕ → Option TaskRecord → Machine
goes_on m t None = m
goes_on m t (Some x) = comes_to m t x (next_step x)

-- the task whose turn it is goes on; where none has it, the first of the run queue begins
abbrev pub move_by : Machine → Option ℕ → Machine
move_by m None = begins m m.queue
move_by m (Some t) = goes_on m t (slice_get m.tasks t)

-- the task whose turn it is plays the next event of its steps; where no turn is on, the next one begins
unfoldable pub move : Machine → Machine
move m = move_by m m.running

-- so many moves, one after another
abbrev pub moves : ℕ → Machine → Machine
moves zero m = m
moves (suc n) m = moves n (move m)

-- whether nobody has the turn and nobody is in the run queue
abbrev pub rests_by : Option ℕ → List ℕ → Bool
rests_by None [] = true
rests_by None (t ∷ ts) = false
rests_by (Some u) ts = false

-- whether no turn is on and the run queue is empty
abbrev pub is_at_rest : Machine → Bool
is_at_rest m = rests_by m.running m.queue

-- no turn is on, and the run queue is empty: a move changes nothing
pub record IsAtRest (m : Machine) : Type 0 where
  pub queue : m.queue ≡ []
  pub running : m.running ≡ None

-- what lets a `Machine` be the value of a model
abbrev pub machine_code : Coded Machine
machine_code =
    code_by (Hall × (ℕ × (List ℕ × (List TaskRecord × (List ℕ × (Option ℕ × (ℕ × (ℕ × ℕ))))))))
    (coded× hall_code (coded× coded_ℕ (coded× (coded_list coded_ℕ) (coded× (coded_list task_code) (coded× (coded_list coded_ℕ) (coded× (coded_option coded_ℕ) (coded× coded_ℕ (coded× coded_ℕ coded_ℕ))))))))
    (λ m. (m.hall, (m.events, (m.semaphores, (m.tasks, (m.queue, (m.running, (m.polls, (m.added, m.allowance)))))))))
    (λ p. record { hall = p.0; events = p.1.0; semaphores = p.1.1.0; tasks = p.1.1.1.0; queue = p.1.1.1.1.0; running = p.1.1.1.1.1.0; polls = p.1.1.1.1.1.1.0; added = p.1.1.1.1.1.1.1.0; allowance = p.1.1.1.1.1.1.1.1 })
    (λ _. refl)
