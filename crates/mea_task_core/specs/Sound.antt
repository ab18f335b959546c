-- what holds of every machine that calls reach
use Rattle.std.specs.Prelude.{ℕ, ◌≡◌, ◌+◌, ◌*◌, ◌^◌, ◌<◌, ◌≤◌, ◌==◌, Bool, true, false, cond, List, Option, Some, None, length, slice_get, slice_index}
use Rattle.std.specs.List.{sum_by}
use Rattle.std.specs.Ordering.{nat_cmp}
use Rattle.std.specs.FinMap as map
use Rattle.mea_sem_model.specs.Hall.{Hall, Semaphore, Future, FutureStage, New, Waiting, Granted}
use Rattle.mea_sem_model.specs.Valid.{IsValid, IsBelow}
use Rattle.mea_task_core.specs.declared.step.Step.{Step}
use Rattle.mea_task_core.specs.declared.step.Step.TheVariants.{Take, Give, Yield}
use Rattle.mea_task_core.specs.declared.phase.Phase.{Phase}
use Rattle.mea_task_core.specs.declared.phase.Phase.TheVariants.{Queued, Asks, Waits, Woken, Finished, Failed}
use Rattle.mea_task_core.specs.Task.{TaskRecord, next_step, is_active, future_in}
use Rattle.mea_task_core.specs.Machine.{Machine}
use Rattle.mea_task_core.specs.Bounds.{turns_left, one_if_on, work}

-- ---- the hall

-- s is named and open
pub record IsOpen (h : Hall) (s : ℕ) : Type 0 where
  pub there : Semaphore
  pub is : map.get h.semaphores s ≡ Some there
  pub named : there.named ≡ true
  pub is_open : there.closed ≡ false

-- the hall is valid, all that it has was made by an event that was played, and each of these semaphores is open
pub record IsSoundHall (h : Hall) (events : ℕ) (names : List ℕ) : Type 0 where
  pub valid : IsValid h
  pub below : IsBelow h events
  pub each_open : (k : ℕ) → k < length names → IsOpen h (slice_index names k)

-- ---- tasks and their futures

-- how often t stands among these
abbrev pub times : ℕ → List ℕ → ℕ
times t ts = sum_by {X = ℕ} (λ u. cond (u == t) 1 0) ts

-- 1 where it is t, and else 0
abbrev pub one_if_is : Option ℕ → ℕ → ℕ
one_if_is None t = 0
one_if_is (Some u) t = cond (u == t) 1 0

-- how often t stands in the run queue, or runs
abbrev pub times_due : Machine → ℕ → ℕ
times_due m t = one_if_is m.running t + times t m.queue

-- the future of a take of n permits of s
abbrev pub future_of : ℕ → ℕ → FutureStage → Future
future_of s n stage = record { semaphore = s; demand = n; plain = true; forgets = true; stage = stage }

-- the future f of a task is that of the take that it comes to next, and has this stage
pub record IsFutureOf (futures : map.FinMap nat_cmp Future) (names : List ℕ) (x : TaskRecord) (f : ℕ) (stage : FutureStage) : Type 0 where
  pub place : ℕ
  pub demand : ℕ
  pub next : next_step x ≡ Some (Take place demand)
  pub known : place < length names
  pub is : map.get futures f ≡ Some (future_of (slice_index names place) demand stage)

-- what task t has in the hall at this phase
abbrev pub Has : map.FinMap nat_cmp Future → List ℕ → ℕ → TaskRecord → Phase → Type 0
Has futures names t x Queued = Unit {0}
Has futures names t x (Asks f) = IsFutureOf futures names x f New
Has futures names t x (Waits f) = IsFutureOf futures names x f (Waiting t)
Has futures names t x (Woken f) = IsFutureOf futures names x f Granted
Has futures names t x Finished = Unit {0}
Has futures names t x Failed = Unit {0}

-- 1 where this is so, and else 0
abbrev pub one_if : Bool → ℕ
one_if b = cond b 1 0

-- the semaphore that a step means is there
abbrev pub IsKnown : ℕ → Step → Type 0
IsKnown count (Take s n) = s < count
IsKnown count (Give s n) = s < count
IsKnown count Yield = Unit {0}

-- tasks and futures go together, where t stands in the run queue, or runs, so many times
pub record AreLinked (futures : map.FinMap nat_cmp Future) (names : List ℕ) (tasks : List TaskRecord) (due : ℕ → ℕ) : Type 0 where
  -- each task that is neither over nor waits is due once, and no other
  pub counted : (t : ℕ) (x : TaskRecord) → slice_get tasks t ≡ Some x → due t ≡ one_if (is_active x.phase)
  pub beyond : (t : ℕ) → slice_get tasks t ≡ None → due t ≡ 0
  pub has : (t : ℕ) (x : TaskRecord) → slice_get tasks t ≡ Some x → Has futures names t x x.phase
  -- whoever waits in the hall is the future of a task that waits, and its waker is that task
  pub waits : (f w : ℕ) (y : Future) → map.get futures f ≡ Some y → y.stage ≡ Waiting w → (x : TaskRecord) × (slice_get tasks w ≡ Some x) × (x.phase ≡ Waits f)
  -- no two tasks have one future
  pub apart : (t u f : ℕ) (x y : TaskRecord) → slice_get tasks t ≡ Some x → slice_get tasks u ≡ Some y → future_in x.phase ≡ Some f → future_in y.phase ≡ Some f → t ≡ u
  pub known : (t k : ℕ) (x : TaskRecord) (s : Step) → slice_get tasks t ≡ Some x → slice_get x.steps k ≡ Some s → IsKnown (length names) s

-- ---- numbers

-- the counts stay far below what a number holds: tasks and steps that were added, turns, events and moves
pub record IsBounded (m : Machine) : Type 0 where
  pub size : m.added ≤ 2 ^ 60
  pub turns : m.allowance ≤ m.added
  pub room : m.events + work m ≤ 2 ^ 62 + (4 * m.added + 1)
  pub low : work m ≤ 4 * m.added + 1
  pub few : m.polls + sum_by turns_left m.tasks ≤ m.allowance + one_if_on m.running

-- what holds of every machine that calls reach: of its hall, of its tasks and their futures, and of its counts
pub record IsSound (m : Machine) : Type 0 where
  pub hall : IsSoundHall m.hall m.events m.semaphores
  pub linked : AreLinked m.hall.futures m.semaphores m.tasks (times_due m)
  pub bounded : IsBounded m
