-- locks and condition variables as one of the families
use Rattle.std.specs.Prelude.{ℕ, ◌&&◌, Bool, false, Option, Some, None, if◌then◌else◌}
use Rattle.std.specs.FinMap.{get}
use Rattle.mea_family.specs.Family.{Family}
use Rattle.mea_by_name.specs.NamedQueue as named_queue
use Rattle.mea_by_name.specs.NamedQueue.{waker_for}
use Rattle.mea_events.specs.declared.lock_event.LockEvent.{LockEvent}
use Rattle.mea_lock_model.specs.Locks as locks
use Rattle.mea_lock_model.specs.Locks.{is_lock_future, is_condvar_future}
use Rattle.mea_lock_model.specs.Condvars.{CondWait, is_wait, queue_of}
use Rattle.mea_lock_model.specs.Actions.{polled_in, ends_in}
use Rattle.mea_lock_model.specs.CondActions.{polled_on, ends_on}
use Rattle.mea_lock_model.specs.LockHall.{LockHall, Kind, Mutexes, RwLocks, empty_hall, part}
use Rattle.mea_lock_model.specs.Meaning.{Meaning, OnLocks, OnCondvars, meaning_of, cause_of, step}

-- whose a future is: of the locks of a kind, or a wait on a condition variable
pub data Sort : Type 0 where
  Of : Kind → Sort
  Waits : Sort

-- a future, by its sort and its name
pub record Future : Type 0 where
  pub sort : Sort
  pub name : ℕ

-- the waker with which a future of this sort is polled by what a line means, if it is
abbrev pub polled_by : Meaning → Sort → ℕ → Option ℕ
polled_by (OnLocks Mutexes a) (Of Mutexes) f = polled_in a f
polled_by (OnLocks RwLocks a) (Of RwLocks) f = polled_in a f
polled_by (OnCondvars a) Waits f = polled_on a f
polled_by _ _ f = None

-- the waker with which an event polls a future, if it does
abbrev pub polled : LockEvent → Future → Option ℕ
polled e f = polled_by (meaning_of e) f.sort f.name

-- whether a future of this sort ends by what a line means
abbrev pub ends_by : Meaning → Sort → ℕ → Bool
ends_by (OnLocks Mutexes a) (Of Mutexes) f = ends_in a f
ends_by (OnLocks RwLocks a) (Of RwLocks) f = ends_in a f
ends_by (OnCondvars a) Waits f = ends_on a f
ends_by _ _ f = false

-- whether an event ends a future
abbrev pub ends : LockEvent → Future → Bool
ends e f = ends_by (meaning_of e) f.sort f.name

-- whether f is a future of this sort
abbrev pub lives_as : LockHall → Sort → ℕ → Bool
lives_as h (Of k) f = is_lock_future (part h k) f
lives_as h Waits f = is_wait h.condvars f && is_condvar_future h.mutexes f

-- whether a future is there
abbrev pub lives : LockHall → Future → Bool
lives h f = lives_as h f.sort f.name

-- the waker that is kept for a wait: while it is listed at its condition variable, and else at its mutex
abbrev pub placed_for : LockHall → ℕ → Option CondWait → Option ℕ
placed_for h f None = None
placed_for h f (Some x) = if x.listed then waker_for (named_queue.queue_of queue_of (get h.condvars.condvars x.condvar)) f else locks.placed h.mutexes f

-- the waker that is kept for f, a future of this sort
abbrev pub placed_as : LockHall → Sort → ℕ → Option ℕ
placed_as h (Of k) f = locks.placed (part h k) f
placed_as h Waits f = placed_for h f (get h.condvars.waits f)

-- the waker that is kept for a future
abbrev pub placed : LockHall → Future → Option ℕ
placed h f = placed_as h f.sort f.name

-- the family: what the laws of all families are told of locks and condition variables
abbrev pub locks_family : Family
locks_family = record { Hall = LockHall; Event = LockEvent; Future = Future; empty = empty_hall; cause = cause_of; step = step; polled = polled; ends = ends; name = λ f. f.name; lives = lives; placed = placed }
