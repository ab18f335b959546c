-- the locks of all kinds and the condition variables, and what an event does to them
use Rattle.std.specs.Prelude.{ℕ, ◌≡◌, ◌≤◌, ◌+◌, ◌++◌, List, None, Result, Ok, Err}
use Rattle.mea_family.specs.declared.answer.Answer.{Answer}
use Rattle.mea_family.specs.declared.stop.Stop.{Stop}
use Rattle.mea_base.specs.Ready.{Waking}
use Rattle.mea_family.specs.Play.{Part, PartYields}
use Rattle.mea_family.specs.Acts as acts
use Rattle.mea_family.specs.Acts.{Refuses}
use Rattle.mea_events.specs.declared.lock_event.LockEvent.{LockEvent}
use Rattle.mea_lock_model.specs.Locks as locks
use Rattle.mea_lock_model.specs.Locks.{Locks}
use Rattle.mea_lock_model.specs.Condvars as condvars
use Rattle.mea_lock_model.specs.Condvars.{Condvars}
use Rattle.mea_lock_model.specs.Actions.{Action, Make, Begin, Poll, Try, Hand, PollUntil, act_in}
use Rattle.mea_lock_model.specs.declared.cond_action.CondAction.TheVariants as on
use Rattle.mea_lock_model.specs.declared.cond_action.CondAction.{CondAction}
use Rattle.mea_lock_model.specs.CondActions.{cause_with, act_on}
use Rattle.mea_lock_model.specs.LockHall.{LockHall, Mutexes, RwLocks}
use Rattle.mea_lock_model.specs.Meaning.{Meaning, OnLocks, OnCondvars, meaning_of, cause_at, cause_by}

abbrev pub hall_of : Part Locks → Part Locks → Part Condvars → LockHall
hall_of m l v = record { mutexes = m.hall; rw_locks = l.hall; condvars = v.hall }

-- no next number is above n
pub record AreBelow (m l : Part Locks) (v : Part Condvars) (n : ℕ) : Type 0 where
  pub mutexes : m.next ≤ n
  pub rw_locks : l.next ≤ n
  pub condvars : v.next ≤ n

-- event number i did this to the locks of one kind, and nothing to those of the other and to condition variables
pub record PlaysOne (old other : Part Locks) (v : Part Condvars) (i : ℕ) (a : Action) (answer : Answer) (new other' : Part Locks) (v' : Part Condvars) (before after : Waking ℕ) : Type 0 where
  pub yields : PartYields locks.registered old i (act_in old.hall i a) answer new before after
  pub same : other' ≡ other
  pub still : v' ≡ v

-- event number i did this to condition variables and to the mutexes of their waits, whatever the reader-writer locks are
pub record PlaysWaits (m : Part Locks) (v : Part Condvars) (i : ℕ) (a : CondAction) (answer : Answer) (m' : Part Locks) (v' : Part Condvars) (before after : Waking ℕ) : Type 0 where
  pub wakes : List ℕ
  pub moved : (l : Part Locks) → act_on (hall_of m l v) i a ≡ record { hall = hall_of m' l v'; reply = answer; wakes = wakes }
  pub woken : after.wakers ≡ before.wakers ++ wakes
  pub counted : after.registered + (locks.registered m.hall + condvars.registered v.hall) ≡ before.registered + (locks.registered m'.hall + condvars.registered v'.hall)
  pub next : (m'.next ≤ i + 1) × (v'.next ≤ i + 1)

-- what a line means was done
abbrev pub PlaysBy : Meaning → Part Locks → Part Locks → Part Condvars → ℕ → Answer → Part Locks → Part Locks → Part Condvars → Waking ℕ → Waking ℕ → Type 0
PlaysBy (OnLocks Mutexes a) m l v i answer m' l' v' before after = PlaysOne m l v i a answer m' l' v' before after
PlaysBy (OnLocks RwLocks a) m l v i answer m' l' v' before after = PlaysOne l m v i a answer l' m' v' before after
PlaysBy (OnCondvars a) m l v i answer m' l' v' before after = PlaysWaits m v i a answer m' v' before after × (l' ≡ l)

-- ---- what an action comes to
-- the actions that take no memory
abbrev pub IsFree : Action → Type 0
IsFree (Make v most) = ⊥
IsFree (Begin o plain writes) = ⊥
IsFree (Poll f w) = ⊥
IsFree (Try o plain writes) = ⊥
IsFree (Hand g) = ⊥
IsFree (PollUntil f w until) = ⊥
IsFree _ = Unit {0}

abbrev pub IsFreeOn : CondAction → Type 0
IsFreeOn on.Make = ⊥
IsFreeOn (on.Wait c g bound) = ⊥
IsFreeOn (on.Poll f w) = ⊥
IsFreeOn _ = Unit {0}

abbrev pub IsFreeBy : Meaning → Type 0
IsFreeBy (OnLocks k a) = IsFree a
IsFreeBy (OnCondvars a) = IsFreeOn a

-- the events that take no memory
abbrev pub TakesNoMemory : LockEvent → Type 0
TakesNoMemory e = IsFreeBy (meaning_of e)

-- event number i asked this of the locks of one kind: it was done; or refused, and nothing has changed
abbrev pub Acts : Part Locks → ℕ → Action → Result Answer Stop → Part Locks → Waking ℕ → Waking ℕ → Type 0
Acts old i a = acts.Acts locks.registered (cause_at old.hall a) (IsFree a) old i (act_in old.hall i a)

-- and no waker was made ready
abbrev pub ActsQuietly : Part Locks → ℕ → Action → Result Answer Stop → Part Locks → Type 0
ActsQuietly old i a = acts.ActsQuietly locks.registered (cause_at old.hall a) (IsFree a) old i (act_in old.hall i a)

-- it asked this of condition variables and of the mutexes of their waits
abbrev pub ActsOn : Part Locks → Part Condvars → ℕ → CondAction → Result Answer Stop → Part Locks → Part Condvars → Waking ℕ → Waking ℕ → Type 0
ActsOn m v i a (Ok answer) m' v' before after = (cause_with m.hall v.hall a ≡ None) × PlaysWaits m v i a answer m' v' before after
ActsOn m v i a (Err stop) m' v' before after = Refuses (cause_with m.hall v.hall a) (IsFreeOn a) stop × (m' ≡ m) × (v' ≡ v) × (after ≡ before)

-- it asked what a line means
abbrev pub ActsBy : Meaning → Part Locks → Part Locks → Part Condvars → ℕ → Result Answer Stop → Part Locks → Part Locks → Part Condvars → Waking ℕ → Waking ℕ → Type 0
ActsBy d m l v i (Ok answer) m' l' v' before after = (cause_by (hall_of m l v) d ≡ None) × PlaysBy d m l v i answer m' l' v' before after
ActsBy d m l v i (Err stop) m' l' v' before after = Refuses (cause_by (hall_of m l v) d) (IsFreeBy d) stop × (m' ≡ m) × (l' ≡ l) × (v' ≡ v) × (after ≡ before)
