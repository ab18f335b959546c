-- what each line does, and to locks of which kind or to condition variables
use Rattle.std.specs.Prelude.{ℕ, Bool, true, false, Option, Some, None, if◌then◌else◌}
use Rattle.mea_family.specs.declared.stop.Stop.{Stop}
use Rattle.mea_family.specs.declared.stop.Stop.TheVariants as stops
use Rattle.mea_family.specs.Family.{Outcome}
use Rattle.mea_events.specs.declared.lock_event.LockEvent.{LockEvent}
use Rattle.mea_events.specs.declared.lock_event.LockEvent.TheVariants.{MxNew, MxLock, MxLocko, MxPoll, MxTry, MxTryo, MxGet, MxSet, MxEnd, MxPeek, MxPut, MxInto, MxDrop, RwNew, RwMax, RwRead, RwReado, RwWrite, RwWriteo, RwPoll, RwTryr, RwTryro, RwTryw, RwTrywo, RwGet, RwSet, RwDown, RwEnd, RwPeek, RwPut, RwInto, RwDrop, CvNew, CvWait, CvWaitw, CvPoll, CvOne, CvAll, CvEnd, CvDrop}
use Rattle.mea_lock_model.specs.Locks.{Locks}
use Rattle.mea_lock_model.specs.Actions.{Action, Make, Begin, Poll, Try, Get, Set, Lower, End, Peek, Put, Take, Drop, is_of_wait, cause_in, act_in, registers_in}
use Rattle.mea_lock_model.specs.CondActions as on_condvars
use Rattle.mea_lock_model.specs.CondActions.{CondAction, cause_on, act_on, registers_on}
use Rattle.mea_lock_model.specs.LockHall.{LockHall, Kind, Mutexes, RwLocks, part, with_part}

-- the most that may read where no number is given
abbrev pub most_readers : ℕ
most_readers = 9223372036854775807

-- what a line does: something to locks of a kind, or to condition variables
pub data Meaning : Type 0 where
  OnLocks : Kind → Action → Meaning
  OnCondvars : CondAction → Meaning

-- a mutex has one permit, and its futures and guards write
abbrev pub meaning_of : LockEvent → Meaning
meaning_of (MxNew v) = OnLocks Mutexes (Make v 1)
meaning_of (MxLock m) = OnLocks Mutexes (Begin m true true)
meaning_of (MxLocko m) = OnLocks Mutexes (Begin m false true)
meaning_of (MxPoll f w) = OnLocks Mutexes (Poll f w)
meaning_of (MxTry m) = OnLocks Mutexes (Try m true true)
meaning_of (MxTryo m) = OnLocks Mutexes (Try m false true)
meaning_of (MxGet g) = OnLocks Mutexes (Get g)
meaning_of (MxSet g v) = OnLocks Mutexes (Set g v)
meaning_of (MxEnd x) = OnLocks Mutexes (End x)
meaning_of (MxPeek m) = OnLocks Mutexes (Peek m)
meaning_of (MxPut m v) = OnLocks Mutexes (Put m v)
meaning_of (MxInto m) = OnLocks Mutexes (Take m)
meaning_of (MxDrop m) = OnLocks Mutexes (Drop m)
meaning_of (RwNew v) = OnLocks RwLocks (Make v most_readers)
meaning_of (RwMax v n) = OnLocks RwLocks (Make v n)
meaning_of (RwRead l) = OnLocks RwLocks (Begin l true false)
meaning_of (RwReado l) = OnLocks RwLocks (Begin l false false)
meaning_of (RwWrite l) = OnLocks RwLocks (Begin l true true)
meaning_of (RwWriteo l) = OnLocks RwLocks (Begin l false true)
meaning_of (RwPoll f w) = OnLocks RwLocks (Poll f w)
meaning_of (RwTryr l) = OnLocks RwLocks (Try l true false)
meaning_of (RwTryro l) = OnLocks RwLocks (Try l false false)
meaning_of (RwTryw l) = OnLocks RwLocks (Try l true true)
meaning_of (RwTrywo l) = OnLocks RwLocks (Try l false true)
meaning_of (RwGet g) = OnLocks RwLocks (Get g)
meaning_of (RwSet g v) = OnLocks RwLocks (Set g v)
meaning_of (RwDown g) = OnLocks RwLocks (Lower g)
meaning_of (RwEnd x) = OnLocks RwLocks (End x)
meaning_of (RwPeek l) = OnLocks RwLocks (Peek l)
meaning_of (RwPut l v) = OnLocks RwLocks (Put l v)
meaning_of (RwInto l) = OnLocks RwLocks (Take l)
meaning_of (RwDrop l) = OnLocks RwLocks (Drop l)
meaning_of CvNew = OnCondvars on_condvars.Make
meaning_of (CvWait c g) = OnCondvars (on_condvars.Wait c g None)
meaning_of (CvWaitw c g v) = OnCondvars (on_condvars.Wait c g (Some v))
meaning_of (CvPoll f w) = OnCondvars (on_condvars.Poll f w)
meaning_of (CvOne c) = OnCondvars (on_condvars.One c)
meaning_of (CvAll c) = OnCondvars (on_condvars.All c)
meaning_of (CvEnd f) = OnCondvars (on_condvars.End f)
meaning_of (CvDrop c) = OnCondvars (on_condvars.Drop c)

-- the hall after what was done to the locks of one kind
abbrev pub within : LockHall → Kind → Outcome Locks → Outcome LockHall
within h k o = record { hall = with_part h k o.hall; reply = o.reply; wakes = o.wakes }

-- why what a line does to locks is refused: what is done to the future of a wait is no line's
abbrev pub cause_at : Locks → Action → Option Stop
cause_at h a = if is_of_wait a then Some stops.Unknown else cause_in h a

-- why what a line means is refused; none where it is not
abbrev pub cause_by : LockHall → Meaning → Option Stop
cause_by h (OnLocks k a) = cause_at (part h k) a
cause_by h (OnCondvars a) = cause_on h a

-- why a line is refused; none where it is not
abbrev pub cause_of : LockHall → LockEvent → Option Stop
cause_of h e = cause_by h (meaning_of e)

-- what follows where what a line means is done under number i
abbrev pub step_by : LockHall → ℕ → Meaning → Outcome LockHall
step_by h i (OnLocks k a) = within h k (act_in (part h k) i a)
step_by h i (OnCondvars a) = act_on h i a

-- what follows where line i is played
abbrev pub step : LockHall → ℕ → LockEvent → Outcome LockHall
step h i e = step_by h i (meaning_of e)

-- whether what a line means can register a waker
abbrev pub registers_by : Meaning → Bool
registers_by (OnLocks k a) = registers_in a
registers_by (OnCondvars a) = registers_on a

-- whether an event can register a waker; a poll alone can
abbrev pub registers : LockEvent → Bool
registers e = registers_by (meaning_of e)
