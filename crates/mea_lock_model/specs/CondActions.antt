-- what can be done to condition variables by name, each with the mutexes of its waits: why it is refused, and what
-- it does
use Rattle.std.specs.Prelude.{ℕ, ◌==◌, ◌&&◌, ◌++◌, Bool, true, false, cond, Option, Some, None, if◌then◌else◌}
use Rattle.std.specs.FinMap.{get}
use Rattle.mea_family.specs.declared.stop.Stop.{Stop}
use Rattle.mea_family.specs.Causes.{unknown_unless, borrowed_by}
use Rattle.mea_family.specs.Family.{Outcome, is_pending}
use Rattle.mea_by_name.specs.NamedQueue.{Waiting, waits}
use Rattle.mea_family.specs.Play.{found}
use Rattle.mea_lock_model.specs.Locks.{Locks, is_write_guard, is_condvar_future, was_polled}
use Rattle.mea_lock_model.specs.Condvars as condvars
use Rattle.mea_lock_model.specs.Condvars.{Condvars, CondWait, is_condvar, is_wait, waits_of, until_of}
use Rattle.mea_lock_model.specs.Actions.{act_in, Hand, PollUntil, EndWait}
use Rattle.mea_lock_model.specs.LockHall.{LockHall}
pub use Rattle.mea_lock_model.specs.declared.cond_action.CondAction.{CondAction}
pub use Rattle.mea_lock_model.specs.declared.cond_action.CondAction.TheVariants.{Make, Wait, Poll, One, All, End, Drop}

-- why it is refused, with the mutexes of the waits
abbrev pub cause_with : Locks → Condvars → CondAction → Option Stop
cause_with m h Make = None
cause_with m h (Wait c g bound) = unknown_unless (is_condvar h c && is_write_guard m g)
cause_with m h (Poll f w) = unknown_unless (is_wait h f && is_condvar_future m f)
cause_with m h (One c) = unknown_unless (is_condvar h c)
cause_with m h (All c) = unknown_unless (is_condvar h c)
cause_with m h (End f) = unknown_unless (is_wait h f && is_condvar_future m f)
cause_with m h (Drop c) = borrowed_by (is_condvar h c) (waits_of h c)

-- the same in a hall
abbrev pub cause_on : LockHall → CondAction → Option Stop
cause_on h a = cause_with h.mutexes h.condvars a

-- what was done to the condition variables alone
abbrev pub on_condvars : LockHall → Outcome Condvars → Outcome LockHall
on_condvars h o = record { hall = record h { condvars = o.hall }; reply = o.reply; wakes = o.wakes }

-- what was done to the mutexes, and then to the condition variables; the reply is that of the mutexes
abbrev pub on_both : LockHall → Outcome Locks → Outcome Condvars → Outcome LockHall
on_both h o p = record { hall = record h { mutexes = o.hall; condvars = p.hall }; reply = o.reply; wakes = o.wakes ++ p.wakes }

-- what a poll of the future at its mutex means for the wait f: it is over, or asks for the lock, or waits to be
-- notified
abbrev pub told_by : Outcome Locks → Condvars → ℕ → ℕ → CondWait → Waiting → Outcome Condvars
told_by o h f w x q =
    if is_pending o.reply then (if was_polled (get o.hall.futures f) then condvars.asks h f x else condvars.lists h f w x q)
    else condvars.is_over h f

-- a poll of one that waits replaces its waker; of another, it asks its mutex
abbrev pub poll_wait : LockHall → ℕ → ℕ → ℕ → CondWait → Waiting → Outcome LockHall
poll_wait h i f w x q =
    if waits q f then on_condvars h (condvars.waits_on h.condvars f w x q)
    else on_both h (act_in h.mutexes i (PollUntil f w (until_of x))) (told_by (act_in h.mutexes i (PollUntil f w (until_of x))) h.condvars f w x q)

-- what is done under number i
abbrev pub act_on : LockHall → ℕ → CondAction → Outcome LockHall
act_on h i Make = on_condvars h (condvars.make h.condvars i)
act_on h i (Wait c g bound) = on_both h (act_in h.mutexes i (Hand g)) (condvars.begin h.condvars i c bound)
act_on h i (Poll f w) = found (get h.condvars.waits f) h (λ x. found (get h.condvars.condvars x.condvar) h (poll_wait h i f w x))
act_on h i (One c) = found (get h.condvars.condvars c) h (λ q. on_condvars h (condvars.notify_one h.condvars c q))
act_on h i (All c) = found (get h.condvars.condvars c) h (λ q. on_condvars h (condvars.notify_all h.condvars c q))
act_on h i (End f) = found (get h.condvars.waits f) h (λ x. found (get h.condvars.condvars x.condvar) h (λ q.
    on_both h (act_in h.mutexes i (EndWait f)) (condvars.end_wait h.condvars f x q)))
act_on h i (Drop c) = found (get h.condvars.condvars c) h (λ q. on_condvars h (condvars.drop h.condvars c))

-- the waker with which f is polled, if it is
abbrev pub polled_on : CondAction → ℕ → Option ℕ
polled_on (Poll g w) f = cond (g == f) (Some w) None
polled_on _ f = None

-- whether f is ended
abbrev pub ends_on : CondAction → ℕ → Bool
ends_on (End k) f = k == f
ends_on _ f = false

-- whether a waker may be registered
abbrev pub registers_on : CondAction → Bool
registers_on (Poll f w) = true
registers_on _ = false
