-- what can be done to locks by name, of whichever kind: why it is refused, and what it does
use Rattle.std.specs.Prelude.{ℕ, ◌==◌, Bool, true, false, cond, Option, Some, None, if◌then◌else◌}
use Rattle.std.specs.FinMap.{get}
use Rattle.mea_family.specs.declared.stop.Stop.{Stop}
use Rattle.mea_family.specs.declared.stop.Stop.TheVariants as stops
use Rattle.mea_family.specs.Causes.{unknown_unless, borrowed_by}
use Rattle.mea_family.specs.Family.{Outcome}
use Rattle.mea_family.specs.Play.{found}
use Rattle.mea_lock_model.specs.Locks as locks
use Rattle.mea_lock_model.specs.Locks.{Locks, Until, is_named, is_future, is_lock_future, is_condvar_future, is_guard, is_write_guard, things_of, plain_of}

-- what is done to a lock, or by what is of one
pub data Action : Type 0 where
  -- a lock with this value, and so many permits
  Make : ℕ → ℕ → Action
  -- a future of the lock: whether it is plain, and whether it is to write
  Begin : ℕ → Bool → Bool → Action
  -- a future is polled with a waker
  Poll : ℕ → ℕ → Action
  -- a guard of the lock, where its permits are free: whether it is plain, and whether it writes
  Try : ℕ → Bool → Bool → Action
  -- a guard tells the value, writes it, or writes no more but reads
  Get : ℕ → Action
  Set : ℕ → ℕ → Action
  Lower : ℕ → Action
  -- a future or a guard ends
  End : ℕ → Action
  -- the value of a lock that has nothing is told, written, or taken out
  Peek : ℕ → Action
  Put : ℕ → ℕ → Action
  Take : ℕ → Action
  -- a lock loses its name
  Drop : ℕ → Action
  -- a guard goes into a wait on a condition variable; the future of such a wait is polled with a waker, and ends
  Hand : ℕ → Action
  PollUntil : ℕ → ℕ → Until → Action
  EndWait : ℕ → Action

-- why an action is refused; none where it is not
abbrev pub cause_in : Locks → Action → Option Stop
cause_in h (Make v most) = if most == 0 then Some stops.Zero else None
cause_in h (Begin o plain writes) = unknown_unless (is_named h o)
cause_in h (Poll f w) = unknown_unless (is_lock_future h f)
cause_in h (Try o plain writes) = unknown_unless (is_named h o)
cause_in h (Get g) = unknown_unless (is_guard h g)
cause_in h (Set g v) = unknown_unless (is_write_guard h g)
cause_in h (Lower g) = unknown_unless (is_write_guard h g)
cause_in h (End x) = unknown_unless (if is_future h x then is_lock_future h x else is_guard h x)
cause_in h (Peek o) = borrowed_by (is_named h o) (things_of h o)
cause_in h (Put o v) = borrowed_by (is_named h o) (things_of h o)
cause_in h (Take o) = borrowed_by (is_named h o) (things_of h o)
cause_in h (Drop o) = borrowed_by (is_named h o) (plain_of h o)
cause_in h (Hand g) = unknown_unless (is_write_guard h g)
cause_in h (PollUntil f w until) = unknown_unless (is_condvar_future h f)
cause_in h (EndWait f) = unknown_unless (is_condvar_future h f)

-- whether it is done to the future of a wait, and so never by a line of a lock
abbrev pub is_of_wait : Action → Bool
is_of_wait (Hand g) = true
is_of_wait (PollUntil f w until) = true
is_of_wait (EndWait f) = true
is_of_wait _ = false

-- what is done under number i
abbrev pub act_in : Locks → ℕ → Action → Outcome Locks
act_in h i (Make v most) = locks.make h i v most
act_in h i (Begin o plain writes) = locks.begin h i o plain writes
act_in h i (Poll f w) = found (get h.futures f) h (λ x. found (get h.locks x.lock) h (locks.poll h i f w x))
act_in h i (Try o plain writes) = found (get h.locks o) h (locks.try h i o plain writes)
act_in h i (Get g) = found (get h.guards g) h (λ x. found (get h.locks x.lock) h (locks.tell h))
act_in h i (Set g v) = found (get h.guards g) h (λ x. found (get h.locks x.lock) h (locks.write h x.lock v))
act_in h i (Lower g) = found (get h.guards g) h (λ x. found (get h.locks x.lock) h (locks.lower h g x))
act_in h i (End k) = locks.end_by h k (get h.futures k)
act_in h i (Peek o) = found (get h.locks o) h (locks.tell h)
act_in h i (Put o v) = found (get h.locks o) h (locks.write h o v)
act_in h i (Take o) = found (get h.locks o) h (locks.take_out h o)
act_in h i (Drop o) = found (get h.locks o) h (locks.drop h o)
act_in h i (Hand g) = found (get h.guards g) h (λ x. found (get h.locks x.lock) h (λ r. locks.hand h i g x))
act_in h i (PollUntil f w until) = found (get h.futures f) h (λ x. found (get h.locks x.lock) h (locks.poll_until h i f w until x))
act_in h i (EndWait f) = found (get h.futures f) h (λ x. locks.end_at h f x (get h.locks x.lock))

-- the waker with which f is polled, if it is
abbrev pub polled_in : Action → ℕ → Option ℕ
polled_in (Poll g w) f = cond (g == f) (Some w) None
polled_in (PollUntil g w until) f = cond (g == f) (Some w) None
polled_in _ f = None

-- whether f is ended
abbrev pub ends_in : Action → ℕ → Bool
ends_in (End k) f = k == f
ends_in (EndWait k) f = k == f
ends_in _ f = false

-- whether a waker may be registered
abbrev pub registers_in : Action → Bool
registers_in (Poll f w) = true
registers_in (PollUntil f w until) = true
registers_in _ = false
