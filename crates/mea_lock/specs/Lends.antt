-- the lock and the condition variable that a hall lends
use Rattle.std.specs.Prelude.{ℕ, ◌≡◌, ◌+◌, ◌*◌, ◌&&◌, Bool, true, false, not, cond, Some}
use Rattle.std.specs.FinMap.{get, len}
use Rattle.mea_base.specs.Totals.{total}
use Rattle.mea_by_name.specs.ByName.{own}
use Rattle.mea_by_name.specs.NamedQueue.{Waiting, waits}
use Rattle.mea_sem_core.specs.Core.{held_of}
use Rattle.mea_lock_model.specs.Locks.{Lock, LockFuture, LockGuard, Locks, waiting_at}
use Rattle.mea_lock_model.specs.Valid.{held_by}
use Rattle.mea_cores_by_name.specs.Linked.{names_in}
use Rattle.mea_by_name.specs.declared.named_waker.NamedWaker.{NamedWaker}
use Rattle.mea_lock_core.specs.Condvar.{Condvar}
use Rattle.mea_lock_model.specs.Condvars.{CondWait, Condvars}
use Rattle.mea_lock.specs.Cores.{NamedLock}
use Rattle.mea_lock.specs.CondEntries.{listed_in}

-- the record of a lock that is named: the same value, as many permits and free ones, and the same who wait, with what each
-- lacks
abbrev pub named_record : NamedLock → Lock
named_record l = record { value = l.value; most = l.most; free = l.permits.free; queue = names_in l.permits.queue; named = true }

-- a future that was polled and waits no more has its permits
abbrev pub has_permits : Lock → ℕ → LockFuture → Bool
has_permits r f x = x.polled && not (waits (waiting_at r) f)

-- how many futures of a lock have their permits
abbrev pub futures_with : Locks → ℕ → Lock → ℕ
futures_with h o r = total (λ f (x : LockFuture). cond (has_permits r f x) 1 0) (own (λ (x : LockFuture). x.lock) o h.futures)

-- no future of a wait on a condition variable is of this lock
abbrev pub HasNoWait : Locks → ℕ → Type 0
HasNoWait h o = (f : ℕ) (x : LockFuture) → get h.futures f ≡ Some x → x.lock ≡ o → x.of_condvar ≡ false

-- each future that has its permits was granted them, but for those of waits on condition variables that hold the lock
pub record HasGranted (h : Locks) (o : ℕ) (l : NamedLock) : Type 0 where
  -- how many hold it
  pub holders : ℕ
  pub none : HasNoWait h o → holders ≡ 0
  -- each of them has all permits
  pub held : held_of l.permits ≡ held_by (named_record l) (own (λ (x : LockGuard). x.lock) o h.guards) + holders * l.most
  -- as many numbers are granted as others have their permits
  pub granted : futures_with h o (named_record l) ≡ len l.permits.granted + holders

-- a core stands for the record and the guards of its lock
pub record StandsFor (h : Locks) (o : ℕ) (l : NamedLock) : Type 0 where
  pub seen : get h.locks o ≡ Some (named_record l)
  -- a guard writes exactly where a write is held
  pub writing : (g : ℕ) (x : LockGuard) → get h.guards g ≡ Some x → x.lock ≡ o → l.writing ≡ x.writes
  -- its guards hold what is held, where it has no future of a wait on a condition variable, as no reader-writer lock has one
  pub held : HasNoWait h o → held_of l.permits ≡ held_by (named_record l) (own (λ (x : LockGuard). x.lock) o h.guards)
  -- so many of its futures were granted it and not polled since
  pub granted : HasGranted h o l

-- a wait that is listed and waits no more was notified, and not polled since
abbrev pub is_notified : Waiting → ℕ → CondWait → Bool
is_notified q f x = x.listed && not (waits q f)

-- such a wait counts by whether it was notified alone
abbrev pub counted_by : (Bool → ℕ) → Waiting → ℕ → CondWait → ℕ
counted_by counts q f x = cond (is_notified q f x) (counts x.alone) 0

-- what those of a condition variable count together
abbrev pub notified_by : (Bool → ℕ) → Condvars → ℕ → Waiting → ℕ
notified_by counts h c q = total (λ f x. counted_by counts q f x) (own (λ (x : CondWait). x.condvar) c h.waits)

-- a core stands for the list and the waits of its condition variable
pub record ListsAs (h : Condvars) (c : ℕ) (s : Condvar NamedWaker) : Type 0 where
  -- the same who wait, in the same order
  pub waiting : get h.condvars c ≡ Some (listed_in s.waiting)
  -- as many numbers were notified as waits were, and as many of them alone
  pub notified : len s.notified ≡ notified_by (λ by_one. 1) h c (listed_in s.waiting)
  pub alone : total (λ n (by_one : Bool). cond by_one 1 0) s.notified ≡ notified_by (λ by_one. cond by_one 1 0) h c (listed_in s.waiting)
