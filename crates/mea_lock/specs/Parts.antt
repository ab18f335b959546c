-- the locks of one kind as the hall keeps them: what is seen of them, and what they keep to
use Rattle.std.specs.Prelude.{ℕ, ◌≡◌, ◌+◌, ◌||◌, true, false, cond, [], Some}
use Rattle.std.specs.FinMap.{get, len}
use Rattle.mea_base.specs.Totals.{total}
use Rattle.mea_by_name.specs.ByName.{Names, seen, count}
use Rattle.mea_by_name.specs.HallKept.{HallKept}
use Rattle.mea_sem_core.specs.Acquire.{demand_of}
use Rattle.mea_sem_core.specs.Core.{held_of}
use Rattle.mea_sem_core.specs.declared.acquire.Acquire.{Acquire}
use Rattle.mea_sem_core.specs.declared.acquire.Acquire.TheVariants.{New}
use Rattle.mea_lock_core.specs.Lock.{permits_of}
use Rattle.mea_lock_core.specs.RwLock.{IsSound, share_of, is_write}
use Rattle.mea_lock_model.specs.Locks.{Lock, LockFuture, LockGuard, Locks}
use Rattle.mea_cores_by_name.specs.Linked.{names_in, Linked}
use Rattle.mea_lock.specs.declared.guard_entry.GuardEntry.{GuardEntry}
use Rattle.mea_lock.specs.Cores.{NamedLock, acquire_of}
use Rattle.mea_lock.specs.Entries.{KeptLock, KeptFuture}
use Rattle.mea_lock.specs.Waits.{is_polled}

-- ---- what is seen of each thing
abbrev pub lock_seen : KeptLock → Lock
lock_seen e = record { value = e.lock.value; most = e.lock.most; free = e.lock.permits.free; queue = names_in e.lock.permits.queue; named = e.named }

abbrev pub future_seen : KeptFuture → LockFuture
future_seen x = record { lock = x.lock; plain = x.plain; writes = is_write x.wait; polled = x.holds || is_polled x.wait; of_condvar = x.of_condvar }

abbrev pub guard_seen : GuardEntry → LockGuard
guard_seen g = record { lock = g.lock; plain = g.plain; writes = g.writes }

abbrev pub locks_seen : Names KeptLock → Names KeptFuture → Names GuardEntry → Locks
locks_seen ls fs gs = record { locks = seen lock_seen ls; futures = seen future_seen fs; guards = seen guard_seen gs }

-- ---- what is kept to
-- the acquires of futures, at a lock of so many permits
abbrev pub acquires_of : ℕ → Names KeptFuture → Names Acquire
acquires_of most fs = seen (λ (x : KeptFuture). acquire_of most x.wait) fs

-- what guards hold together
abbrev pub held_by : NamedLock → Names GuardEntry → ℕ
held_by l gs = total (λ k (g : GuardEntry). share_of l g.writes) gs

-- what futures hold together
abbrev pub held_in : NamedLock → Names KeptFuture → ℕ
held_in l fs = total (λ k (x : KeptFuture). cond x.holds l.most 0) fs

-- a future that holds the lock is that of a wait on a condition variable, and writes
pub record IsHolder (l : NamedLock) (x : KeptFuture) : Type 0 where
  pub of_condvar : x.of_condvar ≡ true
  pub writes : is_write x.wait ≡ true
  pub new : acquire_of l.most x.wait ≡ New l.most
  pub writing : l.writing ≡ true

abbrev pub WaitsWrite : Names KeptFuture → Type 0
WaitsWrite fs = (f : ℕ) (x : KeptFuture) → get fs f ≡ Some x → x.of_condvar ≡ true → is_write x.wait ≡ true

-- a lock, its futures and its guards
pub record AreKept (e : KeptLock) (fs : Names KeptFuture) (gs : Names GuardEntry) : Type 0 where
  pub sound : IsSound e.lock
  pub linked : Linked e.lock.permits.queue e.lock.permits.granted (acquires_of e.lock.most fs)
  pub asks : (f : ℕ) (x : KeptFuture) → get fs f ≡ Some x → demand_of (acquire_of e.lock.most x.wait) ≡ share_of e.lock (is_write x.wait)
  pub held : held_of e.lock.permits ≡ held_by e.lock gs + held_in e.lock fs
  pub holders : (f : ℕ) (x : KeptFuture) → get fs f ≡ Some x → x.holds ≡ true → IsHolder e.lock x
  -- the future of a wait on a condition variable writes
  pub waits_write : WaitsWrite fs
  pub writing : (k : ℕ) (g : GuardEntry) → get gs k ≡ Some g → g.writes ≡ e.lock.writing
  -- its wakers are handed on after each event
  pub quiet : e.lock.permits.wakes ≡ []
  pub things : e.things ≡ len fs + len gs
  pub plain : e.plain ≡ count (λ (x : KeptFuture). x.plain) fs + count (λ (x : GuardEntry). x.plain) gs

abbrev pub of_future : KeptFuture → ℕ
of_future x = x.lock

abbrev pub of_guard : GuardEntry → ℕ
of_guard g = g.lock

abbrev pub AreKeptLocks : Names KeptLock → Names KeptFuture → Names GuardEntry → ℕ → Type 0
AreKeptLocks ls fs gs next = HallKept of_future of_guard AreKept (λ e. e.things) ls fs gs next

-- ---- what is new
-- a lock that nobody holds or waits for
pub record IsNewLock (l : NamedLock) (value most : ℕ) : Type 0 where
  pub lock : l ≡ record { permits = permits_of most; value = value; most = most; writing = false }
  pub free : held_of l.permits ≡ 0
  pub sound : IsSound l
