-- what a hall sees of the core of a lock: that of either kind is seen as a reader-writer lock
use Rattle.std.specs.Prelude.{ℕ, ◌≡◌, ◌+◌, ◌-◌, ◌≤◌, ◌||◌, Bool, true, false, nat_lt, if◌then◌else◌, Ok}
use Rattle.mea_base.specs.declared.turn.Turn.{Turn}
use Rattle.mea_by_name.specs.declared.named_waker.NamedWaker.{NamedWaker}
use Rattle.mea_sem_core.specs.declared.acquire.Acquire.{Acquire}
use Rattle.mea_sem_core.specs.declared.acquire.Acquire.TheVariants as acquire
use Rattle.mea_sem_core.specs.Core.{held_of}
use Rattle.mea_sem_core.specs.Calls.{Polls, Cancels, given_back}
use Rattle.mea_lock_core.specs.Lock.{Lock}
use Rattle.mea_lock_core.specs.RwLock.{RwLock, IsSound, LetsIn, HoldsShare, share_of, is_ready, is_write, readers_of}
use Rattle.mea_lock_core.specs.declared.rw_wait.RwWait.{RwWait}
use Rattle.mea_lock_core.specs.declared.rw_wait.RwWait.TheVariants.{Read, NewWrite, Write}

-- a reader-writer lock whose wakers carry the names of their futures
abbrev pub NamedLock : Type 0
NamedLock = RwLock ℕ NamedWaker

-- a mutex is one of one permit that is only written
abbrev pub as_rw : Lock ℕ NamedWaker → NamedLock
as_rw l = record { permits = l.permits; value = l.value; most = 1; writing = nat_lt 0 (held_of l.permits) }

-- the acquire of a wait, at a lock of so many permits
abbrev pub acquire_of : ℕ → RwWait → Acquire
acquire_of most (Read a) = a
acquire_of most NewWrite = acquire.New most
acquire_of most (Write a) = a

-- a wait was polled, and left this lock and this wait
pub record PollsLock (l : NamedLock) (x : RwWait) (w : NamedWaker) (turn : Turn NamedWaker) (l' : NamedLock) (x' : RwWait) : Type 0 where
  pub polls : Polls l.permits (acquire_of l.most x) w (Ok turn) l'.permits (acquire_of l.most x')
  pub writes : is_write x' ≡ is_write x
  pub lock : l' ≡ record l { permits = l'.permits; writing = l.writing || (if is_write x then is_ready turn else false) }
  pub lets_in : LetsIn (is_write x) l turn
  pub holds : HoldsShare (is_write x) l turn l'
  pub sound : IsSound l'

-- a wait was ended
pub record CancelsLock (l : NamedLock) (x : RwWait) (l' : NamedLock) : Type 0 where
  pub cancels : Cancels l.permits (acquire_of l.most x) l'.permits
  pub lock : l' ≡ record l { permits = l'.permits }
  pub held : held_of l'.permits ≡ held_of l.permits
  pub sound : IsSound l'

-- a read is let in only where no write is held, and a write only where nothing is
abbrev pub IsFreeFor : Bool → NamedLock → Type 0
IsFreeFor true l = held_of l.permits ≡ 0
IsFreeFor false l = l.writing ≡ false

-- what is held keeps a read out, or a write
abbrev pub keeps_out : Bool → NamedLock → Bool
keeps_out write l = if write then nat_lt 0 (held_of l.permits) else l.writing

-- the free permits of a read or a write were taken
pub record TakesLock (l : NamedLock) (write : Bool) (l' : NamedLock) : Type 0 where
  pub lock : l' ≡ record l { permits = record l.permits { free = l.permits.free - share_of l write }; writing = write }
  pub alone : IsFreeFor write l
  pub held : held_of l'.permits ≡ held_of l.permits + share_of l write
  pub sound : IsSound l'

-- a guard that reads or writes gave its permits back
pub record UnlocksLock (l : NamedLock) (write : Bool) (l' : NamedLock) : Type 0 where
  pub lock : l' ≡ record l { permits = given_back l.permits (share_of l write); writing = false }
  pub held : held_of l'.permits + share_of l write ≡ held_of l.permits
  pub sound : IsSound l'

-- a write gave back all permits but one, and reads
pub record LowersLock (l : NamedLock) (l' : NamedLock) : Type 0 where
  pub lock : l' ≡ record l { permits = given_back l.permits (l.most - 1); writing = false }
  pub held : held_of l'.permits ≡ 1
  pub sound : IsSound l'

-- a guard that reads, or writes, is held
abbrev pub IsHeldAs : NamedLock → Bool → Type 0
IsHeldAs l true = l.writing ≡ true
IsHeldAs l false = 1 ≤ readers_of l
