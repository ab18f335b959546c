-- what a hall keeps of a lock and of a future, and what the calls of a lock's entry do
use Rattle.std.specs.Prelude.{ℕ, ◌≡◌, ◌≤◌, ◌+◌, ◌-◌, ◌==◌, ◌&&◌, ◌++◌, Bool, true, false, not, cond, [], length, map, refl}
use Rattle.std.specs.Coded.{Coded, code_by, coded×, coded_ℕ, coded_bool}
use Rattle.mea_base.specs.declared.turn.Turn.{Turn}
use Rattle.mea_base.specs.declared.turn.Turn.TheVariants.{Ready, Pending}
use Rattle.mea_base.specs.Ready.{Waking}
use Rattle.mea_by_name.specs.declared.named_waker.NamedWaker.{NamedWaker}
use Rattle.mea_by_name.specs.NamedWaker.{waker_code}
use Rattle.mea_lock_core.specs.RwLock.{rw_code}
use Rattle.mea_lock_core.specs.declared.rw_wait.RwWait.{RwWait}
use Rattle.mea_lock_model.specs.declared.until.Until.{Until}
use Rattle.mea_lock_model.specs.Locks.{goes_on}
use Rattle.mea_lock.specs.declared.until.Asked.{Asked}
use Rattle.mea_lock.specs.declared.until.Asked.TheVariants as asked
use Rattle.mea_lock.specs.Waits.{IsNewWait}
use Rattle.mea_lock.specs.Cores.{NamedLock, PollsLock, CancelsLock, UnlocksLock, IsHeldAs}

-- a lock, whether it is named, and how many futures and guards it has, and how many of them are plain
pub record KeptLock : Type 0 where
  pub lock : NamedLock
  pub named : Bool
  pub things : ℕ
  pub plain : ℕ

-- a future: the name of its lock, whether it is plain, its wait, whether it is that of a wait on a condition variable,
-- and whether it holds the lock, as such a wait does before its first poll
pub record KeptFuture : Type 0 where
  pub lock : ℕ
  pub plain : Bool
  pub wait : RwWait
  pub of_condvar : Bool
  pub holds : Bool

abbrev pub kept_lock_code : Coded KeptLock
kept_lock_code = code_by (NamedLock × (Bool × (ℕ × ℕ))) (coded× (rw_code coded_ℕ waker_code) (coded× coded_bool (coded× coded_ℕ coded_ℕ))) (λ e. (e.lock, (e.named, (e.things, e.plain)))) (λ p. record { lock = p.0; named = p.1.0; things = p.1.1.0; plain = p.1.1.1 }) (λ _. refl)

-- one future or guard more
abbrev pub begun : KeptLock → Bool → KeptLock
begun e plain = record e { things = e.things + 1; plain = e.plain + cond plain 1 0 }

-- one less
abbrev pub finished : KeptLock → Bool → KeptLock
finished e plain = record e { things = e.things - 1; plain = e.plain - cond plain 1 0 }

-- it has neither its name nor any thing
abbrev pub is_over : KeptLock → Bool
is_over e = not e.named && e.things == 0

-- no waker is ready
abbrev pub settled : NamedLock → NamedLock
settled l = record l { permits = record l.permits { wakes = [] } }

-- the lock became this; its wakers were handed on, and as many are registered as wait
pub record Settles (old : KeptLock) (l : NamedLock) (new : KeptLock) (before after : Waking ℕ) : Type 0 where
  pub entry : new ≡ record old { lock = settled l }
  pub wakers : after.wakers ≡ before.wakers ++ map (λ (k : NamedWaker). k.waker) l.permits.wakes
  pub counted : after.registered + length old.lock.permits.queue ≡ before.registered + length l.permits.queue

-- the future named f was polled
pub record Polled (old : KeptLock) (f : ℕ) (x : KeptFuture) (waker : ℕ) (turn : Turn NamedWaker) (new : KeptLock) (x' : KeptFuture) (before after : Waking ℕ) : Type 0 where
  pub left : NamedLock
  pub polls : PollsLock old.lock x.wait (record { name = f; waker = waker }) turn left x'.wait
  pub entry : new ≡ record old { lock = left }
  pub future : x' ≡ record x { wait = x'.wait }
  pub wakers : after.wakers ≡ before.wakers
  pub counted : after.registered + length old.lock.permits.queue ≡ before.registered + length left.permits.queue

-- a future ended, also one that held the lock
abbrev pub EndsLock : NamedLock → KeptFuture → NamedLock → Type 0
EndsLock l x l' = (x.holds ≡ true → UnlocksLock l true l') × (x.holds ≡ false → CancelsLock l x.wait l')

-- the future of a wait, named f, has the lock, which it had or was polled for; no waker is ready, and there is room for
-- each that is registered
pub record HasLock (old : KeptLock) (f : ℕ) (x : KeptFuture) (waker : ℕ) (new : KeptLock) (y : KeptFuture) (before after : Waking ℕ) : Type 0 where
  pub held : x.holds ≡ true → (new ≡ old) × (y ≡ x) × (after ≡ before)
  pub polled : x.holds ≡ false → (k : NamedWaker) × Polled old f x waker (Ready k) new y before after
  pub writing : IsHeldAs new.lock true
  pub quiet : new.lock.permits.wakes ≡ []
  pub room : length new.lock.permits.queue ≤ after.registered
  pub rest : y ≡ record x { wait = y.wait }

-- whether it has the lock; where it has it not, it waits for it
abbrev pub Asks : Bool → KeptLock → ℕ → KeptFuture → ℕ → KeptLock → KeptFuture → Waking ℕ → Waking ℕ → Type 0
Asks true old f x waker new y before after = HasLock old f x waker new y before after
Asks false old f x waker new y before after = (x.holds ≡ false) × Polled old f x waker Pending new y before after

-- the future of a wait was polled: it waits for the lock; or has it, and is ready or gives it up by its value
abbrev pub PolledUntil : KeptLock → ℕ → KeptFuture → ℕ → Until → Asked → KeptLock → KeptFuture → Waking ℕ → Waking ℕ → Type 0
PolledUntil old f x waker until asked.Asks new x' before after = (x.holds ≡ false) × Polled old f x waker Pending new x' before after
PolledUntil old f x waker until asked.Ready new x' before after = (goes_on until new.lock.value ≡ false) × HasLock old f x waker new x' before after
PolledUntil old f x waker until asked.Lays new x' before after =
    (e : KeptLock) × (y : KeptFuture) × (between : Waking ℕ) × (l : NamedLock) × HasLock old f x waker e y before between × (goes_on until e.lock.value ≡ true)
    × UnlocksLock e.lock true l × Settles e l new between after × IsNewWait e.lock true x'.wait × (x' ≡ record x { wait = x'.wait; holds = false })
