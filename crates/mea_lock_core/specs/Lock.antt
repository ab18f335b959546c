-- what a contract sees of a mutex
use Rattle.std.specs.Prelude.{◌≡◌, ℕ, false, [], refl}
use Rattle.std.specs.Coded.{Coded, code_by, coded×}
use Rattle.std.specs.FinMap as map
use Rattle.mea_base.specs.declared.turn.Turn.{Turn}
use Rattle.mea_base.specs.declared.turn.Turn.TheVariants.{Ready, Pending}
use Rattle.mea_sem_core.specs.Core as core
use Rattle.mea_sem_core.specs.Core.{Core, core_code, held_of, HasNoDebt}
use Rattle.mea_sem_core.specs.Calls.{Belongs}
use Rattle.mea_sem_core.specs.declared.acquire.Acquire.{Acquire}
use Rattle.mea_sem_core.specs.declared.acquire.Acquire.TheVariants.{New, Queued, Done, Refused}

-- a lock: its permits, with those that wait for them, and its value
pub record Lock (V W : Type 0) : Type 0 where
  pub permits : Core W
  pub value : V

-- what lets a `Lock` be the value of a model
abbrev pub lock_code : {V W : Type 0} → Coded V → Coded W → Coded (Lock V W)
lock_code {V} {W} value_code waker_code =
    code_by
    (Core W × V)
    (coded× (core_code waker_code) value_code)
    (λ l. (l.permits, l.value))
    (λ p. record { permits = p.0; value = p.1 })
    (λ _. refl)

-- n permits that nobody has or waits for
abbrev pub permits_of : {W : Type 0} → ℕ → Core W
permits_of n = record { free = n; live = n; queue = []; granted = map.empty; cut = map.empty; closed = false; wakes = [] }

-- the acquire was not ready yet, and no semaphore has refused it
abbrev pub IsUnready : Acquire → Type 0
IsUnready (New _) = Unit {0}
IsUnready (Queued _ _) = Unit {0}
IsUnready (Done _) = ⊥
IsUnready (Refused _) = ⊥

module _ {V W : Type 0} where
  -- the wait is one of this lock, and was not ready yet
  abbrev pub MayPoll : Lock V W → Acquire → Type 0
  MayPoll l a = Belongs l.permits a × IsUnready a

  -- a poll that is ready takes the lock, which nobody held; after another as many hold it as before
  abbrev pub TakesLock : Lock V W → Turn W → Lock V W → Type 0
  TakesLock l (Ready _) l' = (held_of l.permits ≡ 0) × (held_of l'.permits ≡ 1)
  TakesLock l Pending l' = held_of l'.permits ≡ held_of l.permits

  -- what holds of every mutex
  pub record IsSound (l : Lock V W) : Type 0 where
    pub permits : core.IsSound l.permits
    -- one permit lives, so no two guards are held
    pub one : l.permits.live ≡ 1
    pub no_debt : HasNoDebt l.permits.queue
    -- nobody closes the semaphore of a lock
    pub is_open : l.permits.closed ≡ false
