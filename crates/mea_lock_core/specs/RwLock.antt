-- what a contract sees of a reader-writer lock
use Rattle.std.specs.Prelude.{◌≡◌, ◌+◌, ◌≤◌, ◌<◌, ◌||◌, ◌⊎◌, if◌then◌else◌, ℕ, Bool, true, false, Result, MatchResult, refl}
use Rattle.std.specs.Coded.{Coded, code_by, coded×, coded_ℕ, coded_bool}
use Rattle.mea_base.specs.declared.no_memory.NoMemory.{NoMemory}
use Rattle.mea_base.specs.declared.turn.Turn.{Turn}
use Rattle.mea_base.specs.declared.turn.Turn.TheVariants.{Ready, Pending}
use Rattle.mea_sem_core.specs.Acquire.{demand_of}
use Rattle.mea_sem_core.specs.Calls.{Polls, Belongs, Cancels}
use Rattle.mea_sem_core.specs.Core as core
use Rattle.mea_sem_core.specs.Core.{Core, core_code, held_of, paid_of, HasNoDebt}
use Rattle.mea_sem_core.specs.declared.acquire.Acquire.{Acquire}
use Rattle.mea_sem_core.specs.declared.acquire.Acquire.TheVariants as acquire
use Rattle.mea_lock_core.specs.Lock.{IsUnready}
use Rattle.mea_lock_core.specs.declared.rw_wait.RwWait.{RwWait}
use Rattle.mea_lock_core.specs.declared.rw_wait.RwWait.TheVariants.{Read, NewWrite, Write}

-- a lock: its permits, its value, the most that may read at a time, and whether a write is held
pub record RwLock (V W : Type 0) : Type 0 where
  pub permits : Core W
  pub value : V
  pub most : ℕ
  pub writing : Bool

-- what lets an `RwLock` be the value of a model
abbrev pub rw_code : {V W : Type 0} → Coded V → Coded W → Coded (RwLock V W)
rw_code {V} {W} value_code waker_code =
    code_by
    (Core W × (V × (ℕ × Bool)))
    (coded× (core_code waker_code) (coded× value_code (coded× coded_ℕ coded_bool)))
    (λ l. (l.permits, (l.value, (l.most, l.writing))))
    (λ p. record { permits = p.0; value = p.1.0; most = p.1.1.0; writing = p.1.1.1 })
    (λ _. refl)

abbrev pub is_ready : {W : Type 0} → Turn W → Bool
is_ready (Ready _) = true
is_ready Pending = false

abbrev pub is_write : RwWait → Bool
is_write (Read _) = false
is_write NewWrite = true
is_write (Write _) = true

-- the wait that was never polled, for a read or a write as before
abbrev pub renewed_rw : RwWait → RwWait
renewed_rw (Read _) = Read (acquire.New 1)
renewed_rw NewWrite = NewWrite
renewed_rw (Write _) = NewWrite

module _ {V W : Type 0} where
  -- how many reads are held: what is held is one write, or else reads of one permit each
  abbrev pub readers_of : RwLock V W → ℕ
  readers_of l = if l.writing then 0 else held_of l.permits

  -- a read or a write is held
  abbrev pub IsHeld : RwLock V W → Type 0
  IsHeld l = (1 ≤ readers_of l) ⊎ (l.writing ≡ true)

  -- what is held is all: no read is held, and no permit is free or paid to a wait
  pub record IsAlone (l : RwLock V W) : Type 0 where
    pub held : held_of l.permits ≡ l.most
    pub readers : readers_of l ≡ 0
    pub free : l.permits.free ≡ 0
    pub paid : paid_of l.permits ≡ 0

  -- what holds of every reader-writer lock
  pub record IsSound (l : RwLock V W) : Type 0 where
    pub permits : core.IsSound l.permits
    pub some : 0 < l.most
    pub all : l.permits.live ≡ l.most
    pub no_debt : HasNoDebt l.permits.queue
    -- nobody closes the semaphore of a lock
    pub is_open : l.permits.closed ≡ false
    -- a write holds all permits
    pub alone : l.writing ≡ true → held_of l.permits ≡ l.most

  -- the wait is one of this lock, and was not ready yet
  abbrev pub MayPoll : RwLock V W → RwWait → Type 0
  MayPoll l (Read a) = Belongs l.permits a × IsUnready a × (demand_of a ≡ 1)
  MayPoll l NewWrite = Unit {0}
  MayPoll l (Write a) = Belongs l.permits a × IsUnready a × (demand_of a ≡ l.most)

  -- a poll of an acquire of one permit for a read, or of all for a write, which is held where it is ready
  abbrev pub PollsFor : Bool → RwLock V W → Acquire → W → Result (Turn W) (W × NoMemory) → RwLock V W → Acquire → Type 0
  PollsFor write l a w r l' a' =
      Polls l.permits a w r l'.permits a'
      × MatchResult r (λ turn. l' ≡ record l { permits = l'.permits; writing = l.writing || (if write then is_ready turn else false) }) (λ e. l' ≡ l)

  -- a poll of a wait
  abbrev pub PollsRw : RwLock V W → RwWait → W → Result (Turn W) (W × NoMemory) → RwLock V W → RwWait → Type 0
  PollsRw l (Read a) w r l' x' = (a' : Acquire) × PollsFor false l a w r l' a' × (x' ≡ Read a')
  PollsRw l NewWrite w r l' x' = (a' : Acquire) × PollsFor true l (acquire.New l.most) w r l' a' × MatchResult r (λ turn. x' ≡ Write a') (λ e. x' ≡ NewWrite)
  PollsRw l (Write a) w r l' x' = (a' : Acquire) × PollsFor true l a w r l' a' × (x' ≡ Write a')

  -- a read is let in only where no write is held, and a write only where nothing is
  abbrev pub LetsIn : Bool → RwLock V W → Turn W → Type 0
  LetsIn true l (Ready _) = held_of l.permits ≡ 0
  LetsIn false l (Ready _) = l.writing ≡ false
  LetsIn true l Pending = Unit {0}
  LetsIn false l Pending = Unit {0}

  -- how many permits a read takes, or a write
  abbrev pub share_of : RwLock V W → Bool → ℕ
  share_of l write = if write then l.most else 1

  -- a poll that is ready adds to what is held, and another leaves that as it was
  abbrev pub HoldsShare : Bool → RwLock V W → Turn W → RwLock V W → Type 0
  HoldsShare write l (Ready _) l' = held_of l'.permits ≡ held_of l.permits + share_of l write
  HoldsShare write l Pending l' = held_of l'.permits ≡ held_of l.permits

  -- the wait is one of this lock
  abbrev pub MayCancel : RwLock V W → RwWait → Type 0
  MayCancel l (Read a) = Belongs l.permits a
  MayCancel l NewWrite = Unit {0}
  MayCancel l (Write a) = Belongs l.permits a

  -- the end of a wait
  abbrev pub CancelsRw : RwLock V W → RwWait → RwLock V W → Type 0
  CancelsRw l (Read a) l' = Cancels l.permits a l'.permits × (l' ≡ record l { permits = l'.permits })
  CancelsRw l NewWrite l' = l' ≡ l
  CancelsRw l (Write a) l' = Cancels l.permits a l'.permits × (l' ≡ record l { permits = l'.permits })
