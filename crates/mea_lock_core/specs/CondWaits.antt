-- what polling and ending a wait of a condition variable do, and what they ask for
use Rattle.std.specs.Prelude.{◌≡◌, ◌<◌, ◌≤◌, ℕ, Some, Bool, true, false, Result, Ok, MatchResult, IsSome}
use Rattle.std.specs.FinMap as map
use Rattle.mea_base.specs.declared.no_memory.NoMemory.{NoMemory}
use Rattle.mea_base.specs.declared.turn.Turn.{Turn}
use Rattle.mea_base.specs.declared.turn.Turn.TheVariants.{Ready, Pending}
use Rattle.mea_sem_core.specs.Calls.{Polls, Belongs, Cancels, given_back}
use Rattle.mea_sem_core.specs.Core.{held_of}
use Rattle.mea_sem_core.specs.declared.acquire.Acquire.{Acquire}
use Rattle.mea_sem_core.specs.declared.acquire.Acquire.TheVariants as acquire
use Rattle.mea_lock_core.specs.Condvar.{Condvar, Knows, Lists, waker_under, with_waker, without_wait, passed_on}
use Rattle.mea_lock_core.specs.Lock.{Lock, MayPoll}
use Rattle.mea_lock_core.specs.declared.cond_wait.CondWait.{CondWait}
use Rattle.mea_lock_core.specs.declared.cond_wait.CondWait.TheVariants.{New, Listed, Locking, Done}

-- what a wait that has lost its place becomes: one that was notified with all, and asks for the lock
abbrev pub renewed_wait : CondWait
renewed_wait = Locking false (acquire.New 1)

-- the wait was never polled
abbrev pub is_new : CondWait → Bool
is_new New = true
is_new (Listed _) = false
is_new (Locking _ _) = false
is_new Done = false

-- the stage after a poll of the lock
abbrev pub after_lock : {W : Type 0} → Bool → Turn W → Acquire → CondWait
after_lock by_one (Ready _) a = Done
after_lock by_one Pending a = Locking by_one a

module _ {W : Type 0} where
  -- the wait was not notified yet
  abbrev pub IsWaiting : Condvar W → CondWait → Type 0
  IsWaiting s New = ⊥
  IsWaiting s (Listed n) = IsSome (waker_under s.waiting n)
  IsWaiting s (Locking _ a) = ⊥
  IsWaiting s Done = ⊥

  -- the end of a wait that the condition variable knows: what was for it alone goes to the next that waits
  abbrev pub EndsListed : Condvar W → ℕ → Condvar W → Type 0
  EndsListed s n s' =
      (IsSome (waker_under s.waiting n) → s' ≡ record s { waiting = without_wait s.waiting n })
      × ((by_one : Bool) → map.get s.notified n ≡ Some by_one → s' ≡ passed_on by_one (record s { notified = map.remove s.notified n }))

module _ {V W : Type 0} where
  -- ---- polling

  -- a new wait has the lock, another is known to the condition variable or to the lock, and none was ready
  abbrev pub MayPollWait : Condvar W → Lock V W → CondWait → Type 0
  MayPollWait s l New = 1 ≤ held_of l.permits
  MayPollWait s l (Listed n) = Knows s n
  MayPollWait s l (Locking _ a) = MayPoll l a
  MayPollWait s l Done = ⊥

  -- there was no memory: the waker comes back, and nothing has changed
  abbrev pub ChangesNothing : Condvar W → Lock V W → CondWait → W → Condvar W → Lock V W → CondWait → W × NoMemory → Type 0
  ChangesNothing s l c w s' l' c' e = (e.0 ≡ w) × (s' ≡ s) × (l' ≡ l) × (c' ≡ c)

  -- a new wait: it is the last that waits, and the lock is given back
  abbrev pub Enters : Condvar W → Lock V W → W → Result (Turn W) (W × NoMemory) → Condvar W → Lock V W → CondWait → Type 0
  Enters s l w r s' l' c' = MatchResult r
      (λ turn. (turn ≡ Pending) × (l' ≡ record l { permits = given_back l.permits 1 }) × ((n : ℕ) × Lists s s' n w × (c' ≡ Listed n)))
      (λ e. ChangesNothing s l New w s' l' c' e)

  -- a wait that was notified: it leaves the condition variable, and polls a new acquire of the lock, which
  -- takes memory only where the lock is not free
  abbrev pub AsksLock : Condvar W → Lock V W → ℕ → Bool → W → Result (Turn W) (W × NoMemory) → Condvar W → Lock V W → CondWait → Type 0
  AsksLock s l n by_one w r s' l' c' = MatchResult r
      (λ turn. (s' ≡ record s { notified = map.remove s.notified n }) × (l'.value ≡ l.value) × ((a : Acquire) × Polls l.permits (acquire.New 1) w r l'.permits a × (c' ≡ after_lock by_one turn a)))
      (λ e. (l.permits.free < 1) × ChangesNothing s l (Listed n) w s' l' c' e)

  -- a wait that the condition variable knows: while it waits, its waker is replaced
  abbrev pub PollsListed : Condvar W → Lock V W → ℕ → W → Result (Turn W) (W × NoMemory) → Condvar W → Lock V W → CondWait → Type 0
  PollsListed s l n w r s' l' c' =
      (IsSome (waker_under s.waiting n) → (r ≡ Ok Pending) × (s' ≡ record s { waiting = with_waker s.waiting n w }) × (l' ≡ l) × (c' ≡ Listed n))
      × ((by_one : Bool) → map.get s.notified n ≡ Some by_one → AsksLock s l n by_one w r s' l' c')

  -- a wait that asks for the lock: its acquire is polled again
  abbrev pub PollsLocking : Lock V W → Bool → Acquire → W → Result (Turn W) (W × NoMemory) → Lock V W → CondWait → Type 0
  PollsLocking l by_one a w r l' c' =
      (l'.value ≡ l.value) × ((a' : Acquire) × Polls l.permits a w r l'.permits a' × MatchResult r (λ turn. c' ≡ after_lock by_one turn a') (λ e. c' ≡ Locking by_one a'))

  -- what one poll does
  abbrev pub PollsWait : Condvar W → Lock V W → CondWait → W → Result (Turn W) (W × NoMemory) → Condvar W → Lock V W → CondWait → Type 0
  PollsWait s l New w r s' l' c' = Enters s l w r s' l' c'
  PollsWait s l (Listed n) w r s' l' c' = PollsListed s l n w r s' l' c'
  PollsWait s l (Locking by_one a) w r s' l' c' = (s' ≡ s) × PollsLocking l by_one a w r l' c'
  PollsWait s l Done w r s' l' c' = Unit {0}

  -- where a poll is ready, the lock is held
  abbrev pub HoldsLock : Turn W → Lock V W → Type 0
  HoldsLock (Ready _) l = 1 ≤ held_of l.permits
  HoldsLock Pending l = Unit {0}

  -- where a poll is ready, nobody held the lock before
  abbrev pub FindsFree : Turn W → Lock V W → Type 0
  FindsFree (Ready _) l = held_of l.permits ≡ 0
  FindsFree Pending l = Unit {0}

  -- where a poll is pending, the lock is held or free as before
  abbrev pub StaysHeld : Turn W → Lock V W → Lock V W → Type 0
  StaysHeld (Ready _) l l' = Unit {0}
  StaysHeld Pending l l' = held_of l'.permits ≡ held_of l.permits

  -- the wait asks for this lock
  abbrev pub IsLocking : Lock V W → CondWait → Type 0
  IsLocking l New = ⊥
  IsLocking l (Listed _) = ⊥
  IsLocking l (Locking _ a) = MayPoll l a
  IsLocking l Done = ⊥

  -- a poll of a wait that asks for this lock
  abbrev pub PollsAsking : Lock V W → CondWait → W → Result (Turn W) (W × NoMemory) → Lock V W → CondWait → Type 0
  PollsAsking l New w r l' c' = Unit {0}
  PollsAsking l (Listed _) w r l' c' = Unit {0}
  PollsAsking l (Locking by_one a) w r l' c' = PollsLocking l by_one a w r l' c'
  PollsAsking l Done w r l' c' = Unit {0}

  -- ---- ending

  -- as for a poll, but one that was ready may be ended too
  abbrev pub MayEndWait : Condvar W → Lock V W → CondWait → Type 0
  MayEndWait s l New = 1 ≤ held_of l.permits
  MayEndWait s l (Listed n) = Knows s n
  MayEndWait s l (Locking _ a) = Belongs l.permits a
  MayEndWait s l Done = Unit {0}

  -- what the end of a wait does: a new one has the lock, which is given back
  abbrev pub EndsWait : Condvar W → Lock V W → CondWait → Condvar W → Lock V W → Type 0
  EndsWait s l New s' l' = (s' ≡ s) × (l' ≡ record l { permits = given_back l.permits 1 })
  EndsWait s l (Listed n) s' l' = (l' ≡ l) × EndsListed s n s'
  EndsWait s l (Locking by_one a) s' l' = Cancels l.permits a l'.permits × (l'.value ≡ l.value) × (s' ≡ passed_on by_one s)
  EndsWait s l Done s' l' = (s' ≡ s) × (l' ≡ l)
