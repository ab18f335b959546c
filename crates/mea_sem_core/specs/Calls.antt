-- what each call of a `SemCore` does, and what it asks for
use Rattle.std.specs.Prelude.{ℕ, ◌≡◌, ◌+◌, ◌-◌, ◌<◌, ◌≤◌, ◌==◌, ◌++◌, ◌⊎◌, Bool, true, false, List, [], ◌∷◌, Some, None, Result, Ok, MatchResult, min, if◌then◌else◌}
use Rattle.std.specs.FinMap as map
use Rattle.mea_base.specs.declared.no_memory.NoMemory.{NoMemory}
use Rattle.mea_base.specs.declared.turn.Turn.{Turn}
use Rattle.mea_base.specs.declared.turn.Turn.TheVariants.{Ready, Pending}
use Rattle.mea_sem_core.specs.declared.acquire.Acquire.{Acquire}
use Rattle.mea_sem_core.specs.declared.acquire.Acquire.TheVariants.{New, Queued, Done, Refused}
use Rattle.mea_sem_core.specs.declared.open_turn.OpenTurn.{OpenTurn}
use Rattle.mea_sem_core.specs.declared.open_turn.OpenTurn.TheVariants as open_turn
use Rattle.mea_sem_core.specs.Core.{Waiter, Acquires, Owes, Core, HasNoDebt, held_of, poured, waiting}

module _ {W : Type 0} where
  -- the queue with another waker for the acquire under a number
  abbrev pub with_waker : List (Waiter W × ℕ) → ℕ → W → List (Waiter W × ℕ)
  with_waker [] n w = []
  with_waker ((Acquires m demand waker, lack) ∷ q) n w = (Acquires m demand (if m == n then w else waker), lack) ∷ with_waker q n w
  with_waker ((Owes, lack) ∷ q) n w = (Owes, lack) ∷ with_waker q n w

  -- the queue with no acquire under a number
  abbrev pub without_acquire : List (Waiter W × ℕ) → ℕ → List (Waiter W × ℕ)
  without_acquire [] n = []
  without_acquire ((Acquires m demand waker, lack) ∷ q) n = if m == n then without_acquire q n else (Acquires m demand waker, lack) ∷ without_acquire q n
  without_acquire ((Owes, lack) ∷ q) n = (Owes, lack) ∷ without_acquire q n

  -- the three places of an acquire that was polled: it waits, was granted, or was cut by a close
  abbrev pub IsWaitingAs : Core W → ℕ → ℕ → Type 0
  IsWaitingAs s demand number = (lack : ℕ) × (waiting s.queue number ≡ Some (demand, lack))

  abbrev pub IsGrantedAs : Core W → ℕ → ℕ → Type 0
  IsGrantedAs s demand number = map.get s.granted number ≡ Some demand

  abbrev pub IsCutAs : Core W → ℕ → ℕ → Type 0
  IsCutAs s demand number = (s.closed ≡ true) × (map.get s.cut number ≡ Some demand)

  -- the acquire was granted with its number and demand, waits with them, or was cut with them; one that was
  -- refused is of a closed semaphore
  abbrev pub Belongs : Core W → Acquire → Type 0
  Belongs s (New _) = Unit {0}
  Belongs s (Queued demand number) = (IsGrantedAs s demand number ⊎ IsWaitingAs s demand number) ⊎ IsCutAs s demand number
  Belongs s (Done _) = Unit {0}
  Belongs s (Refused _) = s.closed ≡ true

  -- a first poll that has to wait: all free permits are part payment, and the number is fresh
  pub record Queues (s s' : Core W) (demand : ℕ) (w : W) (number : ℕ) : Type 0 where
    pub is : s' ≡ record s { free = 0; queue = s.queue ++ (Acquires number demand w, demand - s.free) ∷ [] }
    pub not_waiting : waiting s.queue number ≡ None
    pub not_granted : map.get s.granted number ≡ None
    pub not_cut : map.get s.cut number ≡ None

-- what one poll does of an acquire that no close keeps from its permits, where ready and pending are told so
module _ {W T : Type 0} (ready : W → T) (pending : T) where
  abbrev pub PollsAs : Core W → Acquire → W → Result T (W × NoMemory) → Core W → Acquire → Type 0
  PollsAs s (New demand) w r s' a' =
      (demand ≤ s.free → (r ≡ Ok (ready w)) × (s' ≡ record s { free = s.free - demand }) × (a' ≡ Done demand))
      × (s.free < demand → MatchResult r
      (λ turn. (turn ≡ pending) × ((number : ℕ) × Queues s s' demand w number × (a' ≡ Queued demand number)))
      (λ e. (e.0 ≡ w) × (s' ≡ s) × (a' ≡ New demand)))
  PollsAs s (Queued demand number) w r s' a' =
      (IsGrantedAs s demand number → (r ≡ Ok (ready w)) × (s' ≡ record s { granted = map.remove s.granted number }) × (a' ≡ Done demand))
      × (IsWaitingAs s demand number → (r ≡ Ok pending) × (s' ≡ record s { queue = with_waker s.queue number w }) × (a' ≡ Queued demand number))
  PollsAs s (Done demand) w r s' a' = (r ≡ Ok (ready w)) × (s' ≡ s) × (a' ≡ Done demand)
  PollsAs s (Refused demand) w r s' a' = ⊥

module _ {W : Type 0} where
  -- what one poll of an open semaphore does
  abbrev pub Polls : Core W → Acquire → W → Result (Turn W) (W × NoMemory) → Core W → Acquire → Type 0
  Polls s a w r s' a' = PollsAs (λ waker. Ready waker) Pending s a w r s' a'

  -- what one poll does of a semaphore that is open or closed: a closed one refuses an acquire that it had not
  -- granted before
  abbrev pub PollsOpen : Core W → Acquire → W → Result (OpenTurn W) (W × NoMemory) → Core W → Acquire → Type 0
  PollsOpen s (New demand) w r s' a' =
      (s.closed ≡ false → PollsAs (λ waker. open_turn.Ready waker) open_turn.Pending s (New demand) w r s' a')
      × (s.closed ≡ true → (r ≡ Ok (open_turn.Closed w)) × (s' ≡ s) × (a' ≡ Refused demand))
  PollsOpen s (Queued demand number) w r s' a' =
      PollsAs (λ waker. open_turn.Ready waker) open_turn.Pending s (Queued demand number) w r s' a'
      × (IsCutAs s demand number → (r ≡ Ok (open_turn.Closed w)) × (s' ≡ record s { cut = map.remove s.cut number }) × (a' ≡ Refused demand))
  PollsOpen s (Done demand) w r s' a' = PollsAs (λ waker. open_turn.Ready waker) open_turn.Pending s (Done demand) w r s' a'
  PollsOpen s (Refused demand) w r s' a' = (r ≡ Ok (open_turn.Closed w)) × (s' ≡ s) × (a' ≡ Refused demand)

  -- a poll that may find no memory: one that has to wait at an open semaphore; then nothing has changed
  pub record FindsNoMemory (s : Core W) (demand : ℕ) (s' : Core W) : Type 0 where
    pub is_open : s.closed ≡ false
    pub waits : s.free < demand
    pub same : s' ≡ s

  -- ---- what a close keeps from its permits, and what not

  -- no close keeps the acquire from its permits
  abbrev pub MayAdvance : Core W → Acquire → Type 0
  MayAdvance s (New _) = s.closed ≡ false
  MayAdvance s (Queued demand number) = IsGrantedAs s demand number ⊎ IsWaitingAs s demand number
  MayAdvance s (Done _) = Unit {0}
  MayAdvance s (Refused _) = ⊥

  -- the semaphore is closed, and had not granted the acquire before
  abbrev pub IsRefused : Core W → Acquire → Type 0
  IsRefused s (New _) = s.closed ≡ true
  IsRefused s (Queued demand number) = IsCutAs s demand number
  IsRefused s (Done _) = ⊥
  IsRefused s (Refused _) = s.closed ≡ true

  -- the core once it has refused the acquire: its number is free again
  abbrev pub after_refusal : Core W → Acquire → Core W
  after_refusal s (New _) = s
  after_refusal s (Queued _ number) = record s { cut = map.remove s.cut number }
  after_refusal s (Done _) = s
  after_refusal s (Refused _) = s

  -- an acquire that is ready now, and was not before, adds its demand to the held permits; else as many are held
  abbrev pub HoldsAfter : Core W → Acquire → Turn W → Core W → Type 0
  HoldsAfter s (New demand) (Ready _) s' = held_of s' ≡ held_of s + demand
  HoldsAfter s (Queued demand _) (Ready _) s' = held_of s' ≡ held_of s + demand
  HoldsAfter s (Done _) (Ready _) s' = held_of s' ≡ held_of s
  HoldsAfter s (Refused _) (Ready _) s' = held_of s' ≡ held_of s
  HoldsAfter s a Pending s' = held_of s' ≡ held_of s

  abbrev pub HoldsOpen : Core W → Acquire → OpenTurn W → Core W → Type 0
  HoldsOpen s a (open_turn.Ready w) s' = HoldsAfter s a (Ready w) s'
  HoldsOpen s a open_turn.Pending s' = held_of s' ≡ held_of s
  HoldsOpen s a (open_turn.Closed _) s' = held_of s' ≡ held_of s

  -- where no debt waits, none waits after, and as many permits live; it is open or closed as before
  pub record Steady (s s' : Core W) : Type 0 where
    pub closed : s'.closed ≡ s.closed
    pub live : HasNoDebt s.queue → s'.live ≡ s.live
    pub no_debt : HasNoDebt s.queue → HasNoDebt s'.queue

  -- what ending an acquire does: what it was paid is poured, which is nothing for one that was cut
  abbrev pub Cancels : Core W → Acquire → Core W → Type 0
  Cancels s (New _) s' = s' ≡ s
  Cancels s (Queued demand number) s' =
      (IsGrantedAs s demand number → s' ≡ poured (record s { live = s.live - demand; granted = map.remove s.granted number }) demand)
      × ((lack : ℕ) → waiting s.queue number ≡ Some (demand, lack) → s' ≡ poured (record s { live = s.live - (demand - lack); queue = without_acquire s.queue number }) (demand - lack))
      × (IsCutAs s demand number → s' ≡ record s { cut = map.remove s.cut number })
  Cancels s (Done _) s' = s' ≡ s
  Cancels s (Refused _) s' = s' ≡ s

  -- what ending an acquire does where what it was paid is lost
  abbrev pub Loses : Core W → Acquire → Core W → Type 0
  Loses s (New _) s' = s' ≡ s
  Loses s (Queued demand number) s' =
      (IsGrantedAs s demand number → s' ≡ record s { live = s.live - demand; granted = map.remove s.granted number })
      × ((lack : ℕ) → waiting s.queue number ≡ Some (demand, lack) → s' ≡ record s { live = s.live - (demand - lack); queue = without_acquire s.queue number })
      × (IsCutAs s demand number → s' ≡ record s { cut = map.remove s.cut number })
  Loses s (Done _) s' = s' ≡ s
  Loses s (Refused _) s' = s' ≡ s

  -- the acquire was granted, and was not polled since
  abbrev pub IsGranted : Core W → Acquire → Type 0
  IsGranted s (New _) = ⊥
  IsGranted s (Done _) = ⊥
  IsGranted s (Refused _) = ⊥
  IsGranted s (Queued demand number) = IsGrantedAs s demand number

  -- no acquire waits under its number
  abbrev pub IsApart : Core W → Acquire → Type 0
  IsApart s (New _) = Unit {0}
  IsApart s (Done _) = Unit {0}
  IsApart s (Refused _) = Unit {0}
  IsApart s (Queued _ number) = waiting s.queue number ≡ None

  -- where an acquire that belongs stands, by whether it is granted; none is both
  abbrev pub StandsAs : Core W → Acquire → Bool → Type 0
  StandsAs s (New _) granted = granted ≡ false
  StandsAs s (Done _) granted = granted ≡ false
  StandsAs s (Refused _) granted = granted ≡ false
  StandsAs s (Queued demand number) true = IsGrantedAs s demand number
  StandsAs s (Queued demand number) false = (IsWaitingAs s demand number ⊎ IsCutAs s demand number) × (map.get s.granted number ≡ None)

  -- n held permits come back, and are poured
  abbrev pub given_back : Core W → ℕ → Core W
  given_back s n = poured (record s { live = s.live - n }) n

  -- at most n free permits are taken away
  abbrev pub forgetting : Core W → ℕ → Core W
  forgetting s n = record s { free = s.free - min n s.free; live = s.live - min n s.free }

  -- a lack of n, if above 0, becomes a debt at the head
  abbrev pub with_debt : List (Waiter W × ℕ) → ℕ → List (Waiter W × ℕ)
  with_debt q n = if n == 0 then q else (Owes, n) ∷ q

  -- n permits are taken away, the free ones at once and the others as a debt
  abbrev pub forgetting_exactly : Core W → ℕ → Core W
  forgetting_exactly s n = record (forgetting s n) { queue = with_debt s.queue (n - min n s.free) }
