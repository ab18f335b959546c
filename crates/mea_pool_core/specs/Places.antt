-- places, one for each resource, and the leases that wait for one
use Rattle.std.specs.Prelude.{ℕ, ◌≡◌, ◌+◌, ◌<◌, ◌≤◌, ◌==◌, ◌&&◌, ◌++◌, ◌⊎◌, Bool, true, false, List, [], ◌∷◌, map, Some, None, IsSome, Result, Ok, MatchResult, refl}
use Rattle.std.specs.Coded.{Coded, code_by, coded×, coded_ℕ, coded_bool, coded_list}
use Rattle.std.specs.Ordering.{nat_cmp}
use Rattle.std.specs.FinMap as map
use Rattle.mea_base.specs.declared.no_memory.NoMemory.{NoMemory}
use Rattle.mea_sem_core.specs.Core as core
use Rattle.mea_sem_core.specs.Core.{Core, Waiter, Acquires, Owes, held_of}
use Rattle.mea_sem_core.specs.Ones.{AskForOne}
use Rattle.mea_sem_core.specs.declared.open_turn.OpenTurn.{OpenTurn}
use Rattle.mea_sem_core.specs.declared.open_turn.OpenTurn.TheVariants.{Ready, Pending, Closed}
use Rattle.mea_lock_core.specs.Condvar.{waker_under, with_waker, without_wait}
use Rattle.mea_pool_core.specs.declared.lease_wait.LeaseWait.{LeaseWait}
use Rattle.mea_pool_core.specs.declared.lease_wait.LeaseWait.TheVariants.{New, Queued, Done, Refused}

-- how many places there are, and how many of them leases hold; the number and the waker of each wait that waits, in
-- their order; the numbers that were granted a place and not polled since, each with its one; those that a close took out
-- and that were not polled since; whether it is closed; and the wakers that are ready
pub record Places (W : Type 0) : Type 0 where
  pub size : ℕ
  pub held : ℕ
  pub waiting : List (ℕ × W)
  pub granted : map.FinMap nat_cmp ℕ
  pub cut : map.FinMap nat_cmp ℕ
  pub closed : Bool
  pub wakes : List W

-- what lets a `Places` be the value of a model
abbrev pub places_code : {W : Type 0} → Coded W → Coded (Places W)
places_code {W} code =
    code_by
    (ℕ × (ℕ × (List (ℕ × W) × (map.FinMap nat_cmp ℕ × (map.FinMap nat_cmp ℕ × (Bool × List W))))))
    (coded× coded_ℕ (coded× coded_ℕ (coded× (coded_list (coded× coded_ℕ code)) (coded× (map.code coded_ℕ coded_ℕ) (coded× (map.code coded_ℕ coded_ℕ) (coded× coded_bool (coded_list code)))))))
    (λ s. (s.size, (s.held, (s.waiting, (s.granted, (s.cut, (s.closed, s.wakes)))))))
    (λ p. record { size = p.0; held = p.1.0; waiting = p.1.1.0; granted = p.1.1.1.0; cut = p.1.1.1.1.0; closed = p.1.1.1.1.1.0; wakes = p.1.1.1.1.1.1 })
    (λ _. refl)

-- the numbers that a close takes out are kept
abbrev pub cutting : {W : Type 0} → map.FinMap nat_cmp ℕ → List (ℕ × W) → map.FinMap nat_cmp ℕ
cutting cut [] = cut
cutting cut (e ∷ q) = cutting (map.insert cut e.0 1) q

-- a wait that was polled and is not over stands here: it was granted a place, waits, or was cut by a close; one that was
-- refused is of places that are closed
abbrev pub StandsAt : {W : Type 0} → List (ℕ × W) → map.FinMap nat_cmp ℕ → map.FinMap nat_cmp ℕ → Bool → LeaseWait → Type 0
StandsAt waiting granted cut closed New = Unit {0}
StandsAt waiting granted cut closed (Queued n) = ((map.get granted n ≡ Some 1) ⊎ IsSome (waker_under waiting n)) ⊎ ((closed ≡ true) × (map.get cut n ≡ Some 1))
StandsAt waiting granted cut closed Done = Unit {0}
StandsAt waiting granted cut closed Refused = closed ≡ true

-- the wait has not got a lease
abbrev pub IsUnmet : LeaseWait → Type 0
IsUnmet New = Unit {0}
IsUnmet (Queued _) = Unit {0}
IsUnmet Done = ⊥
IsUnmet Refused = Unit {0}

module _ {W : Type 0} where
  -- ---- the semaphore that stands for places

  -- those that wait in a queue, each with its waker
  abbrev pub leases_of : List (Waiter W × ℕ) → List (ℕ × W)
  leases_of [] = []
  leases_of ((Acquires number demand waker, lack) ∷ q) = (number, waker) ∷ leases_of q
  leases_of ((Owes, lack) ∷ q) = leases_of q

  -- the places that a semaphore stands for, one for each permit
  abbrev pub places_of : Core W → Places W
  places_of s = record { size = s.live; held = held_of s; waiting = leases_of s.queue; granted = s.granted; cut = s.cut; closed = s.closed; wakes = s.wakes }

  -- each acquire asks for one permit, and each that was granted has one
  pub record IsPlaces (s : Core W) : Type 0 where
    pub sound : core.IsSound s
    pub ones : AskForOne s.queue
    pub counted : s.free + held_of s + map.len s.granted ≡ s.live

  -- ---- places

  -- how many places are not free: those that leases hold, and those that were granted
  abbrev pub taken_of : Places W → ℕ
  taken_of s = s.held + map.len s.granted

  -- closed, and all places are free
  abbrev pub are_drained : Places W → Bool
  are_drained s = s.closed && (taken_of s == 0)

  -- the wait is one of these places
  abbrev pub Fits : Places W → LeaseWait → Type 0
  Fits s a = StandsAt s.waiting s.granted s.cut s.closed a

  -- a new wait stands last, under a number that is fresh
  pub record WaitsLast (s s' : Places W) (n : ℕ) (w : W) : Type 0 where
    pub is : s' ≡ record s { waiting = s.waiting ++ (n, w) ∷ [] }
    pub not_waiting : waker_under s.waiting n ≡ None
    pub not_granted : map.get s.granted n ≡ None
    pub not_cut : map.get s.cut n ≡ None

  -- what a poll does
  abbrev pub PollsPlace : Places W → LeaseWait → W → Result (OpenTurn W) (W × NoMemory) → Places W → LeaseWait → Type 0
  PollsPlace s New w r s' a' =
      (s.closed ≡ true → (r ≡ Ok (Closed w)) × (s' ≡ s) × (a' ≡ Refused))
      × (s.closed ≡ false → taken_of s < s.size → (r ≡ Ok (Ready w)) × (s' ≡ record s { held = s.held + 1 }) × (a' ≡ Done))
      × (s.closed ≡ false → s.size ≤ taken_of s → MatchResult r
      (λ turn. (turn ≡ Pending) × ((n : ℕ) × WaitsLast s s' n w × (a' ≡ Queued n)))
      (λ e. (e.0 ≡ w) × (s' ≡ s) × (a' ≡ New)))
  PollsPlace s (Queued n) w r s' a' =
      (map.get s.granted n ≡ Some 1 → (r ≡ Ok (Ready w)) × (s' ≡ record s { held = s.held + 1; granted = map.remove s.granted n }) × (a' ≡ Done))
      × (IsSome (waker_under s.waiting n) → (r ≡ Ok Pending) × (s' ≡ record s { waiting = with_waker s.waiting n w }) × (a' ≡ Queued n))
      × ((s.closed ≡ true) × (map.get s.cut n ≡ Some 1) → (r ≡ Ok (Closed w)) × (s' ≡ record s { cut = map.remove s.cut n }) × (a' ≡ Refused))
  PollsPlace s Done w r s' a' = Unit {0}
  PollsPlace s Refused w r s' a' = (r ≡ Ok (Closed w)) × (s' ≡ s) × (a' ≡ Refused)

  -- a poll that is ready has found a place that no lease held
  abbrev pub FindsPlace : Places W → OpenTurn W → Type 0
  FindsPlace s (Ready _) = s.held < s.size
  FindsPlace s Pending = Unit {0}
  FindsPlace s (Closed _) = Unit {0}

  -- what a try for a place does: it takes one exactly where they are open and one is free
  abbrev pub TriesPlace : Places W → Bool → Places W → Type 0
  TriesPlace s true s' = (s.closed ≡ false) × (taken_of s < s.size) × (s' ≡ record s { held = s.held + 1 })
  TriesPlace s false s' = ((s.closed ≡ true) ⊎ (s.size ≤ taken_of s)) × (s' ≡ s)

  -- a place that becomes free goes to the first that waits, which is granted and woken
  abbrev pub place_for : List (ℕ × W) → Places W → Places W
  place_for [] s = s
  place_for (first ∷ rest) s = record s { waiting = rest; granted = map.insert s.granted first.0 1; wakes = s.wakes ++ first.1 ∷ [] }

  -- the same, by who waits now
  abbrev pub with_place : Places W → Places W
  with_place s = place_for s.waiting s

  -- what the end of a wait does
  abbrev pub CancelsPlace : Places W → LeaseWait → Places W → Type 0
  CancelsPlace s New s' = s' ≡ s
  CancelsPlace s (Queued n) s' =
      (map.get s.granted n ≡ Some 1 → s' ≡ with_place (record s { granted = map.remove s.granted n }))
      × (IsSome (waker_under s.waiting n) → s' ≡ record s { waiting = without_wait s.waiting n })
      × ((s.closed ≡ true) × (map.get s.cut n ≡ Some 1) → s' ≡ record s { cut = map.remove s.cut n })
  CancelsPlace s Done s' = s' ≡ s
  CancelsPlace s Refused s' = s' ≡ s

  -- all that wait are cut: they leave their list and are woken, in its order
  abbrev pub closed_places : Places W → Places W
  closed_places s = record s { waiting = []; cut = cutting s.cut s.waiting; closed = true; wakes = s.wakes ++ map {A = ℕ × W} (λ e. e.1) s.waiting }
