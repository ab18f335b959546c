-- a gate that opens once, and who waits for that
use Rattle.std.specs.Prelude.{ℕ, ◌≡◌, ◌++◌, ◌⊎◌, Bool, true, false, List, [], ◌∷◌, map, None, IsSome, Result, Ok, MatchResult, refl}
use Rattle.std.specs.Coded.{Coded, code_by, coded×, coded_ℕ, coded_bool, coded_list}
use Rattle.std.specs.Ordering.{nat_cmp}
use Rattle.std.specs.FinMap as map
use Rattle.mea_base.specs.declared.poll.Poll.{Poll}
use Rattle.mea_base.specs.declared.poll.Poll.TheVariants.{Ready, Pending}
use Rattle.mea_base.specs.declared.no_memory.NoMemory.{NoMemory}
use Rattle.mea_lock_core.specs.Condvar.{Condvar, waker_under, with_waker, without_wait, notifying}
use Rattle.mea_lock_core.specs.Lock.{Lock, permits_of}
use Rattle.mea_lock_core.specs.declared.cond_wait.CondWait.{CondWait}
use Rattle.mea_lock_core.specs.declared.cond_wait.CondWait.TheVariants as cond
use Rattle.mea_pool_core.specs.declared.drain_wait.DrainWait.{DrainWait}
use Rattle.mea_pool_core.specs.declared.drain_wait.DrainWait.TheVariants.{New, Listed, Done}

-- whether it is open; the number and the waker of each wait, in their order; the numbers that were told and not polled
-- since; and the wakers that are ready
pub record Gate (W : Type 0) : Type 0 where
  pub opened : Bool
  pub waiting : List (ℕ × W)
  pub told : map.FinMap nat_cmp Bool
  pub wakes : List W

-- what lets a `Gate` be the value of a model
abbrev pub gate_code : {W : Type 0} → Coded W → Coded (Gate W)
gate_code {W} code =
    code_by
    (Bool × (List (ℕ × W) × (map.FinMap nat_cmp Bool × List W)))
    (coded× coded_bool (coded× (coded_list (coded× coded_ℕ code)) (coded× (map.code coded_ℕ coded_bool) (coded_list code))))
    (λ g. (g.opened, (g.waiting, (g.told, g.wakes))))
    (λ p. record { opened = p.0; waiting = p.1.0; told = p.1.1.0; wakes = p.1.1.1 })
    (λ _. refl)

-- where a wait that was polled and is not over stands: it waits, or was told
abbrev pub IsListed : {W : Type 0} → List (ℕ × W) → map.FinMap nat_cmp Bool → ℕ → Type 0
IsListed waiting told n = IsSome (waker_under waiting n) ⊎ IsSome (map.get told n)

-- a wait that may be polled: a new one, or one that stands here
abbrev pub MayPollAt : {W : Type 0} → List (ℕ × W) → map.FinMap nat_cmp Bool → DrainWait → Type 0
MayPollAt waiting told New = Unit {0}
MayPollAt waiting told (Listed n) = IsListed waiting told n
MayPollAt waiting told Done = ⊥

-- a wait that may be ended: the same, or one that is over
abbrev pub MayEndAt : {W : Type 0} → List (ℕ × W) → map.FinMap nat_cmp Bool → DrainWait → Type 0
MayEndAt waiting told New = Unit {0}
MayEndAt waiting told (Listed n) = IsListed waiting told n
MayEndAt waiting told Done = Unit {0}

-- the wait that stands in a condition variable at this stage
abbrev pub listed_of : CondWait → DrainWait
listed_of cond.New = Done
listed_of (cond.Listed n) = Listed n
listed_of (cond.Locking by_one a) = Done
listed_of cond.Done = Done

module _ {W : Type 0} where
  -- what a lock over a flag and a condition variable stand for
  abbrev pub gate_of : Lock Bool W → Condvar W → Gate W
  gate_of l c = record { opened = l.value; waiting = c.waiting; told = c.notified; wakes = c.wakes }

  -- nobody has the lock; at an open gate nobody waits, and of one that is shut nobody was told
  pub record IsGate (l : Lock Bool W) (c : Condvar W) : Type 0 where
    pub free : l.permits ≡ permits_of 1
    pub left : l.value ≡ true → c.waiting ≡ []
    pub shut : l.value ≡ false → c.notified ≡ map.empty

  -- a new wait stands last, under a number that is fresh
  pub record StandsLast (g g' : Gate W) (n : ℕ) (w : W) : Type 0 where
    pub is : g' ≡ record g { waiting = g.waiting ++ (n, w) ∷ [] }
    pub not_waiting : waker_under g.waiting n ≡ None
    pub not_told : map.get g.told n ≡ None

  -- what a poll does
  abbrev pub PollsGate : Gate W → DrainWait → W → Result (Poll (Unit {0})) (W × NoMemory) → Gate W → DrainWait → Type 0
  PollsGate g New w r g' c' =
      (g.opened ≡ true → (r ≡ Ok (Ready tt)) × (g' ≡ g) × (c' ≡ Done))
      × (g.opened ≡ false → MatchResult r
      (λ poll. (poll ≡ Pending) × ((n : ℕ) × StandsLast g g' n w × (c' ≡ Listed n)))
      (λ e. (e.0 ≡ w) × (g' ≡ g) × (c' ≡ New)))
  PollsGate g (Listed n) w r g' c' =
      (g.opened ≡ true → (r ≡ Ok (Ready tt)) × (g' ≡ record g { told = map.remove g.told n }) × (c' ≡ Done))
      × (g.opened ≡ false → (r ≡ Ok Pending) × (g' ≡ record g { waiting = with_waker g.waiting n w }) × (c' ≡ Listed n))
  PollsGate g Done w r g' c' = Unit {0}

  -- the gate opens: all that wait are told and woken, in their order
  abbrev pub gate_opened : Gate W → Gate W
  gate_opened g = record { opened = true; waiting = []; told = notifying g.told g.waiting; wakes = g.wakes ++ map {A = ℕ × W} (λ e. e.1) g.waiting }

  -- what the end of a wait does
  abbrev pub EndsGate : Gate W → DrainWait → Gate W → Type 0
  EndsGate g New g' = g' ≡ g
  EndsGate g (Listed n) g' =
      (g.opened ≡ true → g' ≡ record g { told = map.remove g.told n })
      × (g.opened ≡ false → g' ≡ record g { waiting = without_wait g.waiting n })
  EndsGate g Done g' = g' ≡ g
