-- what a contract sees of a `BarrierCore`, and what a poll of it does
use Rattle.std.specs.Prelude.{ℕ, ◌≡◌, ◌≢◌, ◌+◌, ◌*◌, ◌/◌, ◌%◌, ◌<◌, ◌≤◌, ◌==◌, ◌&&◌, ◌++◌, Bool, true, false, List, Option, None, Result, Ok, Err, MatchResult, nat_le, if◌then◌else◌, refl}
use Rattle.std.specs.Coded.{Coded, code_by, coded×, coded_ℕ, coded_list}
use Rattle.mea_sets.specs.Poll.{Poll, Ready, Pending}
use Rattle.mea_sets.specs.declared.place.Place.{Place}
use Rattle.mea_sets.specs.WaitSet.{Registered, registered_code, has_given, with_waker, slot_after, drained}
use Rattle.mea_sets.specs.WaitSet as sets
use Rattle.mea_meet_core.specs.declared.barrier_fault.BarrierFault.{BarrierFault}
use Rattle.mea_meet_core.specs.declared.barrier_fault.BarrierFault.TheVariants.{NoMemory, Overflow}
use Rattle.mea_meet_core.specs.declared.barrier_wait.BarrierWait.{BarrierWait}
use Rattle.mea_meet_core.specs.declared.barrier_wait.BarrierWait.TheVariants.{New, Arrived, Done}

-- a barrier: how many arrivals make a round, the number of all arrivals so far, the wakers that are
-- registered on the end of the round, and those that are ready
pub record Barrier (W : Type 0) : Type 0 where
  pub size : ℕ
  pub arrivals : ℕ
  pub waiting : Registered W
  pub wakes : List W

-- what lets a `Barrier` be the value of a model
abbrev pub barrier_code : {W : Type 0} → Coded W → Coded (Barrier W)
barrier_code {W} code =
    code_by
    (ℕ × (ℕ × (Registered W × List W)))
    (coded× coded_ℕ (coded× coded_ℕ (coded× (registered_code code) (coded_list code))))
    (λ b. (b.size, (b.arrivals, (b.waiting, b.wakes))))
    (λ p. record { size = p.0; arrivals = p.1.0; waiting = p.1.1.0; wakes = p.1.1.1 })
    (λ _. refl)

module _ {W : Type 0} where
  -- the round's number: how many rounds all arrivals so far have completed
  abbrev pub round_of : Barrier W → ℕ
  round_of b = b.arrivals / b.size

  -- the next arrival leads: the number of arrivals that it makes is a multiple of the size
  abbrev pub leads : Barrier W → Bool
  leads b = (b.arrivals + 1) % b.size == 0

  -- the barrier after an arrival that leads: all who are registered are woken and leave
  abbrev pub led : Barrier W → Barrier W
  led b = record b { arrivals = b.arrivals + 1; waiting = drained b.waiting; wakes = b.wakes ++ b.waiting.wakers }

  -- the barrier after an arrival that waits with a waker
  abbrev pub joined : Barrier W → W → Barrier W
  joined b w = record b { arrivals = b.arrivals + 1; waiting = with_waker b.waiting None w }

  -- the barrier has completed a round: the arrivals have reached the first multiple of the size after it
  abbrev pub HasCompleted : Barrier W → ℕ → Type 0
  HasCompleted b round = (round + 1) * b.size ≤ b.arrivals

  -- what a first poll does: it is one more arrival
  pub record Arrives (b : Barrier W) (w : W) (result : Result (Poll Bool) (BarrierFault W)) (b' : Barrier W) (wait' : BarrierWait) : Type 0 where
    pub completes : leads b ≡ true → round_of b ≢ 18446744073709551615 → (result ≡ Ok (Ready true)) × (b' ≡ led b) × (wait' ≡ Done)
    pub overflow : leads b ≡ true → round_of b ≡ 18446744073709551615 → (result ≡ Err (Overflow w)) × (b' ≡ b) × (wait' ≡ New)
    pub follows : leads b ≡ false → MatchResult result
        (λ turn. (turn ≡ Pending) × (b' ≡ joined b w) × (wait' ≡ Arrived (round_of b) (slot_after b.waiting None)))
        (λ fault. (fault ≡ NoMemory w) × (b' ≡ b) × (wait' ≡ New))

  -- what a later poll does: it is ready once its round is completed, else its waker is replaced
  pub record Returns (b : Barrier W) (round : ℕ) (slot : Option Place) (w : W) (result : Result (Poll Bool) (BarrierFault W)) (b' : Barrier W) (wait' : BarrierWait) : Type 0 where
    pub ready : HasCompleted b round → (result ≡ Ok (Ready false)) × (b' ≡ b) × (wait' ≡ Done)
    pub pending : b.arrivals < (round + 1) * b.size → MatchResult result
        (λ turn. (turn ≡ Pending) × (b' ≡ record b { waiting = with_waker b.waiting slot w }) × (wait' ≡ Arrived round (slot_after b.waiting slot)))
        (λ fault. (fault ≡ NoMemory w) × (b' ≡ b) × (wait' ≡ Arrived round slot))

  -- what a poll does; a wait that was ready is not polled again
  abbrev pub Polls : Barrier W → BarrierWait → W → Result (Poll Bool) (BarrierFault W) → Barrier W → BarrierWait → Type 0
  Polls b New w result b' wait' = Arrives b w result b' wait'
  Polls b (Arrived round slot) w result b' wait' = Returns b round slot w result b' wait'
  Polls b Done w result b' wait' = Unit {0}

  -- the round and the number, if there is any, are not past the barrier's own
  abbrev pub has_seen : Barrier W → ℕ → Option Place → Bool
  has_seen b round slot = nat_le round (round_of b) && has_given b.waiting slot

  -- the wait belongs to the barrier: its round and its number, if it has any, are not past the barrier's own
  abbrev pub is_own : Barrier W → BarrierWait → Bool
  is_own b New = true
  is_own b (Arrived round slot) = has_seen b round slot
  is_own b Done = true

  -- the wait belongs to the barrier and was not ready yet
  abbrev pub is_open : Barrier W → BarrierWait → Bool
  is_open b New = true
  is_open b (Arrived round slot) = has_seen b round slot
  is_open b Done = false

  -- the waker of a wait that has arrived is registered
  abbrev pub is_registered : Barrier W → BarrierWait → Bool
  is_registered b New = false
  is_registered b (Arrived round slot) = sets.is_registered b.waiting slot
  is_registered b Done = false

  -- the wait that a checked poll uses: one that is not open is renewed
  abbrev pub usable_wait : Barrier W → BarrierWait → BarrierWait
  usable_wait b wait = if is_open b wait then wait else New
