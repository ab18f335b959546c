-- what a contract sees of a `Countdown`, and of the cores that stand on one
use Rattle.std.specs.Prelude.{ℕ, ◌≡◌, ◌-◌, ◌<◌, ◌++◌, ◌&&◌, Bool, List, [], Option, Result, Ok, MatchResult, nat_lt, nat_le, if◌then◌else◌, refl}
use Rattle.std.specs.Coded.{Coded, code_by, coded×, coded_ℕ, coded_list}
use Rattle.mea_sets.specs.Poll.{Poll, Ready, Pending}
use Rattle.mea_base.specs.declared.no_memory.NoMemory.{NoMemory}
use Rattle.mea_sets.specs.declared.place.Place.{Place}
use Rattle.mea_sets.specs.WaitSet.{Registered, registered_code, with_waker, slot_after, drained}

-- a count: its number, and the wakers that are registered on its end
pub record Count (W : Type 0) : Type 0 where
  pub number : ℕ
  pub waiting : Registered W

-- a count with the wakers that it made ready
pub record Counting (W : Type 0) : Type 0 where
  pub count : Count W
  pub wakes : List W

-- what lets a `Counting` be the value of a model
abbrev pub count_code : {W : Type 0} → Coded W → Coded (Count W)
count_code {W} code =
    code_by
    (ℕ × Registered W)
    (coded× coded_ℕ (registered_code code))
    (λ c. (c.number, c.waiting))
    (λ p. record { number = p.0; waiting = p.1 })
    (λ _. refl)

abbrev pub counting_code : {W : Type 0} → Coded W → Coded (Counting W)
counting_code {W} code =
    code_by
    (Count W × List W)
    (coded× (count_code code) (coded_list code))
    (λ c. (c.count, c.wakes))
    (λ p. record { count = p.0; wakes = p.1 })
    (λ _. refl)

module _ {W : Type 0} where
  -- a count that nobody waits for
  abbrev pub count_from : ℕ → Count W
  count_from n = record { number = n; waiting = record { wakers = []; drains = 0 } }

  -- n less would bring the count to 0 from above
  abbrev pub ends : Count W → ℕ → Bool
  ends c n = nat_lt 0 c.number && nat_le c.number n

  -- the count after n less, at the least 0; where it ends, its registered wakers leave
  abbrev pub decreased : Count W → ℕ → Count W
  decreased c n = record { number = c.number - n; waiting = if ends c n then drained c.waiting else c.waiting }

  -- the wakers that n less makes ready
  abbrev pub woken_by : Count W → ℕ → List W
  woken_by c n = if ends c n then c.waiting.wakers else []

  -- the count and its wakes after n less
  abbrev pub decreasing : Counting W → ℕ → Counting W
  decreasing c n = record { count = decreased c.count n; wakes = c.wakes ++ woken_by c.count n }

  -- what a poll with this slot does: ready at 0, else its waker is registered
  pub record PollsCount (c : Count W) (slot : Option Place) (w : W) (result : Result (Poll (Unit {0})) (W × NoMemory)) (c' : Count W) (slot' : Option Place) : Type 0 where
    pub ready : c.number ≡ 0 → (result ≡ Ok (Ready tt)) × (c' ≡ c) × (slot' ≡ slot)
    pub pending : 0 < c.number → MatchResult result
        (λ turn. (turn ≡ Pending) × (c' ≡ record c { waiting = with_waker c.waiting slot w }) × (slot' ≡ slot_after c.waiting slot))
        (λ e. (e.0 ≡ w) × (c' ≡ c) × (slot' ≡ slot))
