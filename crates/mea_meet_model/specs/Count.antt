-- a count whose end is waited for: of a latch, of a wait group, of a shutdown's signal and its receivers
use Rattle.std.specs.Prelude.{ℕ, ◌+◌, ◌-◌, ◌&&◌, Bool, List, [], nat_lt, nat_le, if◌then◌else◌, refl}
use Rattle.std.specs.Coded.{Coded, code_by, coded×, coded_ℕ, coded_list}
use Rattle.mea_by_name.specs.NamedQueue.{Waiting, registering, wakers}

-- its number, and who is registered on its end, each by its name and with its waker. One that has ended since stays
pub record Count : Type 0 where
  pub number : ℕ
  pub waiting : Waiting

-- a count that nobody waits for
abbrev pub count_from : ℕ → Count
count_from n = record { number = n; waiting = [] }

-- n less would bring the count to 0 from above
abbrev pub ends : Count → ℕ → Bool
ends c n = nat_lt 0 c.number && nat_le c.number n

-- n less, at the least 0; where the count ends, all registered wakers leave
abbrev pub decreased : Count → ℕ → Count
decreased c n = record { number = c.number - n; waiting = if ends c n then [] else c.waiting }

-- the wakers that n less makes ready, in the order of their registration
abbrev pub woken_by : Count → ℕ → List ℕ
woken_by c n = if ends c n then wakers c.waiting else []

-- one more
abbrev pub increased : Count → Count
increased c = record c { number = c.number + 1 }

-- a waker is registered for f
abbrev pub with_waker : Count → ℕ → ℕ → Count
with_waker c f w = record c { waiting = registering c.waiting f w }

-- by which a proof tells two counts apart
abbrev pub count_code : Coded Count
count_code = code_by (ℕ × Waiting) (coded× coded_ℕ (coded_list (coded× coded_ℕ coded_ℕ))) (λ c. (c.number, c.waiting)) (λ p. record { number = p.0; waiting = p.1 }) (λ _. refl)
