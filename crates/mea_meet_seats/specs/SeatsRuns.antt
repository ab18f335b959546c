-- what polls and ends make of a count that has not ended, and how many waited at one time at most
use Rattle.std.specs.Prelude.{ℕ, ◌-◌, [], Option, length, max}
use Rattle.mea_sets.specs.declared.place.Place.{Place}
use Rattle.mea_sets.specs.Countdown.{count_from}
use Rattle.mea_meet_seats.specs.Seats.{Seats, seated, vacated}

module _ {W : Type 0} where
  -- how many places the set has, taken or vacant
  abbrev pub places : Seats W → ℕ
  places s = length s.count.waiting.wakers

  -- how many of them are taken: so many wait
  abbrev pub taken : Seats W → ℕ
  taken s = places s - length s.free

-- the count after a run, and the greatest number that waited at one time in it
pub data SeatsRuns {W : Type 0} : Seats W → ℕ → Type 0 where
  Begins : (n : ℕ) → SeatsRuns (record { count = count_from n; free = [] }) 0
  Polls : (s : Seats W) (most : ℕ) (slot : Option Place) (w : W) → SeatsRuns s most → SeatsRuns (seated s slot w) (max most (taken (seated s slot w)))
  Ends : (s : Seats W) (most : ℕ) (slot : Option Place) → SeatsRuns s most → SeatsRuns (vacated s slot) most
  Counts : (s : Seats W) (most n : ℕ) → SeatsRuns s most → SeatsRuns (record s { count = record s.count { number = n } }) most
