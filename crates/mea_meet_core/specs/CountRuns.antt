-- what the calls of a latch make of its count
use Rattle.std.specs.Prelude.{ℕ, Option, Result}
use Rattle.mea_base.specs.declared.no_memory.NoMemory.{NoMemory}
use Rattle.mea_sets.specs.declared.place.Place.{Place}
use Rattle.mea_sets.specs.Poll.{Poll}
use Rattle.mea_sets.specs.Countdown.{Count, decreased, PollsCount}

module _ {W : Type 0} where
  -- arrivals and polls lead from one count to another
  pub data CountRuns : Count W → Count W → Type 0 where
    Starts : (c : Count W) → CountRuns c c
    Fell : (c d : Count W) (n : ℕ) → CountRuns c d → CountRuns c (decreased d n)
    Polled : (c d e : Count W) (slot slot' : Option Place) (w : W) (result : Result (Poll (Unit {0})) (W × NoMemory)) → CountRuns c d → PollsCount d slot w result e slot' → CountRuns c e
