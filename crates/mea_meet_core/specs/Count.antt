-- what the calls of a latch and of a wait group do to their count
use Rattle.std.specs.Prelude.{ℕ, ◌+◌, ◌==◌, Option, None, Result, Ok, Err, if◌then◌else◌}
use Rattle.mea_sets.specs.declared.place.Place.{Place}
use Rattle.mea_sets.specs.WaitSet.{has_given}
use Rattle.mea_sets.specs.Countdown.{Count}

module _ {W : Type 0} where
  -- Ok at 0, else the count
  abbrev pub tried : Count W → Result (Unit {0}) ℕ
  tried c = if c.number == 0 then Ok tt else Err c.number

  -- the wait that a checked poll uses: one that does not belong to the count is renewed
  abbrev pub usable : Count W → Option Place → Option Place
  usable c slot = if has_given c.waiting slot then slot else None

  -- the count with one more
  abbrev pub increased : Count W → Count W
  increased c = record c { number = c.number + 1 }
