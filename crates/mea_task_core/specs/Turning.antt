-- one turn of a task as a whole
use Rattle.std.specs.Prelude.{ℕ, zero, suc, Bool, true, false, Option, Some, None, if◌then◌else◌}
use Rattle.mea_task_core.specs.Machine.{Machine, move}
use Rattle.mea_task_core.specs.Bounds.{work}

-- whether a turn is on
abbrev pub is_on : Option ℕ → Bool
is_on None = false
is_on (Some t) = true

-- at most so many moves, and none once the turn is over
abbrev pub to_its_end : ℕ → Machine → Machine
to_its_end zero m = m
to_its_end (suc n) m = if is_on m.running then to_its_end n (move m) else m

-- the first task of the run queue begins its turn, and plays its steps until it waits, yields, fails or is finished
abbrev pub turn : Machine → Machine
turn m = to_its_end (work m) (move m)

-- so many turns, one after another
abbrev pub turns : ℕ → Machine → Machine
turns zero m = m
turns (suc n) m = turns n (turn m)
