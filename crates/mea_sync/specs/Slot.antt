-- where the value of a reader-writer lock rests
use Rattle.std.specs.Prelude.{Option, Some, None}
use Rattle.std.specs.Arc.{arc_value}
use Rattle.std.specs.declared.sync.Arc.{Arc}

-- the value, owned or shared, unless the guard of a write has it
abbrev pub value_in : {T Z : Type 0} → Option T → Option (Arc T Z) → Option T
value_in (Some value) shared = Some value
value_in None (Some arc) = Some (arc_value arc)
value_in None None = None
