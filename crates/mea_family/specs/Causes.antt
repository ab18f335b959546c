-- why an event is refused, as far as families have it in common
use Rattle.std.specs.Prelude.{ℕ, Bool, Option, Some, None, nat_lt, if◌then◌else◌}
use Rattle.mea_family.specs.declared.stop.Stop.{Stop}
use Rattle.mea_family.specs.declared.stop.Stop.TheVariants as stops

-- unknown, unless this holds
abbrev pub unknown_unless : Bool → Option Stop
unknown_unless known = if known then None else Some stops.Unknown

-- unknown, unless this is known; and then borrowed where there are so many borrowers
abbrev pub borrowed_by : Bool → ℕ → Option Stop
borrowed_by known n = if known then (if nat_lt 0 n then Some stops.Borrowed else None) else Some stops.Unknown
