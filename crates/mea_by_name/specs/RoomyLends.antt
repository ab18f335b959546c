-- what a `Roomy` ends as, where a `&mut` to what stands at a name is returned
use Rattle.std.specs.Prelude.{ℕ, Option}
use Rattle.std.specs.Borrow.{Lends, LendsIf, Fml, RattleType, MutBor}
use Rattle.mea_by_name.specs.Room.{Room, with_thing}
use Rattle.mea_by_name.specs.contracts.roomy.Roomy.{the_row}

-- once the borrow r ends, the last value written through r stands at the name
abbrev pub lends_thing : (X : RattleType) → MutBor (Room X.Denot) → ℕ → MutBor X.Denot → Fml
lends_thing X s name r = Lends (the_row X) X s r (with_thing s.now name)

-- the same where there is a borrow, and where there is none nothing has changed
abbrev pub lends_if_there : (X : RattleType) → MutBor (Room X.Denot) → ℕ → Option (MutBor X.Denot) → Fml
lends_if_there X s name r = LendsIf (the_row X) X s r (with_thing s.now name) s.now
