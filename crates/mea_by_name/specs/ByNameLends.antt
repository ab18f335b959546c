-- what a `ByName` ends as, where a `&mut` to what stands at a name is returned
use Rattle.std.specs.Prelude.{ℕ, Option}
use Rattle.std.specs.Borrow.{Lends, LendsIf, Fml, RattleType, MutBor}
use Rattle.std.specs.Ordering.{nat_cmp}
use Rattle.std.specs.FinMap.{FinMap, insert}
use Rattle.mea_by_name.specs.contracts.by_name.ByName.{the_row}

-- once the borrow r ends, the last value written through r stands at the name
abbrev pub lends_value : (X : RattleType) → MutBor (FinMap nat_cmp X.Denot) → ℕ → MutBor X.Denot → Fml
lends_value X s name r = Lends (the_row X) X s r (insert s.now name)

-- the same where there is a borrow, and where there is none nothing has changed
abbrev pub lends_get : (X : RattleType) → MutBor (FinMap nat_cmp X.Denot) → ℕ → Option (MutBor X.Denot) → Fml
lends_get X s name r = LendsIf (the_row X) X s r (insert s.now name) s.now
