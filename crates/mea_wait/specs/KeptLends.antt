-- what a `Kept` ends as, where a `&mut` to its value is returned
use mir.Syntax.{named}
use Rattle.std.specs.Prelude.{[]}
use Rattle.std.specs.Borrow.{Lends, Fml, RattleType, MutBor}
use Rattle.mea_wait.specs.Kept.{Kept}
use Rattle.mea_wait.specs.contracts.kept.Kept.{the_row}

-- once the borrow r ends, what is kept is the last value written through r
abbrev pub lends_value : (R P : RattleType) → MutBor (Kept P.Denot) → MutBor P.Denot → Fml
lends_value R P s r = Lends (the_row (record { mir = named 1; lft = [] }) R P) P s r (λ v. record { value = v })
