-- what a cell ends as, where a `&mut` to its value is returned
use Rattle.std.specs.Prelude.{Option, Some}
use Rattle.std.specs.Borrow.{LendsIf, Fml, RattleType, MutBor}
use Rattle.mea_once_core.specs.Cell.{Cell}
use Rattle.mea_once_core.specs.contracts.cell_core.CellCore.{the_row}

-- once the borrow, if there is one, ends, the cell has the last value written through it
abbrev pub lends_value : (T W : RattleType) → MutBor (Cell T.Denot W.Denot) → Option (MutBor T.Denot) → Fml
lends_value T W s r = LendsIf (the_row T W) T s r (λ v. record s.now { value = Some v }) s.now
