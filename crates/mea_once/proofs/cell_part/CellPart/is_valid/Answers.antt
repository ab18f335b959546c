use Rattle.std.proofs.Common.{subst}
use Rattle.mea_family.specs.Play.{Part}
use Rattle.mea_once_model.specs.Cells.{Cells}
use Rattle.mea_once_model.specs.Valid.{HasCells}
use Rattle.mea_once.proofs.Validity.{cells_valid}
use Rattle.mea_once.proofs.cell_part.CellPart.is_valid.Goals as goal

pub returns : goal.returns
returns g c = subst (λ (p : Part Cells). HasCells p.hall p.next) c.self.view_is (cells_valid g.C.TurnCore.is_once c.self.inside.cells c.self.inside.futures c.self.inside.next c.self.invariant)
