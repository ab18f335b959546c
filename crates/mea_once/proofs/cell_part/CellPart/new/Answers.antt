use Rattle.mea_once.proofs.PartEvents.{cell_form, new_kept, new_view}
use Rattle.mea_once.proofs.cell_part.CellPart.new.Goals as goal

pub invariant_of-result : goal.invariant_of-result
invariant_of-result g c = rw (c.new.ensures, c.new-2.ensures) (new_kept (cell_form g.C.TurnCore.is_once))

pub returns : goal.returns
returns g c = rw (c.new.ensures, c.new-2.ensures) (new_view (cell_form g.C.TurnCore.is_once))
