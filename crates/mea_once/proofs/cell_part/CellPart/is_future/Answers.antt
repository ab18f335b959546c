use Rattle.std.proofs.Common.{◌∙◌}
use Rattle.mea_once.proofs.PartEvents.{cell_form, future_of}
use Rattle.mea_once.proofs.cell_part.CellPart.is_future.Goals as goal

pub returns : goal.returns
returns g c = c.has.ensures ∙ future_of (cell_form g.C.TurnCore.is_once) c.self.inside.cells c.self.inside.futures c.self.inside.next c.self.view_is c.args.f
