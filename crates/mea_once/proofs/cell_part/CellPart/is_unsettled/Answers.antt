use Rattle.std.proofs.Common.{ap, sym, ◌∙◌, None, Some}
use Rattle.std.specs.Option.{option_copied}
use Rattle.mea_once.proofs.PartEvents.{cell_form, unsettled_of}
use Rattle.mea_once.proofs.cell_part.CellPart.is_unsettled.Goals as goal

pub returns-in-Some : goal.returns-in-Some
returns-in-Some g c = c.can_settle.ensures ∙ unsettled_of (cell_form g.C.TurnCore.is_once) c.self.inside.cells c.self.inside.futures c.self.inside.next c.self.view_is c.args.f (Some c.in-Some.future.now) (sym c.get.ensures ∙ ap option_copied c.in-Some.is)

pub returns-in-None : goal.returns-in-None
returns-in-None g c = unsettled_of (cell_form g.C.TurnCore.is_once) c.self.inside.cells c.self.inside.futures c.self.inside.next c.self.view_is c.args.f None (sym c.get.ensures ∙ ap option_copied c.in-None.is)
