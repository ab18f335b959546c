use Rattle.std.proofs.Common.{ap, sym, ◌∙◌, None, Some}
use Rattle.std.specs.Option.{option_copied}
use Rattle.mea_once.proofs.PartEvents.{cell_form, if_borrowed, whole_cause}
use Rattle.mea_once.proofs.cell_part.CellPart.cause_of_whole.Goals as goal

pub returns-in-Some-clause-is : goal.returns-in-Some-clause-is
returns-in-Some-clause-is g c = c.borrowed_if.ensures ∙ ap if_borrowed c.has_futures.ensures ∙ sym (whole_cause (cell_form g.C.TurnCore.is_once) c.self.inside.cells c.self.inside.futures c.self.inside.next c.self.view_is c.self.invariant c.args.o (Some c.in-Some.entry.now) (sym c.get.ensures ∙ ap option_copied c.in-Some.is))

pub returns-in-None-clause-is : goal.returns-in-None-clause-is
returns-in-None-clause-is g c = sym (whole_cause (cell_form g.C.TurnCore.is_once) c.self.inside.cells c.self.inside.futures c.self.inside.next c.self.view_is c.self.invariant c.args.o None (sym c.get.ensures ∙ ap option_copied c.in-None.is))
