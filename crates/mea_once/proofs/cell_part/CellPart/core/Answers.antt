use Rattle.std.proofs.Common.{ap, sym, subst, ◌∙◌, None, Some, is_some}
use Rattle.std.specs.Option.{option_copied}
use Rattle.mea_once.specs.Lends.{StandsFor}
use Rattle.mea_once.proofs.PartEvents.{cell_form, object_of, stands_for}
use Rattle.mea_once.proofs.cell_part.CellPart.core.Goals as goal

pub returns-in_err-entry-clause-there : goal.returns-in_err-entry-clause-there
returns-in_err-entry-clause-there g c = ap is_some c.from_residual.ensures ∙ object_of (cell_form g.C.TurnCore.is_once) c.self.inside.cells c.self.inside.futures c.self.inside.next c.self.view_is c.args.o None (sym c.get.ensures ∙ ap option_copied c.in_err-entry.was)

pub returns-clause-there : goal.returns-clause-there
returns-clause-there g c = object_of (cell_form g.C.TurnCore.is_once) c.self.inside.cells c.self.inside.futures c.self.inside.next c.self.view_is c.args.o (Some c.in_ok-entry.entry.now) (sym c.get.ensures ∙ ap option_copied c.in_ok-entry.was)

pub returns-clause-stands : goal.returns-clause-stands
returns-clause-stands g c = subst (StandsFor c.args.self.now.hall c.args.o) (sym c.core.ensures) (stands_for g.C.TurnCore.is_once c.self.inside.cells c.self.inside.futures c.self.inside.next c.self.view_is c.self.invariant c.args.o c.in_ok-entry.entry.now (sym c.get.ensures ∙ ap option_copied c.in_ok-entry.was))
