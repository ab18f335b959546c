use Rattle.std.proofs.Common.{ap, sym, ◌∙◌, None, Some}
use Rattle.std.specs.Option.{option_copied}
use Rattle.mea_once.proofs.PartEvents.{if_borrowed, use_cause}
use Rattle.mea_once.proofs.cell_part.CellPart.cause_of_use.Goals as goal

pub returns-in-Some : goal.returns-in-Some
returns-in-Some g c = c.borrowed_if.ensures ∙ ap if_borrowed c.is_alone.ensures ∙ sym (use_cause g.C.TurnCore.is_once c.self.inside.cells c.self.inside.futures c.self.inside.next c.self.view_is c.self.invariant c.args.o (Some c.in-Some.entry.now) (sym c.get.ensures ∙ ap option_copied c.in-Some.is))

pub returns-in-None : goal.returns-in-None
returns-in-None g c = sym (use_cause g.C.TurnCore.is_once c.self.inside.cells c.self.inside.futures c.self.inside.next c.self.view_is c.self.invariant c.args.o None (sym c.get.ensures ∙ ap option_copied c.in-None.is))
