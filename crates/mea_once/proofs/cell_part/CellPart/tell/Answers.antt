use Rattle.std.proofs.Common.{Some, None, refl, sym, ap, ◌∙◌}
use Rattle.std.specs.Option.{option_copied}
use Rattle.mea_family.proofs.Refusals.{unknown, borrowed}
use Rattle.mea_once.proofs.PartEvents.{if_borrowed, rests, use_cause, site, told}
use Rattle.mea_once.proofs.cell_part.CellPart.tell.Goals as goal

pub returns-in_default : goal.returns-in_default
returns-in_default g c = (unknown _ _ (use_cause g.C.TurnCore.is_once c.self.inside.cells c.self.inside.futures c.self.inside.next c.self.view_is c.self.invariant c.args.o None (sym c.get.ensures ∙ ap option_copied c.in_default.is)), refl)

pub returns-then-is_alone : goal.returns-then-is_alone
returns-then-is_alone g c = (borrowed _ _ (use_cause g.C.TurnCore.is_once c.self.inside.cells c.self.inside.futures c.self.inside.next c.self.view_is c.self.invariant c.args.o (Some c.in-Some.entry.now) (sym c.get.ensures ∙ ap option_copied c.in-Some.is) ∙ ap if_borrowed (sym c.is_alone.ensures ∙ c.if-is_alone.true)), refl)

pub invariant_of-self : goal.invariant_of-self
invariant_of-self g c = rests (site g.C.TurnCore.is_once c.self.inside.cells c.self.inside.futures c.self.inside.next c.self.view_is c.self.invariant c.requires c.ranges.number.fits)

pub returns : goal.returns
returns g c = (use_cause g.C.TurnCore.is_once c.self.inside.cells c.self.inside.futures c.self.inside.next c.self.view_is c.self.invariant c.args.o (Some c.in-Some.entry.now) (sym c.get.ensures ∙ ap option_copied c.in-Some.is) ∙ ap if_borrowed (sym c.is_alone.ensures ∙ c.if-is_alone.false), rw (c.content.ensures, c.value-value.ensures.is, c.core.ensures) (told g.C.TurnCore.is_once (site g.C.TurnCore.is_once c.self.inside.cells c.self.inside.futures c.self.inside.next c.self.view_is c.self.invariant c.requires c.ranges.number.fits) c.args.o c.in-Some.entry.now (sym c.get.ensures ∙ ap option_copied c.in-Some.is)))
