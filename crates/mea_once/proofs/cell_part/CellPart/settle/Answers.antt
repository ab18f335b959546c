use Rattle.std.proofs.Common.{Some, None, refl, sym, ap, ◌∙◌}
use Rattle.std.specs.Option.{option_copied_mut}
use Rattle.mea_family.specs.Causes.{unknown_unless}
use Rattle.mea_family.proofs.Refusals.{unknown}
use Rattle.mea_once.proofs.PartEvents.{cell_form, settle_cause, looked_at, its_object, its_room, site, fits_settled, settled_part}
use Rattle.mea_once.proofs.cell_part.CellPart.settle.Goals as goal

pub returns-in_default : goal.returns-in_default
returns-in_default g c = (unknown _ _ (settle_cause (cell_form g.C.TurnCore.is_once) c.self.inside.cells c.self.inside.futures c.self.inside.next c.self.view_is c.args.f None (sym c.get_mut.ensures.value ∙ ap option_copied_mut c.in_default.is)), c.self.view_is, refl)

pub invariant_of-self-then-not-can_settle : goal.invariant_of-self-then-not-can_settle
invariant_of-self-then-not-can_settle g c = (looked_at (site g.C.TurnCore.is_once c.self.inside.cells c.self.inside.futures c.self.inside.next c.self.view_is c.self.invariant c.requires.next c.ranges.number.fits) c.args.f c.in-Some.future.now (sym c.get_mut.ensures.value ∙ ap option_copied_mut c.in-Some.is)).0

pub returns-then-not-can_settle : goal.returns-then-not-can_settle
returns-then-not-can_settle g c = (unknown _ _ (settle_cause (cell_form g.C.TurnCore.is_once) c.self.inside.cells c.self.inside.futures c.self.inside.next c.self.view_is c.args.f (Some c.in-Some.future.now) (sym c.get_mut.ensures.value ∙ ap option_copied_mut c.in-Some.is) ∙ ap unknown_unless (sym c.can_settle.ensures ∙ c.if-not-can_settle.true)), (looked_at (site g.C.TurnCore.is_once c.self.inside.cells c.self.inside.futures c.self.inside.next c.self.view_is c.self.invariant c.requires.next c.ranges.number.fits) c.args.f c.in-Some.future.now (sym c.get_mut.ensures.value ∙ ap option_copied_mut c.in-Some.is)).1, refl)

pub at_mut-entry-requires : goal.at_mut-entry-requires
at_mut-entry-requires g c = its_object (site g.C.TurnCore.is_once c.self.inside.cells c.self.inside.futures c.self.inside.next c.self.view_is c.self.invariant c.requires.next c.ranges.number.fits) c.args.f c.in-Some.future.now (sym c.get_mut.ensures.value ∙ ap option_copied_mut c.in-Some.is)

pub settle-requires-clause-room : goal.settle-requires-clause-room
settle-requires-clause-room g c = its_room (site g.C.TurnCore.is_once c.self.inside.cells c.self.inside.futures c.self.inside.next c.self.view_is c.self.invariant c.requires.next c.ranges.number.fits) c.in-Some.future.now.cell c.at_mut-entry.result.now c.at_mut-entry.ensures.value c.args.ready.now c.requires.room

pub settle-requires-clause-fits : goal.settle-requires-clause-fits
settle-requires-clause-fits g c = fits_settled g.C.TurnCore.is_once (site g.C.TurnCore.is_once c.self.inside.cells c.self.inside.futures c.self.inside.next c.self.view_is c.self.invariant c.requires.next c.ranges.number.fits) c.args.f c.in-Some.future.now c.at_mut-entry.result.now (sym c.get_mut.ensures.value ∙ ap option_copied_mut c.in-Some.is) c.at_mut-entry.ensures.value c.args.outcome c.requires.fits

pub invariant_of-self-2 : goal.invariant_of-self-2
invariant_of-self-2 g c = (settled_part g.C.TurnCore.is_once (site g.C.TurnCore.is_once c.self.inside.cells c.self.inside.futures c.self.inside.next c.self.view_is c.self.invariant c.requires.next c.ranges.number.fits) c.args.f c.in-Some.future.now c.at_mut-entry.result.now (sym c.get_mut.ensures.value ∙ ap option_copied_mut c.in-Some.is) c.at_mut-entry.ensures.value c.args.outcome c.settle.new.future c.settle.new.self c.args.ready.now c.settle.new.ready c.settle.ensures).0

pub returns : goal.returns
returns g c = ((settle_cause (cell_form g.C.TurnCore.is_once) c.self.inside.cells c.self.inside.futures c.self.inside.next c.self.view_is c.args.f (Some c.in-Some.future.now) (sym c.get_mut.ensures.value ∙ ap option_copied_mut c.in-Some.is) ∙ ap unknown_unless (sym c.can_settle.ensures ∙ c.if-not-can_settle.false)), (settled_part g.C.TurnCore.is_once (site g.C.TurnCore.is_once c.self.inside.cells c.self.inside.futures c.self.inside.next c.self.view_is c.self.invariant c.requires.next c.ranges.number.fits) c.args.f c.in-Some.future.now c.at_mut-entry.result.now (sym c.get_mut.ensures.value ∙ ap option_copied_mut c.in-Some.is) c.at_mut-entry.ensures.value c.args.outcome c.settle.new.future c.settle.new.self c.args.ready.now c.settle.new.ready c.settle.ensures).1)
