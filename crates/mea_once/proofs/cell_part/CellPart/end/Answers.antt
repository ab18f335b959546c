use Rattle.std.proofs.Common.{Some, None, refl, sym, ◌∙◌}
use Rattle.mea_family.proofs.Refusals.{unknown}
use Rattle.mea_once.proofs.PartEvents.{cell_form, future_cause, untaken, its_object, its_room, site, stands_there, ended}
use Rattle.mea_once.proofs.cell_part.CellPart.end.Goals as goal

pub invariant_of-self : goal.invariant_of-self
invariant_of-self g c = rw c.take.ensures.rest (untaken (site g.C.TurnCore.is_once c.self.inside.cells c.self.inside.futures c.self.inside.next c.self.view_is c.self.invariant c.requires.next c.ranges.number.fits) c.args.f (sym c.take.ensures.value ∙ c.in_default.is)).0

pub returns-in_default : goal.returns-in_default
returns-in_default g c = (unknown _ _ (future_cause (cell_form g.C.TurnCore.is_once) c.self.inside.cells c.self.inside.futures c.self.inside.next c.self.view_is c.args.f None (sym c.take.ensures.value ∙ c.in_default.is)), rw c.take.ensures.rest (untaken (site g.C.TurnCore.is_once c.self.inside.cells c.self.inside.futures c.self.inside.next c.self.view_is c.self.invariant c.requires.next c.ranges.number.fits) c.args.f (sym c.take.ensures.value ∙ c.in_default.is)).1, refl)

pub at_mut-entry-requires : goal.at_mut-entry-requires
at_mut-entry-requires g c = its_object (site g.C.TurnCore.is_once c.self.inside.cells c.self.inside.futures c.self.inside.next c.self.view_is c.self.invariant c.requires.next c.ranges.number.fits) c.args.f c.in-Some.future (sym c.take.ensures.value ∙ c.in-Some.is)

pub end-requires-clause-stands : goal.end-requires-clause-stands
end-requires-clause-stands g c = stands_there g.C.TurnCore.is_once (site g.C.TurnCore.is_once c.self.inside.cells c.self.inside.futures c.self.inside.next c.self.view_is c.self.invariant c.requires.next c.ranges.number.fits) c.args.f c.in-Some.future c.at_mut-entry.result.now (sym c.take.ensures.value ∙ c.in-Some.is) c.at_mut-entry.ensures.value

pub end-requires-clause-room : goal.end-requires-clause-room
end-requires-clause-room g c = its_room (site g.C.TurnCore.is_once c.self.inside.cells c.self.inside.futures c.self.inside.next c.self.view_is c.self.invariant c.requires.next c.ranges.number.fits) c.in-Some.future.cell c.at_mut-entry.result.now c.at_mut-entry.ensures.value c.args.ready.now c.requires.room

pub invariant_of-self-2 : goal.invariant_of-self-2
invariant_of-self-2 g c = rw c.take.ensures.rest (ended g.C.TurnCore.is_once (site g.C.TurnCore.is_once c.self.inside.cells c.self.inside.futures c.self.inside.next c.self.view_is c.self.invariant c.requires.next c.ranges.number.fits) c.args.f c.in-Some.future c.at_mut-entry.result.now (sym c.take.ensures.value ∙ c.in-Some.is) c.at_mut-entry.ensures.value c.end.new.self c.args.ready.now c.end.new.ready c.end.ensures).0

pub returns : goal.returns
returns g c = (future_cause (cell_form g.C.TurnCore.is_once) c.self.inside.cells c.self.inside.futures c.self.inside.next c.self.view_is c.args.f (Some c.in-Some.future) (sym c.take.ensures.value ∙ c.in-Some.is), rw c.take.ensures.rest (ended g.C.TurnCore.is_once (site g.C.TurnCore.is_once c.self.inside.cells c.self.inside.futures c.self.inside.next c.self.view_is c.self.invariant c.requires.next c.ranges.number.fits) c.args.f c.in-Some.future c.at_mut-entry.result.now (sym c.take.ensures.value ∙ c.in-Some.is) c.at_mut-entry.ensures.value c.end.new.self c.args.ready.now c.end.new.ready c.end.ensures).1)
