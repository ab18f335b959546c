use Rattle.std.proofs.Common.{refl, sym, ◌∙◌}
use Rattle.mea_family.proofs.Refusals.{as_told, borrowed_none}
use Rattle.mea_once.proofs.PartEvents.{object_there, its_room, site, is_idle, taken_out}
use Rattle.mea_once.proofs.cell_part.CellPart.take_out.Goals as goal

pub returns-in-Some : goal.returns-in-Some
returns-in-Some g c = (as_told _ _ _ _ c.cause_of_whole.ensures.is c.cause_of_whole.ensures.tells c.in-Some.is, refl, refl)

pub remove-entry-requires : goal.remove-entry-requires
remove-entry-requires g c = object_there (site g.C.TurnCore.is_once c.self.inside.cells c.self.inside.futures c.self.inside.next c.self.view_is c.self.invariant c.requires.next c.ranges.number.fits) c.args.o (borrowed_none _ _ (sym c.cause_of_whole.ensures.is ∙ c.in_default.is)).0

pub keeps-kept-requires : goal.keeps-kept-requires
keeps-kept-requires g c = its_room (site g.C.TurnCore.is_once c.self.inside.cells c.self.inside.futures c.self.inside.next c.self.view_is c.self.invariant c.requires.next c.ranges.number.fits) c.args.o c.remove-entry.result c.remove-entry.ensures.value c.args.ready.now c.requires.room

pub unregister-requires : goal.unregister-requires
unregister-requires g c = rw c.keeps-kept.ensures (its_room (site g.C.TurnCore.is_once c.self.inside.cells c.self.inside.futures c.self.inside.next c.self.view_is c.self.invariant c.requires.next c.ranges.number.fits) c.args.o c.remove-entry.result c.remove-entry.ensures.value c.args.ready.now c.requires.room)

pub into_value-value-requires : goal.into_value-value-requires
into_value-value-requires g c = is_idle g.C.TurnCore.is_once (site g.C.TurnCore.is_once c.self.inside.cells c.self.inside.futures c.self.inside.next c.self.view_is c.self.invariant c.requires.next c.ranges.number.fits) c.args.o c.remove-entry.result c.remove-entry.ensures.value (borrowed_none _ _ (sym c.cause_of_whole.ensures.is ∙ c.in_default.is)).1

pub invariant_of-self : goal.invariant_of-self
invariant_of-self g c = rw c.remove-entry.ensures.rest (taken_out g.C.TurnCore.is_once (site g.C.TurnCore.is_once c.self.inside.cells c.self.inside.futures c.self.inside.next c.self.view_is c.self.invariant c.requires.next c.ranges.number.fits) c.args.o c.remove-entry.result c.remove-entry.ensures.value (borrowed_none _ _ (sym c.cause_of_whole.ensures.is ∙ c.in_default.is)).1 c.args.ready.now (its_room (site g.C.TurnCore.is_once c.self.inside.cells c.self.inside.futures c.self.inside.next c.self.view_is c.self.invariant c.requires.next c.ranges.number.fits) c.args.o c.remove-entry.result c.remove-entry.ensures.value c.args.ready.now c.requires.room)).0

pub returns : goal.returns
returns g c = ((sym c.cause_of_whole.ensures.is ∙ c.in_default.is), rw (c.content.ensures, c.into_value-value.ensures, c.remove-entry.ensures.rest, c.unregister.ensures, c.keeps-kept.ensures) (taken_out g.C.TurnCore.is_once (site g.C.TurnCore.is_once c.self.inside.cells c.self.inside.futures c.self.inside.next c.self.view_is c.self.invariant c.requires.next c.ranges.number.fits) c.args.o c.remove-entry.result c.remove-entry.ensures.value (borrowed_none _ _ (sym c.cause_of_whole.ensures.is ∙ c.in_default.is)).1 c.args.ready.now (its_room (site g.C.TurnCore.is_once c.self.inside.cells c.self.inside.futures c.self.inside.next c.self.view_is c.self.invariant c.requires.next c.ranges.number.fits) c.args.o c.remove-entry.result c.remove-entry.ensures.value c.args.ready.now c.requires.room)).1)
