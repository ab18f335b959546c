use Rattle.std.proofs.Common.{Some, None, refl, sym, ap, ◌∙◌}
use Rattle.std.specs.Option.{option_copied_mut}
use Rattle.mea_once_core.specs.declared.cell_stage.CellStage.TheVariants.{New}
use Rattle.mea_family.proofs.Refusals.{unknown, borrowed, lacking, borrowed_none}
use Rattle.mea_once.proofs.PartEvents.{if_borrowed, few_futures, few_alone, unchanged, begin_cause, site, begins_future}
use Rattle.mea_once.proofs.cell_part.CellPart.begin.Goals as goal

pub returns-in_default : goal.returns-in_default
returns-in_default g c = (unknown _ _ (begin_cause g.C.TurnCore.is_once c.self.inside.cells c.self.inside.futures c.self.inside.next c.self.view_is c.self.invariant c.args.o c.args.errand None (sym c.get_mut.ensures.value ∙ ap option_copied_mut c.in_default.is)), c.self.view_is)

pub invariant_of-self-then-is_closed_to : goal.invariant_of-self-then-is_closed_to
invariant_of-self-then-is_closed_to g c = (unchanged (site g.C.TurnCore.is_once c.self.inside.cells c.self.inside.futures c.self.inside.next c.self.view_is c.self.invariant c.requires.next c.ranges.number.fits) c.args.o c.in-Some.entry.now (sym c.get_mut.ensures.value ∙ ap option_copied_mut c.in-Some.is)).0

pub returns-then-is_closed_to : goal.returns-then-is_closed_to
returns-then-is_closed_to g c = (borrowed _ _ (begin_cause g.C.TurnCore.is_once c.self.inside.cells c.self.inside.futures c.self.inside.next c.self.view_is c.self.invariant c.args.o c.args.errand (Some c.in-Some.entry.now) (sym c.get_mut.ensures.value ∙ ap option_copied_mut c.in-Some.is) ∙ ap if_borrowed (sym c.is_closed_to.ensures ∙ c.if-is_closed_to.true)), (unchanged (site g.C.TurnCore.is_once c.self.inside.cells c.self.inside.futures c.self.inside.next c.self.view_is c.self.invariant c.requires.next c.ranges.number.fits) c.args.o c.in-Some.entry.now (sym c.get_mut.ensures.value ∙ ap option_copied_mut c.in-Some.is)).1)

pub invariant_of-self-in_default-insert : goal.invariant_of-self-in_default-insert
invariant_of-self-in_default-insert g c = rw c.in_default-insert.ensures.err (unchanged (site g.C.TurnCore.is_once c.self.inside.cells c.self.inside.futures c.self.inside.next c.self.view_is c.self.invariant c.requires.next c.ranges.number.fits) c.args.o c.in-Some.entry.now (sym c.get_mut.ensures.value ∙ ap option_copied_mut c.in-Some.is)).0

pub returns-in_default-insert : goal.returns-in_default-insert
returns-in_default-insert g c = (lacking _ _ (begin_cause g.C.TurnCore.is_once c.self.inside.cells c.self.inside.futures c.self.inside.next c.self.view_is c.self.invariant c.args.o c.args.errand (Some c.in-Some.entry.now) (sym c.get_mut.ensures.value ∙ ap option_copied_mut c.in-Some.is) ∙ ap if_borrowed (sym c.is_closed_to.ensures ∙ c.if-is_closed_to.false)) (λ no. no), rw c.in_default-insert.ensures.err (unchanged (site g.C.TurnCore.is_once c.self.inside.cells c.self.inside.futures c.self.inside.next c.self.view_is c.self.invariant c.requires.next c.ranges.number.fits) c.args.o c.in-Some.entry.now (sym c.get_mut.ensures.value ∙ ap option_copied_mut c.in-Some.is)).1)

pub begin-requires-clause-futures : goal.begin-requires-clause-futures
begin-requires-clause-futures g c = few_futures (site g.C.TurnCore.is_once c.self.inside.cells c.self.inside.futures c.self.inside.next c.self.view_is c.self.invariant c.requires.next c.ranges.number.fits) c.args.o c.in-Some.entry.now (sym c.get_mut.ensures.value ∙ ap option_copied_mut c.in-Some.is)

pub begin-requires-clause-alone : goal.begin-requires-clause-alone
begin-requires-clause-alone g c = few_alone g.C.TurnCore.is_once (site g.C.TurnCore.is_once c.self.inside.cells c.self.inside.futures c.self.inside.next c.self.view_is c.self.invariant c.requires.next c.ranges.number.fits) c.args.o c.in-Some.entry.now (sym c.get_mut.ensures.value ∙ ap option_copied_mut c.in-Some.is)

pub invariant_of-self-2 : goal.invariant_of-self-2
invariant_of-self-2 g c = rw (c.begin.ensures, c.in-Ok.ensures.ok) (begins_future g.C.TurnCore.is_once (site g.C.TurnCore.is_once c.self.inside.cells c.self.inside.futures c.self.inside.next c.self.view_is c.self.invariant c.requires.next c.ranges.number.fits) c.args.o c.in-Some.entry.now (sym c.get_mut.ensures.value ∙ ap option_copied_mut c.in-Some.is) (record { cell = c.args.o; errand = c.args.errand; stage = New; wait = c.new.result }) refl refl c.new.ensures c.requires.fits (borrowed_none _ _ (begin_cause g.C.TurnCore.is_once c.self.inside.cells c.self.inside.futures c.self.inside.next c.self.view_is c.self.invariant c.args.o c.args.errand (Some c.in-Some.entry.now) (sym c.get_mut.ensures.value ∙ ap option_copied_mut c.in-Some.is) ∙ ap if_borrowed (sym c.is_closed_to.ensures ∙ c.if-is_closed_to.false))).1).0

pub returns : goal.returns
returns g c = ((begin_cause g.C.TurnCore.is_once c.self.inside.cells c.self.inside.futures c.self.inside.next c.self.view_is c.self.invariant c.args.o c.args.errand (Some c.in-Some.entry.now) (sym c.get_mut.ensures.value ∙ ap option_copied_mut c.in-Some.is) ∙ ap if_borrowed (sym c.is_closed_to.ensures ∙ c.if-is_closed_to.false)), rw (c.begin.ensures, c.in-Ok.ensures.ok) (begins_future g.C.TurnCore.is_once (site g.C.TurnCore.is_once c.self.inside.cells c.self.inside.futures c.self.inside.next c.self.view_is c.self.invariant c.requires.next c.ranges.number.fits) c.args.o c.in-Some.entry.now (sym c.get_mut.ensures.value ∙ ap option_copied_mut c.in-Some.is) (record { cell = c.args.o; errand = c.args.errand; stage = New; wait = c.new.result }) refl refl c.new.ensures c.requires.fits (borrowed_none _ _ (begin_cause g.C.TurnCore.is_once c.self.inside.cells c.self.inside.futures c.self.inside.next c.self.view_is c.self.invariant c.args.o c.args.errand (Some c.in-Some.entry.now) (sym c.get_mut.ensures.value ∙ ap option_copied_mut c.in-Some.is) ∙ ap if_borrowed (sym c.is_closed_to.ensures ∙ c.if-is_closed_to.false))).1).1)
