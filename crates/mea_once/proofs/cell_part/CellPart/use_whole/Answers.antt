use Rattle.std.proofs.Common.{Some, None, sym, ap, ◌∙◌}
use Rattle.std.specs.Option.{option_copied_mut}
use Rattle.mea_family.proofs.Refusals.{unknown, borrowed, borrowed_none}
use Rattle.mea_once.proofs.PartEvents.{cell_form, if_borrowed, whole_cause, unchanged, site, is_idle, used}
use Rattle.mea_once.proofs.cell_part.CellPart.use_whole.Goals as goal

pub returns-in_default : goal.returns-in_default
returns-in_default g c = (unknown _ _ (whole_cause (cell_form g.C.TurnCore.is_once) c.self.inside.cells c.self.inside.futures c.self.inside.next c.self.view_is c.self.invariant c.args.o None (sym c.get_mut.ensures.value ∙ ap option_copied_mut c.in_default.is)), c.self.view_is)

pub invariant_of-self-then-has_futures : goal.invariant_of-self-then-has_futures
invariant_of-self-then-has_futures g c = (unchanged (site g.C.TurnCore.is_once c.self.inside.cells c.self.inside.futures c.self.inside.next c.self.view_is c.self.invariant c.requires c.ranges.number.fits) c.args.o c.in-Some.entry.now (sym c.get_mut.ensures.value ∙ ap option_copied_mut c.in-Some.is)).0

pub returns-then-has_futures : goal.returns-then-has_futures
returns-then-has_futures g c = (borrowed _ _ (whole_cause (cell_form g.C.TurnCore.is_once) c.self.inside.cells c.self.inside.futures c.self.inside.next c.self.view_is c.self.invariant c.args.o (Some c.in-Some.entry.now) (sym c.get_mut.ensures.value ∙ ap option_copied_mut c.in-Some.is) ∙ ap if_borrowed (sym c.has_futures.ensures ∙ c.if-has_futures.true)), (unchanged (site g.C.TurnCore.is_once c.self.inside.cells c.self.inside.futures c.self.inside.next c.self.view_is c.self.invariant c.requires c.ranges.number.fits) c.args.o c.in-Some.entry.now (sym c.get_mut.ensures.value ∙ ap option_copied_mut c.in-Some.is)).1)

pub use_whole-answer-requires : goal.use_whole-answer-requires
use_whole-answer-requires g c = is_idle g.C.TurnCore.is_once (site g.C.TurnCore.is_once c.self.inside.cells c.self.inside.futures c.self.inside.next c.self.view_is c.self.invariant c.requires c.ranges.number.fits) c.args.o c.in-Some.entry.now (sym c.get_mut.ensures.value ∙ ap option_copied_mut c.in-Some.is) (borrowed_none _ _ (whole_cause (cell_form g.C.TurnCore.is_once) c.self.inside.cells c.self.inside.futures c.self.inside.next c.self.view_is c.self.invariant c.args.o (Some c.in-Some.entry.now) (sym c.get_mut.ensures.value ∙ ap option_copied_mut c.in-Some.is) ∙ ap if_borrowed (sym c.has_futures.ensures ∙ c.if-has_futures.false))).1

pub invariant_of-self-2 : goal.invariant_of-self-2
invariant_of-self-2 g c = (used g.C.TurnCore.is_once (site g.C.TurnCore.is_once c.self.inside.cells c.self.inside.futures c.self.inside.next c.self.view_is c.self.invariant c.requires c.ranges.number.fits) c.args.o c.in-Some.entry.now (sym c.get_mut.ensures.value ∙ ap option_copied_mut c.in-Some.is) (borrowed_none _ _ (whole_cause (cell_form g.C.TurnCore.is_once) c.self.inside.cells c.self.inside.futures c.self.inside.next c.self.view_is c.self.invariant c.args.o (Some c.in-Some.entry.now) (sym c.get_mut.ensures.value ∙ ap option_copied_mut c.in-Some.is) ∙ ap if_borrowed (sym c.has_futures.ensures ∙ c.if-has_futures.false))).1 c.args.what c.use_whole-answer.new.self c.use_whole-answer.ensures.is c.use_whole-answer.ensures.sound).0

pub returns : goal.returns
returns g c = ((whole_cause (cell_form g.C.TurnCore.is_once) c.self.inside.cells c.self.inside.futures c.self.inside.next c.self.view_is c.self.invariant c.args.o (Some c.in-Some.entry.now) (sym c.get_mut.ensures.value ∙ ap option_copied_mut c.in-Some.is) ∙ ap if_borrowed (sym c.has_futures.ensures ∙ c.if-has_futures.false)), rw c.use_whole-answer.ensures.reply (used g.C.TurnCore.is_once (site g.C.TurnCore.is_once c.self.inside.cells c.self.inside.futures c.self.inside.next c.self.view_is c.self.invariant c.requires c.ranges.number.fits) c.args.o c.in-Some.entry.now (sym c.get_mut.ensures.value ∙ ap option_copied_mut c.in-Some.is) (borrowed_none _ _ (whole_cause (cell_form g.C.TurnCore.is_once) c.self.inside.cells c.self.inside.futures c.self.inside.next c.self.view_is c.self.invariant c.args.o (Some c.in-Some.entry.now) (sym c.get_mut.ensures.value ∙ ap option_copied_mut c.in-Some.is) ∙ ap if_borrowed (sym c.has_futures.ensures ∙ c.if-has_futures.false))).1 c.args.what c.use_whole-answer.new.self c.use_whole-answer.ensures.is c.use_whole-answer.ensures.sound).1)
