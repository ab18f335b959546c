use Rattle.std.proofs.Common.{Some, None, refl, sym, ap, ◌∙◌}
use Rattle.std.specs.Option.{option_copied_mut}
use Rattle.mea_family.specs.Causes.{unknown_unless}
use Rattle.mea_family.proofs.Refusals.{unknown}
use Rattle.mea_once.proofs.TableEvents.{table_form, settle_cause, looked_at, its_object, its_room, site, stands_there, settled_part}
use Rattle.mea_once.proofs.key_part.KeyPart.settle.Goals as goal

pub returns-in_default : goal.returns-in_default
returns-in_default g c = (unknown _ _ (settle_cause (table_form g.C.TableCore.is_once) c.self.inside.tables c.self.inside.futures c.self.inside.next c.self.view_is c.args.f None (sym c.get_mut.ensures.value ∙ ap option_copied_mut c.in_default.is)), c.self.view_is, refl)

pub invariant_of-self-then-not-is_unsettled : goal.invariant_of-self-then-not-is_unsettled
invariant_of-self-then-not-is_unsettled g c = (looked_at (site g.C.TableCore.is_once c.self.inside.tables c.self.inside.futures c.self.inside.next c.self.view_is c.self.invariant c.requires.next c.ranges.number.fits) c.args.f c.in-Some.future.now (sym c.get_mut.ensures.value ∙ ap option_copied_mut c.in-Some.is)).0

pub returns-then-not-is_unsettled : goal.returns-then-not-is_unsettled
returns-then-not-is_unsettled g c = (unknown _ _ (settle_cause (table_form g.C.TableCore.is_once) c.self.inside.tables c.self.inside.futures c.self.inside.next c.self.view_is c.args.f (Some c.in-Some.future.now) (sym c.get_mut.ensures.value ∙ ap option_copied_mut c.in-Some.is) ∙ ap unknown_unless (sym c.is_unsettled.ensures ∙ c.if-not-is_unsettled.true)), (looked_at (site g.C.TableCore.is_once c.self.inside.tables c.self.inside.futures c.self.inside.next c.self.view_is c.self.invariant c.requires.next c.ranges.number.fits) c.args.f c.in-Some.future.now (sym c.get_mut.ensures.value ∙ ap option_copied_mut c.in-Some.is)).1, refl)

pub at_mut-entry-requires : goal.at_mut-entry-requires
at_mut-entry-requires g c = its_object (site g.C.TableCore.is_once c.self.inside.tables c.self.inside.futures c.self.inside.next c.self.view_is c.self.invariant c.requires.next c.ranges.number.fits) c.args.f c.in-Some.future.now (sym c.get_mut.ensures.value ∙ ap option_copied_mut c.in-Some.is)

pub settle-requires-clause-stands : goal.settle-requires-clause-stands
settle-requires-clause-stands g c = (c.args.number, stands_there g.C.TableCore.is_once (site g.C.TableCore.is_once c.self.inside.tables c.self.inside.futures c.self.inside.next c.self.view_is c.self.invariant c.requires.next c.ranges.number.fits) c.args.f c.in-Some.future.now c.at_mut-entry.result.now (sym c.get_mut.ensures.value ∙ ap option_copied_mut c.in-Some.is) c.at_mut-entry.ensures.value)

pub settle-requires-clause-room : goal.settle-requires-clause-room
settle-requires-clause-room g c = its_room (site g.C.TableCore.is_once c.self.inside.tables c.self.inside.futures c.self.inside.next c.self.view_is c.self.invariant c.requires.next c.ranges.number.fits) c.in-Some.future.now.table c.at_mut-entry.result.now c.at_mut-entry.ensures.value c.args.ready.now c.requires.room

pub invariant_of-self-2 : goal.invariant_of-self-2
invariant_of-self-2 g c = (settled_part g.C.TableCore.is_once (site g.C.TableCore.is_once c.self.inside.tables c.self.inside.futures c.self.inside.next c.self.view_is c.self.invariant c.requires.next c.ranges.number.fits) c.args.f c.in-Some.future.now c.at_mut-entry.result.now (sym c.get_mut.ensures.value ∙ ap option_copied_mut c.in-Some.is) c.at_mut-entry.ensures.value c.args.outcome c.settle.new.future c.settle.new.self c.args.ready.now c.settle.new.ready c.settle.ensures).0

pub returns : goal.returns
returns g c = ((settle_cause (table_form g.C.TableCore.is_once) c.self.inside.tables c.self.inside.futures c.self.inside.next c.self.view_is c.args.f (Some c.in-Some.future.now) (sym c.get_mut.ensures.value ∙ ap option_copied_mut c.in-Some.is) ∙ ap unknown_unless (sym c.is_unsettled.ensures ∙ c.if-not-is_unsettled.false)), (settled_part g.C.TableCore.is_once (site g.C.TableCore.is_once c.self.inside.tables c.self.inside.futures c.self.inside.next c.self.view_is c.self.invariant c.requires.next c.ranges.number.fits) c.args.f c.in-Some.future.now c.at_mut-entry.result.now (sym c.get_mut.ensures.value ∙ ap option_copied_mut c.in-Some.is) c.at_mut-entry.ensures.value c.args.outcome c.settle.new.future c.settle.new.self c.args.ready.now c.settle.new.ready c.settle.ensures).1)
