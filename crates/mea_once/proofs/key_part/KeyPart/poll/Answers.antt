use Rattle.std.proofs.Common.{Some, None, refl, sym, ap, ◌∙◌}
use Rattle.std.specs.Option.{option_copied_mut}
use Rattle.mea_base.proofs.Maps.{get-there, is_there}
use Rattle.mea_family.proofs.Refusals.{unknown, lacking}
use Rattle.mea_once.proofs.TableEvents.{table_form, future_cause, its_object, its_room, site, stands_there, looked, polled}
use Rattle.mea_once.proofs.key_part.KeyPart.poll.Goals as goal

pub returns-in_default : goal.returns-in_default
returns-in_default g c = (unknown _ _ (future_cause (table_form g.C.TableCore.is_once) c.self.inside.tables c.self.inside.futures c.self.inside.next c.self.view_is c.args.f None (sym c.get_mut.ensures.value ∙ ap option_copied_mut c.in_default.is)), c.self.view_is, refl)

pub at_mut-entry-requires : goal.at_mut-entry-requires
at_mut-entry-requires g c = its_object (site g.C.TableCore.is_once c.self.inside.tables c.self.inside.futures c.self.inside.next c.self.view_is c.self.invariant c.requires.next c.ranges.number.fits) c.args.f c.in-Some.future.now (sym c.get_mut.ensures.value ∙ ap option_copied_mut c.in-Some.is)

pub poll-requires-clause-stands : goal.poll-requires-clause-stands
poll-requires-clause-stands g c = stands_there g.C.TableCore.is_once (site g.C.TableCore.is_once c.self.inside.tables c.self.inside.futures c.self.inside.next c.self.view_is c.self.invariant c.requires.next c.ranges.number.fits) c.args.f c.in-Some.future.now c.at_mut-entry.result.now (sym c.get_mut.ensures.value ∙ ap option_copied_mut c.in-Some.is) c.at_mut-entry.ensures.value

pub poll-requires-clause-room : goal.poll-requires-clause-room
poll-requires-clause-room g c = its_room (site g.C.TableCore.is_once c.self.inside.tables c.self.inside.futures c.self.inside.next c.self.view_is c.self.invariant c.requires.next c.ranges.number.fits) c.in-Some.future.now.table c.at_mut-entry.result.now c.at_mut-entry.ensures.value c.args.ready.now c.requires.room

pub invariant_of-self-in_default-poll : goal.invariant_of-self-in_default-poll
invariant_of-self-in_default-poll g c = (looked g.C.TableCore.is_once (site g.C.TableCore.is_once c.self.inside.tables c.self.inside.futures c.self.inside.next c.self.view_is c.self.invariant c.requires.next c.ranges.number.fits) c.args.f c.in-Some.future.now c.at_mut-entry.result.now (sym c.get_mut.ensures.value ∙ ap option_copied_mut c.in-Some.is) c.at_mut-entry.ensures.value c.poll.new.self c.poll.new.future c.in_default-poll.ensures.err.0 c.in_default-poll.ensures.err.1).0

pub returns-in_default-poll : goal.returns-in_default-poll
returns-in_default-poll g c = (lacking _ _ (future_cause (table_form g.C.TableCore.is_once) c.self.inside.tables c.self.inside.futures c.self.inside.next c.self.view_is c.args.f (Some c.in-Some.future.now) (sym c.get_mut.ensures.value ∙ ap option_copied_mut c.in-Some.is)) (λ no. no), (looked g.C.TableCore.is_once (site g.C.TableCore.is_once c.self.inside.tables c.self.inside.futures c.self.inside.next c.self.view_is c.self.invariant c.requires.next c.ranges.number.fits) c.args.f c.in-Some.future.now c.at_mut-entry.result.now (sym c.get_mut.ensures.value ∙ ap option_copied_mut c.in-Some.is) c.at_mut-entry.ensures.value c.poll.new.self c.poll.new.future c.in_default-poll.ensures.err.0 c.in_default-poll.ensures.err.1).1, c.in_default-poll.ensures.err.2)

pub remove_if-requires : goal.remove_if-requires
remove_if-requires g c = λ over. is_there _ _ (get-there c.self.inside.futures c.args.f _)

pub invariant_of-self-2 : goal.invariant_of-self-2
invariant_of-self-2 g c = rw c.remove_if.ensures (polled g.C.TableCore.is_once (site g.C.TableCore.is_once c.self.inside.tables c.self.inside.futures c.self.inside.next c.self.view_is c.self.invariant c.requires.next c.ranges.number.fits) c.args.f c.in-Some.future.now c.at_mut-entry.result.now (sym c.get_mut.ensures.value ∙ ap option_copied_mut c.in-Some.is) c.at_mut-entry.ensures.value c.args.waker c.in-Ok.told.over c.poll.new.future c.in-Ok.told.answer c.poll.new.self c.args.ready.now c.poll.new.ready c.in-Ok.ensures.steps).0

pub returns : goal.returns
returns g c = ((future_cause (table_form g.C.TableCore.is_once) c.self.inside.tables c.self.inside.futures c.self.inside.next c.self.view_is c.args.f (Some c.in-Some.future.now) (sym c.get_mut.ensures.value ∙ ap option_copied_mut c.in-Some.is)), rw c.remove_if.ensures (polled g.C.TableCore.is_once (site g.C.TableCore.is_once c.self.inside.tables c.self.inside.futures c.self.inside.next c.self.view_is c.self.invariant c.requires.next c.ranges.number.fits) c.args.f c.in-Some.future.now c.at_mut-entry.result.now (sym c.get_mut.ensures.value ∙ ap option_copied_mut c.in-Some.is) c.at_mut-entry.ensures.value c.args.waker c.in-Ok.told.over c.poll.new.future c.in-Ok.told.answer c.poll.new.self c.args.ready.now c.poll.new.ready c.in-Ok.ensures.steps).1)
