use Rattle.std.proofs.Common.{None, Some, refl, sym, ap, ◌∙◌}
use Rattle.std.specs.Option.{option_copied_mut}
use Rattle.mea_base.proofs.Maps.{get-there, is_there}
use Rattle.mea_meet.proofs.CountSites.{site, waits_point, over_there}
use Rattle.mea_meet.proofs.CountCalls.{wait_told, poll_given, unpolled, waits_on, lender_some, ready_some, ready_room, ready_lent, readied}
use Rattle.mea_family.proofs.Refusals.{unknown, lacking}
use Rattle.mea_meet.proofs.count_part.CountPart.poll.Goals as goal

pub returns-in_default : goal.returns-in_default
returns-in_default g c = (unknown _ _ (wait_told (site c.self.inside.points c.self.inside.senders c.self.inside.holders c.self.inside.waits c.self.inside.next c.self.view_is c.self.invariant c.requires.next) c.args.f None (sym c.get_mut.ensures.value ∙ ap option_copied_mut c.in_default.is)), c.self.view_is, refl)

pub at_mut-entry-requires : goal.at_mut-entry-requires
at_mut-entry-requires g c = waits_point (site c.self.inside.points c.self.inside.senders c.self.inside.holders c.self.inside.waits c.self.inside.next c.self.view_is c.self.invariant c.requires.next) c.args.f c.in-Some.future.now (sym c.get_mut.ensures.value ∙ ap option_copied_mut c.in-Some.is)

pub poll-requires : goal.poll-requires
poll-requires g c = poll_given (site c.self.inside.points c.self.inside.senders c.self.inside.holders c.self.inside.waits c.self.inside.next c.self.view_is c.self.invariant c.requires.next) c.args.f c.in-Some.future.now c.at_mut-entry.result.now (sym c.get_mut.ensures.value ∙ ap option_copied_mut c.in-Some.is) c.at_mut-entry.ensures.value

pub invariant_of-self-in-Err : goal.invariant_of-self-in-Err
invariant_of-self-in-Err g c = (unpolled (site c.self.inside.points c.self.inside.senders c.self.inside.holders c.self.inside.waits c.self.inside.next c.self.view_is c.self.invariant c.requires.next) c.args.f c.in-Some.future.now c.at_mut-entry.result.now (sym c.get_mut.ensures.value ∙ ap option_copied_mut c.in-Some.is) c.at_mut-entry.ensures.value c.poll.new.self c.poll.new.wait c.in-Err.ensures.err.0 c.in-Err.ensures.err.1).0

pub returns-in-Err : goal.returns-in-Err
returns-in-Err g c = (lacking _ _ (wait_told (site c.self.inside.points c.self.inside.senders c.self.inside.holders c.self.inside.waits c.self.inside.next c.self.view_is c.self.invariant c.requires.next) c.args.f (Some c.in-Some.future.now) (sym c.get_mut.ensures.value ∙ ap option_copied_mut c.in-Some.is)) (λ none. none), (unpolled (site c.self.inside.points c.self.inside.senders c.self.inside.holders c.self.inside.waits c.self.inside.next c.self.view_is c.self.invariant c.requires.next) c.args.f c.in-Some.future.now c.at_mut-entry.result.now (sym c.get_mut.ensures.value ∙ ap option_copied_mut c.in-Some.is) c.at_mut-entry.ensures.value c.poll.new.self c.poll.new.wait c.in-Err.ensures.err.0 c.in-Err.ensures.err.1).1, c.in-Err.ensures.err.2)

pub invariant_of-self-in-Ok-Pending : goal.invariant_of-self-in-Ok-Pending
invariant_of-self-in-Ok-Pending g c = let polled = rw c.in-Ok-Pending.field-0-is at c.in-Ok-Pending.ensures.polls in (waits_on (site c.self.inside.points c.self.inside.senders c.self.inside.holders c.self.inside.waits c.self.inside.next c.self.view_is c.self.invariant c.requires.next) c.args.f c.in-Some.future.now c.at_mut-entry.result.now (sym c.get_mut.ensures.value ∙ ap option_copied_mut c.in-Some.is) c.at_mut-entry.ensures.value c.args.waker c.poll.new.self c.poll.new.wait c.args.ready.now c.poll.new.ready polled).0

pub returns-in-Ok-Pending : goal.returns-in-Ok-Pending
returns-in-Ok-Pending g c = let polled = rw c.in-Ok-Pending.field-0-is at c.in-Ok-Pending.ensures.polls in (waits_on (site c.self.inside.points c.self.inside.senders c.self.inside.holders c.self.inside.waits c.self.inside.next c.self.view_is c.self.invariant c.requires.next) c.args.f c.in-Some.future.now c.at_mut-entry.result.now (sym c.get_mut.ensures.value ∙ ap option_copied_mut c.in-Some.is) c.at_mut-entry.ensures.value c.args.waker c.poll.new.self c.poll.new.wait c.args.ready.now c.poll.new.ready polled).1

pub give_back-requires : goal.give_back-requires
give_back-requires g c = let polled = rw c.in-Ok-Ready.field-0-is at c.in-Ok-Ready.ensures.polls in lender_some (site c.self.inside.points c.self.inside.senders c.self.inside.holders c.self.inside.waits c.self.inside.next c.self.view_is c.self.invariant c.requires.next) c.args.f c.in-Some.future.now (sym c.get_mut.ensures.value ∙ ap option_copied_mut c.in-Some.is) c.borrowed.result (ready_lent (site c.self.inside.points c.self.inside.senders c.self.inside.holders c.self.inside.waits c.self.inside.next c.self.view_is c.self.invariant c.requires.next) c.args.f c.in-Some.future.now c.at_mut-entry.result.now (sym c.get_mut.ensures.value ∙ ap option_copied_mut c.in-Some.is) c.at_mut-entry.ensures.value c.args.waker c.poll.new.self c.poll.new.wait c.args.ready.now c.poll.new.ready polled c.borrowed.result c.borrowed.ensures)

pub finish-over-requires-clause-some : goal.finish-over-requires-clause-some
finish-over-requires-clause-some g c = let polled = rw c.in-Ok-Ready.field-0-is at c.in-Ok-Ready.ensures.polls in ready_some (site c.self.inside.points c.self.inside.senders c.self.inside.holders c.self.inside.waits c.self.inside.next c.self.view_is c.self.invariant c.requires.next) c.args.f c.in-Some.future.now c.at_mut-entry.result.now (sym c.get_mut.ensures.value ∙ ap option_copied_mut c.in-Some.is) c.at_mut-entry.ensures.value c.args.waker c.poll.new.self c.poll.new.wait c.args.ready.now c.poll.new.ready polled

pub finish-over-requires-clause-room : goal.finish-over-requires-clause-room
finish-over-requires-clause-room g c = let polled = rw c.in-Ok-Ready.field-0-is at c.in-Ok-Ready.ensures.polls in ready_room (site c.self.inside.points c.self.inside.senders c.self.inside.holders c.self.inside.waits c.self.inside.next c.self.view_is c.self.invariant c.requires.next) c.args.f c.in-Some.future.now c.at_mut-entry.result.now (sym c.get_mut.ensures.value ∙ ap option_copied_mut c.in-Some.is) c.at_mut-entry.ensures.value c.args.waker c.poll.new.self c.poll.new.wait c.args.ready.now c.poll.new.ready polled c.requires.room

pub remove_if-requires : goal.remove_if-requires
remove_if-requires g c = λ over. over_there (site c.self.inside.points c.self.inside.senders c.self.inside.holders c.self.inside.waits c.self.inside.next c.self.view_is c.self.invariant c.requires.next) c.in-Some.future.now.point _

pub remove-requires : goal.remove-requires
remove-requires g c = is_there _ _ (get-there c.self.inside.waits c.args.f _)

pub invariant_of-self-in-Ok-Ready : goal.invariant_of-self-in-Ok-Ready
invariant_of-self-in-Ok-Ready g c = let polled = rw c.in-Ok-Ready.field-0-is at c.in-Ok-Ready.ensures.polls in rw c.remove_if.ensures (readied (site c.self.inside.points c.self.inside.senders c.self.inside.holders c.self.inside.waits c.self.inside.next c.self.view_is c.self.invariant c.requires.next) c.args.f c.in-Some.future.now c.at_mut-entry.result.now (sym c.get_mut.ensures.value ∙ ap option_copied_mut c.in-Some.is) c.at_mut-entry.ensures.value c.args.waker c.poll.new.self c.poll.new.wait c.args.ready.now c.poll.new.ready polled c.borrowed.result c.borrowed.ensures c.give_back.new.holders c.give_back.ensures c.finish-over.new.self c.finish-over.ensures.entry c.finish-over.result c.finish-over.ensures.over c.finish-over.new.ready c.finish-over.ensures.wakers c.finish-over.ensures.counted _ c.remove.ensures.rest).0

pub returns-in-Ok-Ready : goal.returns-in-Ok-Ready
returns-in-Ok-Ready g c = let polled = rw c.in-Ok-Ready.field-0-is at c.in-Ok-Ready.ensures.polls in rw c.remove_if.ensures (readied (site c.self.inside.points c.self.inside.senders c.self.inside.holders c.self.inside.waits c.self.inside.next c.self.view_is c.self.invariant c.requires.next) c.args.f c.in-Some.future.now c.at_mut-entry.result.now (sym c.get_mut.ensures.value ∙ ap option_copied_mut c.in-Some.is) c.at_mut-entry.ensures.value c.args.waker c.poll.new.self c.poll.new.wait c.args.ready.now c.poll.new.ready polled c.borrowed.result c.borrowed.ensures c.give_back.new.holders c.give_back.ensures c.finish-over.new.self c.finish-over.ensures.entry c.finish-over.result c.finish-over.ensures.over c.finish-over.new.ready c.finish-over.ensures.wakers c.finish-over.ensures.counted _ c.remove.ensures.rest).1
