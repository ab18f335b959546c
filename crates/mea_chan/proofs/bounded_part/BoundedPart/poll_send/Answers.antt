use Rattle.std.proofs.Common.{Some, None, inl, inr, refl, sym, ap, ◌∙◌}
use Rattle.std.specs.Option.{option_copied_mut}
use Rattle.mea_base.proofs.Maps.{get-there, is_there, value_in}
use Rattle.mea_family.specs.Causes.{unknown_unless}
use Rattle.mea_chan.proofs.BoundedEvents.{site, send_is, sends_sender, its_quiet, its_room}
use Rattle.mea_chan.proofs.BoundedEnds.{belongs_there, looked_both, some_send, ready_polled, pending_polled}
use Rattle.mea_chan.proofs.bounded_part.BoundedPart.poll_send.Goals as goal

pub returns-in_default : goal.returns-in_default
returns-in_default c = (inl (ap unknown_unless (sym (send_is c.self.inside.channels c.self.inside.senders c.self.inside.receivers c.self.inside.sends c.self.inside.next c.self.view_is c.args.f None (sym c.get_mut.ensures.value ∙ ap option_copied_mut c.in_default.is))), (λ no. absurd (cc))), c.self.view_is, refl)

pub poll_send-requires-clause-belongs : goal.poll_send-requires-clause-belongs
poll_send-requires-clause-belongs c = belongs_there (site c.self.inside.channels c.self.inside.senders c.self.inside.receivers c.self.inside.sends c.self.inside.next c.self.view_is c.self.invariant c.requires.next c.ranges.number.fits) c.args.f c.in-Some.send.now c.at_mut-entry.result.now (sym c.get_mut.ensures.value ∙ ap option_copied_mut c.in-Some.is) (rw c.channel.ensures at c.at_mut-entry.ensures.value)

pub poll_send-requires-clause-quiet : goal.poll_send-requires-clause-quiet
poll_send-requires-clause-quiet c = its_quiet (site c.self.inside.channels c.self.inside.senders c.self.inside.receivers c.self.inside.sends c.self.inside.next c.self.view_is c.self.invariant c.requires.next c.ranges.number.fits) c.channel.result c.at_mut-entry.result.now c.at_mut-entry.ensures.value

pub poll_send-requires-clause-room : goal.poll_send-requires-clause-room
poll_send-requires-clause-room c = its_room (site c.self.inside.channels c.self.inside.senders c.self.inside.receivers c.self.inside.sends c.self.inside.next c.self.view_is c.self.invariant c.requires.next c.ranges.number.fits) c.channel.result c.at_mut-entry.result.now c.at_mut-entry.ensures.value c.args.ready.now c.requires.room

pub invariant_of-self-in_default-poll_send : goal.invariant_of-self-in_default-poll_send
invariant_of-self-in_default-poll_send c = (rw (c.in_default-poll_send.ensures.err.0, c.in_default-poll_send.ensures.err.1, c.channel.ensures) (looked_both (site c.self.inside.channels c.self.inside.senders c.self.inside.receivers c.self.inside.sends c.self.inside.next c.self.view_is c.self.invariant c.requires.next c.ranges.number.fits) c.args.f c.in-Some.send.now c.at_mut-entry.result.now (sym c.get_mut.ensures.value ∙ ap option_copied_mut c.in-Some.is) (rw c.channel.ensures at c.at_mut-entry.ensures.value)).0)

pub returns-in_default-poll_send : goal.returns-in_default-poll_send
returns-in_default-poll_send c = (inr ((ap unknown_unless (sym (send_is c.self.inside.channels c.self.inside.senders c.self.inside.receivers c.self.inside.sends c.self.inside.next c.self.view_is c.args.f (Some c.in-Some.send.now) (sym c.get_mut.ensures.value ∙ ap option_copied_mut c.in-Some.is)))), refl, λ no. no), (rw (c.in_default-poll_send.ensures.err.0, c.in_default-poll_send.ensures.err.1, c.channel.ensures) (looked_both (site c.self.inside.channels c.self.inside.senders c.self.inside.receivers c.self.inside.sends c.self.inside.next c.self.view_is c.self.invariant c.requires.next c.ranges.number.fits) c.args.f c.in-Some.send.now c.at_mut-entry.result.now (sym c.get_mut.ensures.value ∙ ap option_copied_mut c.in-Some.is) (rw c.channel.ensures at c.at_mut-entry.ensures.value)).1), c.in_default-poll_send.ensures.err.2)

pub invariant_of-self-in-Pending : goal.invariant_of-self-in-Pending
invariant_of-self-in-Pending c = (rw c.channel.ensures (pending_polled (site c.self.inside.channels c.self.inside.senders c.self.inside.receivers c.self.inside.sends c.self.inside.next c.self.view_is c.self.invariant c.requires.next c.ranges.number.fits) c.args.f c.in-Some.send.now (value_in _ (sends_sender (site c.self.inside.channels c.self.inside.senders c.self.inside.receivers c.self.inside.sends c.self.inside.next c.self.view_is c.self.invariant c.requires.next c.ranges.number.fits) c.args.f c.in-Some.send.now (sym c.get_mut.ensures.value ∙ ap option_copied_mut c.in-Some.is))).0 c.at_mut-entry.result.now (sym c.get_mut.ensures.value ∙ ap option_copied_mut c.in-Some.is) (value_in _ (sends_sender (site c.self.inside.channels c.self.inside.senders c.self.inside.receivers c.self.inside.sends c.self.inside.next c.self.view_is c.self.invariant c.requires.next c.ranges.number.fits) c.args.f c.in-Some.send.now (sym c.get_mut.ensures.value ∙ ap option_copied_mut c.in-Some.is))).1 (rw c.channel.ensures at c.at_mut-entry.ensures.value) c.poll_send.ensures.channel c.args.waker c.poll_send.new.self c.poll_send.new.send c.args.ready.now c.poll_send.new.ready (rw c.in-Pending.is at c.in-Ok.ensures.polls)).0)

pub remove-requires : goal.remove-requires
remove-requires c = is_there _ _ (get-there c.self.inside.sends c.args.f c.poll_send.new.send)

pub overflow_sub-at_mut : goal.overflow_sub-at_mut
overflow_sub-at_mut c = some_send (site c.self.inside.channels c.self.inside.senders c.self.inside.receivers c.self.inside.sends c.self.inside.next c.self.view_is c.self.invariant c.requires.next c.ranges.number.fits) c.args.f c.in-Some.send.now c.at_mut.result.now c.at_mut-entry.result.now (sym c.get_mut.ensures.value ∙ ap option_copied_mut c.in-Some.is) (rw c.sender-s.ensures at c.at_mut.ensures.value) (rw c.channel.ensures at c.at_mut-entry.ensures.value) c.poll_send.ensures.channel

pub invariant_of-self-in-Ready : goal.invariant_of-self-in-Ready
invariant_of-self-in-Ready c = (rw (c.channel.ensures, c.sender-s.ensures, c.remove.ensures.rest) (ready_polled (site c.self.inside.channels c.self.inside.senders c.self.inside.receivers c.self.inside.sends c.self.inside.next c.self.view_is c.self.invariant c.requires.next c.ranges.number.fits) c.args.f c.in-Some.send.now c.at_mut.result.now c.at_mut-entry.result.now (sym c.get_mut.ensures.value ∙ ap option_copied_mut c.in-Some.is) (rw c.sender-s.ensures at c.at_mut.ensures.value) (rw c.channel.ensures at c.at_mut-entry.ensures.value) c.poll_send.ensures.channel c.args.waker c.poll_send.new.self c.poll_send.new.send c.args.ready.now c.poll_send.new.ready c.in-Ready.sent _ c.ready_told.ensures (rw c.in-Ready.is at c.in-Ok.ensures.polls)).0)

pub returns-in-Pending : goal.returns-in-Pending
returns-in-Pending c = ((ap unknown_unless (sym (send_is c.self.inside.channels c.self.inside.senders c.self.inside.receivers c.self.inside.sends c.self.inside.next c.self.view_is c.args.f (Some c.in-Some.send.now) (sym c.get_mut.ensures.value ∙ ap option_copied_mut c.in-Some.is)))), (rw c.channel.ensures (pending_polled (site c.self.inside.channels c.self.inside.senders c.self.inside.receivers c.self.inside.sends c.self.inside.next c.self.view_is c.self.invariant c.requires.next c.ranges.number.fits) c.args.f c.in-Some.send.now (value_in _ (sends_sender (site c.self.inside.channels c.self.inside.senders c.self.inside.receivers c.self.inside.sends c.self.inside.next c.self.view_is c.self.invariant c.requires.next c.ranges.number.fits) c.args.f c.in-Some.send.now (sym c.get_mut.ensures.value ∙ ap option_copied_mut c.in-Some.is))).0 c.at_mut-entry.result.now (sym c.get_mut.ensures.value ∙ ap option_copied_mut c.in-Some.is) (value_in _ (sends_sender (site c.self.inside.channels c.self.inside.senders c.self.inside.receivers c.self.inside.sends c.self.inside.next c.self.view_is c.self.invariant c.requires.next c.ranges.number.fits) c.args.f c.in-Some.send.now (sym c.get_mut.ensures.value ∙ ap option_copied_mut c.in-Some.is))).1 (rw c.channel.ensures at c.at_mut-entry.ensures.value) c.poll_send.ensures.channel c.args.waker c.poll_send.new.self c.poll_send.new.send c.args.ready.now c.poll_send.new.ready (rw c.in-Pending.is at c.in-Ok.ensures.polls)).1))

pub returns-in-Ready : goal.returns-in-Ready
returns-in-Ready c = ((ap unknown_unless (sym (send_is c.self.inside.channels c.self.inside.senders c.self.inside.receivers c.self.inside.sends c.self.inside.next c.self.view_is c.args.f (Some c.in-Some.send.now) (sym c.get_mut.ensures.value ∙ ap option_copied_mut c.in-Some.is)))), (rw (c.channel.ensures, c.sender-s.ensures, c.remove.ensures.rest) (ready_polled (site c.self.inside.channels c.self.inside.senders c.self.inside.receivers c.self.inside.sends c.self.inside.next c.self.view_is c.self.invariant c.requires.next c.ranges.number.fits) c.args.f c.in-Some.send.now c.at_mut.result.now c.at_mut-entry.result.now (sym c.get_mut.ensures.value ∙ ap option_copied_mut c.in-Some.is) (rw c.sender-s.ensures at c.at_mut.ensures.value) (rw c.channel.ensures at c.at_mut-entry.ensures.value) c.poll_send.ensures.channel c.args.waker c.poll_send.new.self c.poll_send.new.send c.args.ready.now c.poll_send.new.ready c.in-Ready.sent _ c.ready_told.ensures (rw c.in-Ready.is at c.in-Ok.ensures.polls)).1))
