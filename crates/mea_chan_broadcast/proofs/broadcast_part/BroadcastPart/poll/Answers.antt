use Rattle.std.proofs.Common.{Some, None, inl, inr, refl, sym, ap, ◌∙◌}
use Rattle.std.specs.Option.{option_copied_mut}
use Rattle.mea_base.proofs.Maps.{is_there, get-there}
use Rattle.mea_family.specs.Causes.{unknown_unless}
use Rattle.mea_chan_broadcast.proofs.Events.{site, future_is, receiver_some, futures_channel, poll_cursor, poll_given, its_room, unpolled, polled}
use Rattle.mea_chan_broadcast.proofs.broadcast_part.BroadcastPart.poll.Goals as goal

pub returns-in_default : goal.returns-in_default
returns-in_default c = (inl (ap unknown_unless (sym (future_is c.self.inside.channels c.self.inside.senders c.self.inside.receivers c.self.inside.futures c.self.inside.next c.self.view_is c.args.f None (sym c.get_mut.ensures.value ∙ ap option_copied_mut c.in_default.is))), (λ no. absurd (cc))), c.self.view_is, refl)

pub at_mut-receiver-requires : goal.at_mut-receiver-requires
at_mut-receiver-requires c = receiver_some (site c.self.inside.channels c.self.inside.senders c.self.inside.receivers c.self.inside.futures c.self.inside.next c.self.view_is c.self.invariant c.requires.next) c.args.f c.in-Some.future.now (sym c.get_mut.ensures.value ∙ ap option_copied_mut c.in-Some.is)

pub at_mut-entry-requires : goal.at_mut-entry-requires
at_mut-entry-requires c = futures_channel (site c.self.inside.channels c.self.inside.senders c.self.inside.receivers c.self.inside.futures c.self.inside.next c.self.view_is c.self.invariant c.requires.next) c.args.f c.in-Some.future.now (sym c.get_mut.ensures.value ∙ ap option_copied_mut c.in-Some.is)

pub poll-requires-clause-cursor : goal.poll-requires-clause-cursor
poll-requires-clause-cursor c = poll_cursor (site c.self.inside.channels c.self.inside.senders c.self.inside.receivers c.self.inside.futures c.self.inside.next c.self.view_is c.self.invariant c.requires.next) c.args.f c.in-Some.future.now (sym c.get_mut.ensures.value ∙ ap option_copied_mut c.in-Some.is) c.at_mut-receiver.result.now c.at_mut-receiver.ensures.value c.at_mut-entry.result.now c.at_mut-entry.ensures.value

pub poll-requires-clause-wait : goal.poll-requires-clause-wait
poll-requires-clause-wait c = poll_given (site c.self.inside.channels c.self.inside.senders c.self.inside.receivers c.self.inside.futures c.self.inside.next c.self.view_is c.self.invariant c.requires.next) c.args.f c.in-Some.future.now (sym c.get_mut.ensures.value ∙ ap option_copied_mut c.in-Some.is) c.at_mut-receiver.result.now c.at_mut-receiver.ensures.value c.at_mut-entry.result.now c.at_mut-entry.ensures.value

pub poll-requires-clause-room : goal.poll-requires-clause-room
poll-requires-clause-room c = its_room (site c.self.inside.channels c.self.inside.senders c.self.inside.receivers c.self.inside.futures c.self.inside.next c.self.view_is c.self.invariant c.requires.next) c.in-Some.future.now.channel c.at_mut-entry.result.now c.at_mut-entry.ensures.value c.args.ready.now c.requires.room

pub invariant_of-self-in_default-poll : goal.invariant_of-self-in_default-poll
invariant_of-self-in_default-poll c = (unpolled (site c.self.inside.channels c.self.inside.senders c.self.inside.receivers c.self.inside.futures c.self.inside.next c.self.view_is c.self.invariant c.requires.next) c.in-Some.future.now.channel c.at_mut-entry.result.now _ c.in-Some.future.now.receiver c.at_mut-receiver.result.now _ c.args.f c.in-Some.future.now _ c.at_mut-entry.ensures.value c.at_mut-receiver.ensures.value (sym c.get_mut.ensures.value ∙ ap option_copied_mut c.in-Some.is) c.in_default-poll.ensures.err.0 (λ j. record { channel = c.at_mut-receiver.result.now.channel; cursor = c.in_default-poll.ensures.err.1 j; user = c.at_mut-receiver.result.now.user }) (λ j. record { receiver = c.in-Some.future.now.receiver; channel = c.in-Some.future.now.channel; wait = c.in_default-poll.ensures.err.2 j })).0

pub returns-in_default-poll : goal.returns-in_default-poll
returns-in_default-poll c = (inr ((ap unknown_unless (sym (future_is c.self.inside.channels c.self.inside.senders c.self.inside.receivers c.self.inside.futures c.self.inside.next c.self.view_is c.args.f (Some c.in-Some.future.now) (sym c.get_mut.ensures.value ∙ ap option_copied_mut c.in-Some.is)))), refl, λ no. no), (unpolled (site c.self.inside.channels c.self.inside.senders c.self.inside.receivers c.self.inside.futures c.self.inside.next c.self.view_is c.self.invariant c.requires.next) c.in-Some.future.now.channel c.at_mut-entry.result.now _ c.in-Some.future.now.receiver c.at_mut-receiver.result.now _ c.args.f c.in-Some.future.now _ c.at_mut-entry.ensures.value c.at_mut-receiver.ensures.value (sym c.get_mut.ensures.value ∙ ap option_copied_mut c.in-Some.is) c.in_default-poll.ensures.err.0 (λ j. record { channel = c.at_mut-receiver.result.now.channel; cursor = c.in_default-poll.ensures.err.1 j; user = c.at_mut-receiver.result.now.user }) (λ j. record { receiver = c.in-Some.future.now.receiver; channel = c.in-Some.future.now.channel; wait = c.in_default-poll.ensures.err.2 j })).1, c.in_default-poll.ensures.err.3)

pub remove_if-requires : goal.remove_if-requires
remove_if-requires c = λ over. is_there _ _ (get-there c.self.inside.futures c.args.f (record { receiver = c.in-Some.future.now.receiver; channel = c.in-Some.future.now.channel; wait = c.poll.new.wait }))

pub invariant_of-self-2 : goal.invariant_of-self-2
invariant_of-self-2 c = rw (c.remove_if.ensures, c.poll.ensures.entry) (polled (site c.self.inside.channels c.self.inside.senders c.self.inside.receivers c.self.inside.futures c.self.inside.next c.self.view_is c.self.invariant c.requires.next) c.args.f c.in-Some.future.now (sym c.get_mut.ensures.value ∙ ap option_copied_mut c.in-Some.is) c.at_mut-receiver.result.now c.at_mut-receiver.ensures.value c.at_mut-entry.result.now c.at_mut-entry.ensures.value c.ranges.number.fits c.args.waker c.in-Ok.answer c.poll.new.self.core _ (record { receiver = c.in-Some.future.now.receiver; channel = c.in-Some.future.now.channel; wait = c.poll.new.wait }) c.args.ready.now c.poll.new.ready refl c.is_answered-over.result c.is_answered-over.ensures (λ j. record { channel = c.at_mut-receiver.result.now.channel; cursor = c.poll.new.cursor.position; user = c.user_unless-receiver.ensures j }) c.in-Ok.ensures.polls).0

pub returns : goal.returns
returns c = ((ap unknown_unless (sym (future_is c.self.inside.channels c.self.inside.senders c.self.inside.receivers c.self.inside.futures c.self.inside.next c.self.view_is c.args.f (Some c.in-Some.future.now) (sym c.get_mut.ensures.value ∙ ap option_copied_mut c.in-Some.is)))), rw (c.remove_if.ensures, c.poll.ensures.entry) (polled (site c.self.inside.channels c.self.inside.senders c.self.inside.receivers c.self.inside.futures c.self.inside.next c.self.view_is c.self.invariant c.requires.next) c.args.f c.in-Some.future.now (sym c.get_mut.ensures.value ∙ ap option_copied_mut c.in-Some.is) c.at_mut-receiver.result.now c.at_mut-receiver.ensures.value c.at_mut-entry.result.now c.at_mut-entry.ensures.value c.ranges.number.fits c.args.waker c.in-Ok.answer c.poll.new.self.core _ (record { receiver = c.in-Some.future.now.receiver; channel = c.in-Some.future.now.channel; wait = c.poll.new.wait }) c.args.ready.now c.poll.new.ready refl c.is_answered-over.result c.is_answered-over.ensures (λ j. record { channel = c.at_mut-receiver.result.now.channel; cursor = c.poll.new.cursor.position; user = c.user_unless-receiver.ensures j }) c.in-Ok.ensures.polls).1)
