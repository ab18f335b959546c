use Rattle.std.proofs.Common.{is_some, inl, inr, refl, sym, ap, ◌∙◌}
use Rattle.std.specs.FinMap.{get}
use Rattle.mea_family.specs.Causes.{unknown_unless}
use Rattle.mea_chan.proofs.BoundedEvents.{site, receiver_is, receivers_channel, its_quiet, its_room, unchanged, polled}
use Rattle.mea_chan.specs.Entries.{poll_told}
use Rattle.mea_chan.proofs.bounded_part.BoundedPart.poll_receive.Goals as goal

pub returns-in_default : goal.returns-in_default
returns-in_default c = (inl ((ap unknown_unless (sym (receiver_is c.self.inside.channels c.self.inside.senders c.self.inside.receivers c.self.inside.sends c.self.inside.next c.self.view_is c.args.r (get c.self.inside.receivers c.args.r) refl) ∙ sym c.receiver_in.ensures.there ∙ ap is_some c.in_default.is)), (λ no. absurd (cc))), refl, refl)

pub at_mut-entry-requires : goal.at_mut-entry-requires
at_mut-entry-requires c = receivers_channel (site c.self.inside.channels c.self.inside.senders c.self.inside.receivers c.self.inside.sends c.self.inside.next c.self.view_is c.self.invariant c.requires.next c.ranges.number.fits) c.args.r c.in-Some.receiver c.in-Some.ensures.some

pub poll_receive-requires-clause-quiet : goal.poll_receive-requires-clause-quiet
poll_receive-requires-clause-quiet c = its_quiet (site c.self.inside.channels c.self.inside.senders c.self.inside.receivers c.self.inside.sends c.self.inside.next c.self.view_is c.self.invariant c.requires.next c.ranges.number.fits) c.in-Some.receiver.channel c.at_mut-entry.result.now c.at_mut-entry.ensures.value

pub poll_receive-requires-clause-room : goal.poll_receive-requires-clause-room
poll_receive-requires-clause-room c = its_room (site c.self.inside.channels c.self.inside.senders c.self.inside.receivers c.self.inside.sends c.self.inside.next c.self.view_is c.self.invariant c.requires.next c.ranges.number.fits) c.in-Some.receiver.channel c.at_mut-entry.result.now c.at_mut-entry.ensures.value c.args.ready.now c.requires.room

pub invariant_of-self : goal.invariant_of-self
invariant_of-self c = (rw c.in_default-poll_receive.ensures.err.0 (unchanged (site c.self.inside.channels c.self.inside.senders c.self.inside.receivers c.self.inside.sends c.self.inside.next c.self.view_is c.self.invariant c.requires.next c.ranges.number.fits) c.in-Some.receiver.channel c.at_mut-entry.result.now c.at_mut-entry.ensures.value).0)

pub returns-in_default-poll_receive : goal.returns-in_default-poll_receive
returns-in_default-poll_receive c = (inr ((ap unknown_unless (sym (receiver_is c.self.inside.channels c.self.inside.senders c.self.inside.receivers c.self.inside.sends c.self.inside.next c.self.view_is c.args.r (get c.self.inside.receivers c.args.r) refl) ∙ sym c.receiver_in.ensures.there ∙ ap is_some c.in-Some.is)), refl, λ no. no), (rw c.in_default-poll_receive.ensures.err.0 (unchanged (site c.self.inside.channels c.self.inside.senders c.self.inside.receivers c.self.inside.sends c.self.inside.next c.self.view_is c.self.invariant c.requires.next c.ranges.number.fits) c.in-Some.receiver.channel c.at_mut-entry.result.now c.at_mut-entry.ensures.value).1), c.in_default-poll_receive.ensures.err.1)

pub invariant_of-self-2 : goal.invariant_of-self-2
invariant_of-self-2 c = (polled (site c.self.inside.channels c.self.inside.senders c.self.inside.receivers c.self.inside.sends c.self.inside.next c.self.view_is c.self.invariant c.requires.next c.ranges.number.fits) c.args.r c.in-Some.receiver c.at_mut-entry.result.now c.in-Some.ensures.some c.at_mut-entry.ensures.value c.args.waker c.poll_receive.new.self _ c.args.ready.now c.poll_receive.new.ready c.poll_receive.ensures.channel (c.poll_told.ensures ∙ ap poll_told c.in-Ok.ensures.polls.0) (rw c.in-Ok.ensures.polls.0 at c.in-Ok.ensures.polls.1)).0

pub returns : goal.returns
returns c = ((ap unknown_unless (sym (receiver_is c.self.inside.channels c.self.inside.senders c.self.inside.receivers c.self.inside.sends c.self.inside.next c.self.view_is c.args.r (get c.self.inside.receivers c.args.r) refl) ∙ sym c.receiver_in.ensures.there ∙ ap is_some c.in-Some.is)), (polled (site c.self.inside.channels c.self.inside.senders c.self.inside.receivers c.self.inside.sends c.self.inside.next c.self.view_is c.self.invariant c.requires.next c.ranges.number.fits) c.args.r c.in-Some.receiver c.at_mut-entry.result.now c.in-Some.ensures.some c.at_mut-entry.ensures.value c.args.waker c.poll_receive.new.self _ c.args.ready.now c.poll_receive.new.ready c.poll_receive.ensures.channel (c.poll_told.ensures ∙ ap poll_told c.in-Ok.ensures.polls.0) (rw c.in-Ok.ensures.polls.0 at c.in-Ok.ensures.polls.1)).1)
