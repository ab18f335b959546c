use Rattle.std.proofs.Common.{is_some, true, inl, inr, refl, sym, ap, ◌∙◌}
use Rattle.std.specs.FinMap.{get}
use Rattle.mea_family.specs.Causes.{unknown_unless}
use Rattle.mea_chan.proofs.MailboxEvents.{site, receiver_is, unchanged, polled}
use Rattle.mea_chan.proofs.mailbox_part.MailboxPart.poll.Goals as goal

pub returns-in_default : goal.returns-in_default
returns-in_default g c = (inl ((ap unknown_unless (sym (receiver_is c.self.inside.channels c.self.inside.senders c.self.inside.receivers c.self.inside.next c.self.view_is c.args.r (get c.self.inside.receivers c.args.r) refl true) ∙ sym c.receiver_in.ensures.there ∙ ap is_some c.in_default.is)), (λ no. absurd (cc))), refl, refl)

pub invariant_of-self : goal.invariant_of-self
invariant_of-self g c = (rw c.in_default-poll.ensures.err.0 (unchanged (site c.self.inside.channels c.self.inside.senders c.self.inside.receivers c.self.inside.next c.self.view_is c.self.invariant c.requires.next c.ranges.number.fits) c.in-Some.receiver.channel c.at_mut-entry.result.now c.at_mut-entry.ensures.value).0)

pub returns-in_default-poll : goal.returns-in_default-poll
returns-in_default-poll g c = (inr ((ap unknown_unless (sym (receiver_is c.self.inside.channels c.self.inside.senders c.self.inside.receivers c.self.inside.next c.self.view_is c.args.r (get c.self.inside.receivers c.args.r) refl true) ∙ sym c.receiver_in.ensures.there ∙ ap is_some c.in-Some.is)), refl, λ no. no), (rw c.in_default-poll.ensures.err.0 (unchanged (site c.self.inside.channels c.self.inside.senders c.self.inside.receivers c.self.inside.next c.self.view_is c.self.invariant c.requires.next c.ranges.number.fits) c.in-Some.receiver.channel c.at_mut-entry.result.now c.at_mut-entry.ensures.value).1), c.in_default-poll.ensures.err.1)

pub invariant_of-self-2 : goal.invariant_of-self-2
invariant_of-self-2 g c = (polled (site c.self.inside.channels c.self.inside.senders c.self.inside.receivers c.self.inside.next c.self.view_is c.self.invariant c.requires.next c.ranges.number.fits) c.args.r c.in-Some.receiver c.at_mut-entry.result.now c.in-Some.ensures.some c.at_mut-entry.ensures.value c.args.waker c.poll.new.self c.in-Ok.answer c.args.ready.now c.poll.new.ready c.in-Ok.ensures.polls).0

pub returns : goal.returns
returns g c = ((ap unknown_unless (sym (receiver_is c.self.inside.channels c.self.inside.senders c.self.inside.receivers c.self.inside.next c.self.view_is c.args.r (get c.self.inside.receivers c.args.r) refl true) ∙ sym c.receiver_in.ensures.there ∙ ap is_some c.in-Some.is)), (polled (site c.self.inside.channels c.self.inside.senders c.self.inside.receivers c.self.inside.next c.self.view_is c.self.invariant c.requires.next c.ranges.number.fits) c.args.r c.in-Some.receiver c.at_mut-entry.result.now c.in-Some.ensures.some c.at_mut-entry.ensures.value c.args.waker c.poll.new.self c.in-Ok.answer c.args.ready.now c.poll.new.ready c.in-Ok.ensures.polls).1)
