use Rattle.std.proofs.Common.{is_some, inl, refl, sym, ap, ◌∙◌}
use Rattle.std.specs.FinMap.{get}
use Rattle.mea_family.specs.Causes.{unknown_unless}
use Rattle.mea_chan.proofs.MailboxEvents.{site, receiver_is, received}
use Rattle.mea_chan.proofs.mailbox_part.MailboxPart.receive.Goals as goal

pub returns-in_default : goal.returns-in_default
returns-in_default g c = (inl ((ap unknown_unless (sym (receiver_is c.self.inside.channels c.self.inside.senders c.self.inside.receivers c.self.inside.next c.self.view_is c.args.r (get c.self.inside.receivers c.args.r) refl c.args.polls) ∙ sym c.receiver_in.ensures.there ∙ ap is_some c.in_default.is)), (λ no. absurd (cc))), refl)

pub invariant_of-self : goal.invariant_of-self
invariant_of-self g c = (received (site c.self.inside.channels c.self.inside.senders c.self.inside.receivers c.self.inside.next c.self.view_is c.self.invariant c.requires.next c.ranges.number.fits) c.args.r c.in-Some.receiver c.at_mut.result.now c.in-Some.ensures.some c.at_mut.ensures.value c.args.polls c.receive-answer.new.self c.receive-answer.result c.receive-answer.ensures.answer c.receive-answer.ensures.after).0

pub returns : goal.returns
returns g c = ((ap unknown_unless (sym (receiver_is c.self.inside.channels c.self.inside.senders c.self.inside.receivers c.self.inside.next c.self.view_is c.args.r (get c.self.inside.receivers c.args.r) refl c.args.polls) ∙ sym c.receiver_in.ensures.there ∙ ap is_some c.in-Some.is)), (received (site c.self.inside.channels c.self.inside.senders c.self.inside.receivers c.self.inside.next c.self.view_is c.self.invariant c.requires.next c.ranges.number.fits) c.args.r c.in-Some.receiver c.at_mut.result.now c.in-Some.ensures.some c.at_mut.ensures.value c.args.polls c.receive-answer.new.self c.receive-answer.result c.receive-answer.ensures.answer c.receive-answer.ensures.after).1)
