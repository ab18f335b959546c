use Rattle.std.proofs.Common.{is_some, false, inl, refl, sym, ap, ◌∙◌}
use Rattle.std.specs.FinMap.{get}
use Rattle.mea_family.specs.Causes.{unknown_unless}
use Rattle.mea_chan.proofs.MailboxEvents.{site, receiver_is, rests, told_message}
use Rattle.mea_chan.proofs.mailbox_part.MailboxPart.tell_message.Goals as goal

pub returns-in_default : goal.returns-in_default
returns-in_default g c = (inl ((ap unknown_unless (sym (receiver_is c.self.inside.channels c.self.inside.senders c.self.inside.receivers c.self.inside.next c.self.view_is c.args.r (get c.self.inside.receivers c.args.r) refl false) ∙ sym c.receiver_in.ensures.there ∙ ap is_some c.in_default.is)), (λ no. absurd (cc))), refl)

pub invariant_of-self : goal.invariant_of-self
invariant_of-self g c = rests (site c.self.inside.channels c.self.inside.senders c.self.inside.receivers c.self.inside.next c.self.view_is c.self.invariant c.requires.next c.ranges.number.fits)

pub returns : goal.returns
returns g c = ((ap unknown_unless (sym (receiver_is c.self.inside.channels c.self.inside.senders c.self.inside.receivers c.self.inside.next c.self.view_is c.args.r (get c.self.inside.receivers c.args.r) refl false) ∙ sym c.receiver_in.ensures.there ∙ ap is_some c.in-Some.is)), told_message (site c.self.inside.channels c.self.inside.senders c.self.inside.receivers c.self.inside.next c.self.view_is c.self.invariant c.requires.next c.ranges.number.fits) c.args.r c.in-Some.receiver c.at.result.now c.in-Some.ensures.some c.at.ensures _ _ c.yes_if.ensures c.has_message-there.ensures)
