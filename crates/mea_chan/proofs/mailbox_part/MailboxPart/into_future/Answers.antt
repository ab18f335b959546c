use Rattle.std.proofs.Common.{is_some, false, inl, inr, refl, sym, ap, ◌∙◌}
use Rattle.std.specs.FinMap.{get}
use Rattle.mea_family.specs.Causes.{unknown_unless}
use Rattle.mea_chan.proofs.MailboxEvents.{site, receiver_is, apart, became_future}
use Rattle.mea_chan.proofs.mailbox_part.MailboxPart.into_future.Goals as goal

pub returns-in_default : goal.returns-in_default
returns-in_default g c = (inl ((ap unknown_unless (sym (receiver_is c.self.inside.channels c.self.inside.senders c.self.inside.receivers c.self.inside.next c.self.view_is c.args.r (get c.self.inside.receivers c.args.r) refl false) ∙ sym c.receiver_in.ensures.there ∙ ap is_some c.in_default.is)), (λ no. absurd (cc))), refl)

pub returns-in_default-replace : goal.returns-in_default-replace
returns-in_default-replace g c = (inr ((ap unknown_unless (sym (receiver_is c.self.inside.channels c.self.inside.senders c.self.inside.receivers c.self.inside.next c.self.view_is c.args.r (get c.self.inside.receivers c.args.r) refl false) ∙ sym c.receiver_in.ensures.there ∙ ap is_some c.in-Some.is)), refl, λ no. no), rw c.in_default-replace.ensures.err c.self.view_is)

pub replace-requires : goal.replace-requires
replace-requires g c = apart (site c.self.inside.channels c.self.inside.senders c.self.inside.receivers c.self.inside.next c.self.view_is c.self.invariant c.requires.next c.ranges.number.fits) c.args.r c.in-Some.receiver c.in-Some.ensures.some

pub invariant_of-self-2 : goal.invariant_of-self-2
invariant_of-self-2 g c = ((became_future (site c.self.inside.channels c.self.inside.senders c.self.inside.receivers c.self.inside.next c.self.view_is c.self.invariant c.requires.next c.ranges.number.fits) c.args.r c.in-Some.receiver c.in-Some.ensures.some _ c.in-Ok.ensures.ok).0)

pub returns : goal.returns
returns g c = ((ap unknown_unless (sym (receiver_is c.self.inside.channels c.self.inside.senders c.self.inside.receivers c.self.inside.next c.self.view_is c.args.r (get c.self.inside.receivers c.args.r) refl false) ∙ sym c.receiver_in.ensures.there ∙ ap is_some c.in-Some.is)), ((became_future (site c.self.inside.channels c.self.inside.senders c.self.inside.receivers c.self.inside.next c.self.view_is c.self.invariant c.requires.next c.ranges.number.fits) c.args.r c.in-Some.receiver c.in-Some.ensures.some _ c.in-Ok.ensures.ok).1))
