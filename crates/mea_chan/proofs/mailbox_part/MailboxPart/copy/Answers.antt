use Rattle.std.proofs.Common.{inr, refl, sym, ◌∙◌}
use Rattle.mea_family.proofs.Refusals.{as_told}
use Rattle.mea_chan.proofs.MailboxEvents.{site, copier_there, some_sender, not_crowded, copied}
use Rattle.mea_chan.proofs.mailbox_part.MailboxPart.copy.Goals as goal

pub returns-in-Some : goal.returns-in-Some
returns-in-Some g c = (as_told _ _ _ _ c.cause_of_copy.ensures.is c.cause_of_copy.ensures.tells c.in-Some.is, refl)

pub at-o-requires : goal.at-o-requires
at-o-requires g c = copier_there (site c.self.inside.channels c.self.inside.senders c.self.inside.receivers c.self.inside.next c.self.view_is c.self.invariant c.requires.next c.ranges.number.fits) c.args.s (sym c.cause_of_copy.ensures.is ∙ c.in_default.is)

pub returns-in_default-insert : goal.returns-in_default-insert
returns-in_default-insert g c = (inr ((sym c.cause_of_copy.ensures.is ∙ c.in_default.is), refl, λ no. no), rw c.in_default-insert.ensures.err c.self.view_is)

pub add_sender-requires-clause-some : goal.add_sender-requires-clause-some
add_sender-requires-clause-some g c = some_sender (site c.self.inside.channels c.self.inside.senders c.self.inside.receivers c.self.inside.next c.self.view_is c.self.invariant c.requires.next c.ranges.number.fits) c.args.s c.at-o.result.now c.at_mut.result.now c.at-o.ensures c.at_mut.ensures.value

pub add_sender-requires-clause-few : goal.add_sender-requires-clause-few
add_sender-requires-clause-few g c = not_crowded (site c.self.inside.channels c.self.inside.senders c.self.inside.receivers c.self.inside.next c.self.view_is c.self.invariant c.requires.next c.ranges.number.fits) c.args.s c.at-o.result.now c.at_mut.result.now c.at-o.ensures c.at_mut.ensures.value (sym c.cause_of_copy.ensures.is ∙ c.in_default.is)

pub invariant_of-self-2 : goal.invariant_of-self-2
invariant_of-self-2 g c = (rw c.add_sender.ensures (copied (site c.self.inside.channels c.self.inside.senders c.self.inside.receivers c.self.inside.next c.self.view_is c.self.invariant c.requires.next c.ranges.number.fits) c.args.s c.at-o.result.now c.at_mut.result.now c.at-o.ensures c.at_mut.ensures.value _ c.in-Ok.ensures.ok).0)

pub returns : goal.returns
returns g c = ((sym c.cause_of_copy.ensures.is ∙ c.in_default.is), (rw c.add_sender.ensures (copied (site c.self.inside.channels c.self.inside.senders c.self.inside.receivers c.self.inside.next c.self.view_is c.self.invariant c.requires.next c.ranges.number.fits) c.args.s c.at-o.result.now c.at_mut.result.now c.at-o.ensures c.at_mut.ensures.value _ c.in-Ok.ensures.ok).1))
