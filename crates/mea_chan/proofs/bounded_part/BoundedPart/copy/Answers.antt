use Rattle.std.proofs.Common.{inr, refl, sym, ◌∙◌}
use Rattle.mea_family.proofs.Refusals.{as_told}
use Rattle.mea_chan.proofs.BoundedEvents.{site, copier_there, senders_channel, some_sender, not_crowded, copied}
use Rattle.mea_chan.proofs.bounded_part.BoundedPart.copy.Goals as goal

pub returns-in-Some : goal.returns-in-Some
returns-in-Some c = (as_told _ _ _ _ c.cause_of_copy.ensures.is c.cause_of_copy.ensures.tells c.in-Some.is, refl, refl)

pub at-requires : goal.at-requires
at-requires c = copier_there (site c.self.inside.channels c.self.inside.senders c.self.inside.receivers c.self.inside.sends c.self.inside.next c.self.view_is c.self.invariant c.requires.next c.ranges.number.fits) c.args.s (sym c.cause_of_copy.ensures.is ∙ c.in_default.is)

pub returns-in_default-insert : goal.returns-in_default-insert
returns-in_default-insert c = (inr ((sym c.cause_of_copy.ensures.is ∙ c.in_default.is), refl, λ no. no), rw c.in_default-insert.ensures.err c.self.view_is, refl)

pub at_mut-requires : goal.at_mut-requires
at_mut-requires c = senders_channel (site c.self.inside.channels c.self.inside.senders c.self.inside.receivers c.self.inside.sends c.self.inside.next c.self.view_is c.self.invariant c.requires.next c.ranges.number.fits) c.args.s c.at.result.now c.at.ensures

pub add_sender-requires-clause-some : goal.add_sender-requires-clause-some
add_sender-requires-clause-some c = some_sender (site c.self.inside.channels c.self.inside.senders c.self.inside.receivers c.self.inside.sends c.self.inside.next c.self.view_is c.self.invariant c.requires.next c.ranges.number.fits) c.args.s c.at.result.now c.at_mut.result.now c.at.ensures c.at_mut.ensures.value

pub add_sender-requires-clause-few : goal.add_sender-requires-clause-few
add_sender-requires-clause-few c = not_crowded (site c.self.inside.channels c.self.inside.senders c.self.inside.receivers c.self.inside.sends c.self.inside.next c.self.view_is c.self.invariant c.requires.next c.ranges.number.fits) c.args.s c.at.result.now c.at_mut.result.now c.at.ensures c.at_mut.ensures.value (sym c.cause_of_copy.ensures.is ∙ c.in_default.is)

pub invariant_of-self-2 : goal.invariant_of-self-2
invariant_of-self-2 c = (rw c.add_sender.ensures (copied (site c.self.inside.channels c.self.inside.senders c.self.inside.receivers c.self.inside.sends c.self.inside.next c.self.view_is c.self.invariant c.requires.next c.ranges.number.fits) c.args.s c.at.result.now c.at_mut.result.now c.at.ensures c.at_mut.ensures.value _ c.args.ready.now c.in-Ok.ensures.ok).0)

pub returns : goal.returns
returns c = ((sym c.cause_of_copy.ensures.is ∙ c.in_default.is), (rw c.add_sender.ensures (copied (site c.self.inside.channels c.self.inside.senders c.self.inside.receivers c.self.inside.sends c.self.inside.next c.self.view_is c.self.invariant c.requires.next c.ranges.number.fits) c.args.s c.at.result.now c.at_mut.result.now c.at.ensures c.at_mut.ensures.value _ c.args.ready.now c.in-Ok.ensures.ok).1))
