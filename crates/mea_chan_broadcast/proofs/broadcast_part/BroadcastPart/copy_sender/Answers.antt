use Rattle.std.proofs.Common.{inr, refl, sym, ◌∙◌}
use Rattle.mea_family.proofs.Refusals.{as_told}
use Rattle.mea_chan_broadcast.proofs.Events.{site, copier_there, senders_channel, some_sender, was_added, copied}
use Rattle.mea_chan_broadcast.proofs.broadcast_part.BroadcastPart.copy_sender.Goals as goal

pub returns-in-Some : goal.returns-in-Some
returns-in-Some c = (as_told _ _ _ _ c.cause_of_copy.ensures.is c.cause_of_copy.ensures.tells c.in-Some.is, refl)

pub at-o-requires : goal.at-o-requires
at-o-requires c = copier_there (site c.self.inside.channels c.self.inside.senders c.self.inside.receivers c.self.inside.futures c.self.inside.next c.self.view_is c.self.invariant c.requires.next) c.args.s (sym c.cause_of_copy.ensures.is ∙ c.in_default.is)

pub returns-in_default-insert : goal.returns-in_default-insert
returns-in_default-insert c = (inr ((sym c.cause_of_copy.ensures.is ∙ c.in_default.is), refl, λ no. no), rw c.in_default-insert.ensures.err c.self.view_is)

pub at_mut-requires : goal.at_mut-requires
at_mut-requires c = senders_channel (site c.self.inside.channels c.self.inside.senders c.self.inside.receivers c.self.inside.futures c.self.inside.next c.self.view_is c.self.invariant c.requires.next) c.args.s c.at-o.result.now c.at-o.ensures

pub add_sender-requires : goal.add_sender-requires
add_sender-requires c = some_sender (site c.self.inside.channels c.self.inside.senders c.self.inside.receivers c.self.inside.futures c.self.inside.next c.self.view_is c.self.invariant c.requires.next) c.args.s c.at-o.result.now c.at_mut.result.now c.at-o.ensures c.at_mut.ensures.value

pub invariant_of-self-2 : goal.invariant_of-self-2
invariant_of-self-2 c = (copied (site c.self.inside.channels c.self.inside.senders c.self.inside.receivers c.self.inside.futures c.self.inside.next c.self.view_is c.self.invariant c.requires.next) c.args.s c.at-o.result.now c.at_mut.result.now c.at-o.ensures c.at_mut.ensures.value c.ranges.number.fits c.add_sender.new.self (was_added (site c.self.inside.channels c.self.inside.senders c.self.inside.receivers c.self.inside.futures c.self.inside.next c.self.view_is c.self.invariant c.requires.next) c.args.s c.at-o.result.now c.at_mut.result.now c.at-o.ensures c.at_mut.ensures.value c.add_sender.result c.add_sender.new.self c.add_sender.ensures.overflow c.add_sender.ensures.ok (sym c.cause_of_copy.ensures.is ∙ c.in_default.is)) _ c.in-Ok.ensures.ok (sym c.cause_of_copy.ensures.is ∙ c.in_default.is)).0

pub returns : goal.returns
returns c = ((sym c.cause_of_copy.ensures.is ∙ c.in_default.is), (copied (site c.self.inside.channels c.self.inside.senders c.self.inside.receivers c.self.inside.futures c.self.inside.next c.self.view_is c.self.invariant c.requires.next) c.args.s c.at-o.result.now c.at_mut.result.now c.at-o.ensures c.at_mut.ensures.value c.ranges.number.fits c.add_sender.new.self (was_added (site c.self.inside.channels c.self.inside.senders c.self.inside.receivers c.self.inside.futures c.self.inside.next c.self.view_is c.self.invariant c.requires.next) c.args.s c.at-o.result.now c.at_mut.result.now c.at-o.ensures c.at_mut.ensures.value c.add_sender.result c.add_sender.new.self c.add_sender.ensures.overflow c.add_sender.ensures.ok (sym c.cause_of_copy.ensures.is ∙ c.in_default.is)) _ c.in-Ok.ensures.ok (sym c.cause_of_copy.ensures.is ∙ c.in_default.is)).1)
