use Rattle.std.proofs.Common.{refl, sym, ◌∙◌}
use Rattle.mea_family.proofs.Refusals.{as_told}
use Rattle.mea_chan_broadcast.proofs.Events.{site, receiver_there, receivers_channel, some_receiver, over_there, receiver_ended}
use Rattle.mea_chan_broadcast.proofs.broadcast_part.BroadcastPart.end_receiver.Goals as goal

pub returns-in-Some : goal.returns-in-Some
returns-in-Some c = (as_told _ _ _ _ c.cause_of_use.ensures.is c.cause_of_use.ensures.tells c.in-Some.is, refl)

pub remove-o-requires : goal.remove-o-requires
remove-o-requires c = receiver_there (site c.self.inside.channels c.self.inside.senders c.self.inside.receivers c.self.inside.futures c.self.inside.next c.self.view_is c.self.invariant c.requires.next) c.args.r (sym c.cause_of_use.ensures.is ∙ c.in_default.is)

pub at_mut-entry-requires : goal.at_mut-entry-requires
at_mut-entry-requires c = receivers_channel (site c.self.inside.channels c.self.inside.senders c.self.inside.receivers c.self.inside.futures c.self.inside.next c.self.view_is c.self.invariant c.requires.next) c.args.r c.remove-o.result c.remove-o.ensures.value

pub overflow_sub-entry : goal.overflow_sub-entry
overflow_sub-entry c = some_receiver (site c.self.inside.channels c.self.inside.senders c.self.inside.receivers c.self.inside.futures c.self.inside.next c.self.view_is c.self.invariant c.requires.next) c.args.r c.remove-o.result c.at_mut-entry.result.now c.remove-o.ensures.value c.at_mut-entry.ensures.value (sym c.cause_of_use.ensures.is ∙ c.in_default.is)

pub remove_if-requires : goal.remove_if-requires
remove_if-requires c = λ over. over_there (site c.self.inside.channels c.self.inside.senders c.self.inside.receivers c.self.inside.futures c.self.inside.next c.self.view_is c.self.invariant c.requires.next) c.remove-o.result.channel c.at_mut-entry.result.now c.at_mut-entry.ensures.value _

pub invariant_of-self : goal.invariant_of-self
invariant_of-self c = rw c.remove_if.ensures (receiver_ended (site c.self.inside.channels c.self.inside.senders c.self.inside.receivers c.self.inside.futures c.self.inside.next c.self.view_is c.self.invariant c.requires.next) c.args.r c.remove-o.result c.at_mut-entry.result.now c.remove-o.ensures.value c.at_mut-entry.ensures.value (sym c.cause_of_use.ensures.is ∙ c.in_default.is) c.ranges.number.fits _ c.remove-o.ensures.rest c.is_over-over.result (sym c.is_over-over.ensures)).0

pub returns : goal.returns
returns c = ((sym c.cause_of_use.ensures.is ∙ c.in_default.is), rw c.remove_if.ensures (receiver_ended (site c.self.inside.channels c.self.inside.senders c.self.inside.receivers c.self.inside.futures c.self.inside.next c.self.view_is c.self.invariant c.requires.next) c.args.r c.remove-o.result c.at_mut-entry.result.now c.remove-o.ensures.value c.at_mut-entry.ensures.value (sym c.cause_of_use.ensures.is ∙ c.in_default.is) c.ranges.number.fits _ c.remove-o.ensures.rest c.is_over-over.result (sym c.is_over-over.ensures)).1)
