use Rattle.std.proofs.Common.{ℕ, refl, ap, sym, ◌∙◌, arith}
use Rattle.mea_chan_model.specs.Broadcasts.{join}
use Rattle.mea_chan_model.specs.declared.broadcast_action.BroadcastAction.TheVariants.{CopyReceiver}
use Rattle.mea_chan_broadcast.specs.BroadcastParts.{broadcast_seen}
use Rattle.mea_family.proofs.Refusals.{as_told}
use Rattle.mea_chan_broadcast.proofs.Events.{site, receiver_there, receivers_channel, copies_as, its_cursor, its_channel_there, joined_as}
use Rattle.mea_chan_broadcast.proofs.broadcast_part.BroadcastPart.copy_receiver.Goals as goal

pub returns-in-Some : goal.returns-in-Some
returns-in-Some c = (as_told _ _ _ _ c.cause_of_use.ensures.is c.cause_of_use.ensures.tells c.in-Some.is, refl)

pub at-receiver-requires : goal.at-receiver-requires
at-receiver-requires c = receiver_there (site c.self.inside.channels c.self.inside.senders c.self.inside.receivers c.self.inside.futures c.self.inside.next c.self.view_is c.self.invariant c.requires.next) c.args.r (sym c.cause_of_use.ensures.is ∙ c.in_default.is)

pub at-requires : goal.at-requires
at-requires c = receivers_channel (site c.self.inside.channels c.self.inside.senders c.self.inside.receivers c.self.inside.futures c.self.inside.next c.self.view_is c.self.invariant c.requires.next) c.args.r c.at-receiver.result.now c.at-receiver.ensures

pub copy-cursor-requires : goal.copy-cursor-requires
copy-cursor-requires c = its_cursor (site c.self.inside.channels c.self.inside.senders c.self.inside.receivers c.self.inside.futures c.self.inside.next c.self.view_is c.self.invariant c.requires.next) c.args.r c.at-receiver.result.now c.at.result.now c.at-receiver.ensures c.at.ensures

pub join-requires-clause-there : goal.join-requires-clause-there
join-requires-clause-there c = (broadcast_seen c.at.result.now, (its_channel_there (site c.self.inside.channels c.self.inside.senders c.self.inside.receivers c.self.inside.futures c.self.inside.next c.self.view_is c.self.invariant c.requires.next) c.args.r c.at-receiver.result.now c.at.result.now c.at-receiver.ensures c.at.ensures), let at = c.copy-cursor.ensures in let low = its_cursor (site c.self.inside.channels c.self.inside.senders c.self.inside.receivers c.self.inside.futures c.self.inside.next c.self.view_is c.self.invariant c.requires.next) c.args.r c.at-receiver.result.now c.at.result.now c.at-receiver.ensures c.at.ensures in omega (arith, at, low))

pub returns : goal.returns
returns c = joined_as _ _ c.args.number c.at-receiver.result.now.channel c.copy-cursor.result.position (CopyReceiver c.args.r) c.join.result (broadcast_seen c.at.result.now) (sym c.cause_of_use.ensures.is ∙ c.in_default.is) (λ no. no) (its_channel_there (site c.self.inside.channels c.self.inside.senders c.self.inside.receivers c.self.inside.futures c.self.inside.next c.self.view_is c.self.invariant c.requires.next) c.args.r c.at-receiver.result.now c.at.result.now c.at-receiver.ensures c.at.ensures) (copies_as (site c.self.inside.channels c.self.inside.senders c.self.inside.receivers c.self.inside.futures c.self.inside.next c.self.view_is c.self.invariant c.requires.next) c.args.r c.at-receiver.result.now c.at.result.now c.at-receiver.ensures c.at.ensures ∙ ap (λ (n : ℕ). join c.args.self.now.hall c.args.number n c.at-receiver.result.now.channel (broadcast_seen c.at.result.now)) (sym c.copy-cursor.ensures)) c.join.ensures.ok c.join.ensures.err
