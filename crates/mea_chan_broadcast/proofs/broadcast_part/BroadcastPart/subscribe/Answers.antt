use Rattle.std.proofs.Common.{ℕ, Some, None, inl, refl, ap, sym, ◌∙◌, arith}
use Rattle.std.specs.Option.{option_copied}
use Rattle.mea_family.specs.Causes.{unknown_unless}
use Rattle.mea_chan_model.specs.Broadcasts.{join}
use Rattle.mea_chan_model.specs.declared.broadcast_action.BroadcastAction.TheVariants.{Subscribe}
use Rattle.mea_chan_broadcast.specs.BroadcastParts.{broadcast_seen}
use Rattle.mea_chan_broadcast.proofs.Events.{site, sender_is, senders_channel, subscribes_as, channel_seen, joined_as}
use Rattle.mea_chan_broadcast.proofs.broadcast_part.BroadcastPart.subscribe.Goals as goal

pub returns-in_default : goal.returns-in_default
returns-in_default c = (inl (ap unknown_unless (sym (sender_is c.self.inside.channels c.self.inside.senders c.self.inside.receivers c.self.inside.futures c.self.inside.next c.self.view_is c.args.s None (sym c.get.ensures ∙ ap option_copied c.in_default.is))), (λ no. absurd (cc))), refl)

pub at-requires : goal.at-requires
at-requires c = senders_channel (site c.self.inside.channels c.self.inside.senders c.self.inside.receivers c.self.inside.futures c.self.inside.next c.self.view_is c.self.invariant c.requires.next) c.args.s c.in-Some.o.now (sym c.get.ensures ∙ ap option_copied c.in-Some.is)

pub join-requires-clause-there : goal.join-requires-clause-there
join-requires-clause-there c = (broadcast_seen c.at.result.now, (channel_seen (site c.self.inside.channels c.self.inside.senders c.self.inside.receivers c.self.inside.futures c.self.inside.next c.self.view_is c.self.invariant c.requires.next) c.args.s c.in-Some.o.now c.at.result.now (sym c.get.ensures ∙ ap option_copied c.in-Some.is) c.at.ensures), let at = c.subscribe-cursor.ensures in omega (arith, at))

pub returns : goal.returns
returns c = joined_as _ _ c.args.number c.in-Some.o.now c.subscribe-cursor.result.position (Subscribe c.args.s) c.join.result (broadcast_seen c.at.result.now) (ap unknown_unless (sym (sender_is c.self.inside.channels c.self.inside.senders c.self.inside.receivers c.self.inside.futures c.self.inside.next c.self.view_is c.args.s (Some c.in-Some.o.now) (sym c.get.ensures ∙ ap option_copied c.in-Some.is)))) (λ no. no) (channel_seen (site c.self.inside.channels c.self.inside.senders c.self.inside.receivers c.self.inside.futures c.self.inside.next c.self.view_is c.self.invariant c.requires.next) c.args.s c.in-Some.o.now c.at.result.now (sym c.get.ensures ∙ ap option_copied c.in-Some.is) c.at.ensures) (subscribes_as (site c.self.inside.channels c.self.inside.senders c.self.inside.receivers c.self.inside.futures c.self.inside.next c.self.view_is c.self.invariant c.requires.next) c.args.s c.in-Some.o.now c.at.result.now (sym c.get.ensures ∙ ap option_copied c.in-Some.is) c.at.ensures ∙ ap (λ (n : ℕ). join c.args.self.now.hall c.args.number n c.in-Some.o.now (broadcast_seen c.at.result.now)) (sym c.subscribe-cursor.ensures)) c.join.ensures.ok c.join.ensures.err
