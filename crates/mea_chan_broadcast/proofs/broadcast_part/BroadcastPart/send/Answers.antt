use Rattle.std.proofs.Common.{inl, refl, sym, ap, ◌∙◌}
use Rattle.std.specs.Option.{option_copied}
use Rattle.mea_chan_broadcast.proofs.Events.{site, senders_channel, unsendable_is, full_as, may_send, unsent, its_quiet, its_room, sent}
use Rattle.mea_chan_broadcast.proofs.broadcast_part.BroadcastPart.send.Goals as goal

pub returns-in_default : goal.returns-in_default
returns-in_default c = (inl (unsendable_is c.self.inside.channels c.self.inside.senders c.self.inside.receivers c.self.inside.futures c.self.inside.next c.self.view_is c.args.s c.args.message (sym c.get.ensures ∙ ap option_copied c.in_default.is), (λ no. absurd (cc))), refl, refl)

pub at_mut-entry-requires : goal.at_mut-entry-requires
at_mut-entry-requires c = senders_channel (site c.self.inside.channels c.self.inside.senders c.self.inside.receivers c.self.inside.futures c.self.inside.next c.self.view_is c.self.invariant c.requires.next) c.args.s c.in-Some.o.now (sym c.get.ensures ∙ ap option_copied c.in-Some.is)

pub invariant_of-self : goal.invariant_of-self
invariant_of-self c = (unsent (site c.self.inside.channels c.self.inside.senders c.self.inside.receivers c.self.inside.futures c.self.inside.next c.self.view_is c.self.invariant c.requires.next) c.in-Some.o.now c.at_mut-entry.result.now c.at_mut-entry.ensures.value).0

pub returns-then-tail : goal.returns-then-tail
returns-then-tail c = (inl (full_as (site c.self.inside.channels c.self.inside.senders c.self.inside.receivers c.self.inside.futures c.self.inside.next c.self.view_is c.self.invariant c.requires.next) c.args.s c.in-Some.o.now c.at_mut-entry.result.now (sym c.get.ensures ∙ ap option_copied c.in-Some.is) c.at_mut-entry.ensures.value c.args.message (sym c.tail.ensures ∙ c.if-tail.true), (λ no. absurd (cc))), (unsent (site c.self.inside.channels c.self.inside.senders c.self.inside.receivers c.self.inside.futures c.self.inside.next c.self.view_is c.self.invariant c.requires.next) c.in-Some.o.now c.at_mut-entry.result.now c.at_mut-entry.ensures.value).1, refl)

pub send-requires-clause-more : goal.send-requires-clause-more
send-requires-clause-more c = λ last. c.if-tail.false (c.tail.ensures ∙ last)

pub send-requires-clause-quiet : goal.send-requires-clause-quiet
send-requires-clause-quiet c = its_quiet (site c.self.inside.channels c.self.inside.senders c.self.inside.receivers c.self.inside.futures c.self.inside.next c.self.view_is c.self.invariant c.requires.next) c.in-Some.o.now c.at_mut-entry.result.now c.at_mut-entry.ensures.value

pub send-requires-clause-room : goal.send-requires-clause-room
send-requires-clause-room c = its_room (site c.self.inside.channels c.self.inside.senders c.self.inside.receivers c.self.inside.futures c.self.inside.next c.self.view_is c.self.invariant c.requires.next) c.in-Some.o.now c.at_mut-entry.result.now c.at_mut-entry.ensures.value c.args.ready.now c.requires.room

pub invariant_of-self-2 : goal.invariant_of-self-2
invariant_of-self-2 c = (sent (site c.self.inside.channels c.self.inside.senders c.self.inside.receivers c.self.inside.futures c.self.inside.next c.self.view_is c.self.invariant c.requires.next) c.args.s c.in-Some.o.now c.at_mut-entry.result.now (sym c.get.ensures ∙ ap option_copied c.in-Some.is) c.at_mut-entry.ensures.value c.send.new.self c.args.ready.now c.send.new.ready c.ranges.number.fits c.args.message (may_send (site c.self.inside.channels c.self.inside.senders c.self.inside.receivers c.self.inside.futures c.self.inside.next c.self.view_is c.self.invariant c.requires.next) c.args.s c.in-Some.o.now c.at_mut-entry.result.now (sym c.get.ensures ∙ ap option_copied c.in-Some.is) c.at_mut-entry.ensures.value c.args.message (λ last. c.if-tail.false (c.tail.ensures ∙ last))) c.send.ensures).0

pub returns : goal.returns
returns c = ((may_send (site c.self.inside.channels c.self.inside.senders c.self.inside.receivers c.self.inside.futures c.self.inside.next c.self.view_is c.self.invariant c.requires.next) c.args.s c.in-Some.o.now c.at_mut-entry.result.now (sym c.get.ensures ∙ ap option_copied c.in-Some.is) c.at_mut-entry.ensures.value c.args.message (λ last. c.if-tail.false (c.tail.ensures ∙ last))), (sent (site c.self.inside.channels c.self.inside.senders c.self.inside.receivers c.self.inside.futures c.self.inside.next c.self.view_is c.self.invariant c.requires.next) c.args.s c.in-Some.o.now c.at_mut-entry.result.now (sym c.get.ensures ∙ ap option_copied c.in-Some.is) c.at_mut-entry.ensures.value c.send.new.self c.args.ready.now c.send.new.ready c.ranges.number.fits c.args.message (may_send (site c.self.inside.channels c.self.inside.senders c.self.inside.receivers c.self.inside.futures c.self.inside.next c.self.view_is c.self.invariant c.requires.next) c.args.s c.in-Some.o.now c.at_mut-entry.result.now (sym c.get.ensures ∙ ap option_copied c.in-Some.is) c.at_mut-entry.ensures.value c.args.message (λ last. c.if-tail.false (c.tail.ensures ∙ last))) c.send.ensures).1)
