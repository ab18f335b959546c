use Rattle.std.proofs.Common.{Some, None, inl, refl, sym, ap, ◌∙◌}
use Rattle.mea_family.specs.Causes.{unknown_unless}
use Rattle.mea_by_name.proofs.Own.{gone_none}
use Rattle.mea_chan_broadcast.proofs.Events.{site, sender_is, senders_channel, some_sender, its_quiet, its_room, over_there, sender_ended}
use Rattle.mea_chan_broadcast.proofs.broadcast_part.BroadcastPart.end_sender.Goals as goal

pub invariant_of-self : goal.invariant_of-self
invariant_of-self c = rw (c.take.ensures.rest, gone_none c.self.inside.senders c.args.s (sym c.take.ensures.value ∙ c.in_default.is)) c.self.invariant

pub returns-in_default : goal.returns-in_default
returns-in_default c = (inl (ap unknown_unless (sym (sender_is c.self.inside.channels c.self.inside.senders c.self.inside.receivers c.self.inside.futures c.self.inside.next c.self.view_is c.args.s None (sym c.take.ensures.value ∙ c.in_default.is))), (λ no. absurd (cc))), rw (c.take.ensures.rest, gone_none c.self.inside.senders c.args.s (sym c.take.ensures.value ∙ c.in_default.is)) c.self.view_is, refl)

pub at_mut-entry-requires : goal.at_mut-entry-requires
at_mut-entry-requires c = senders_channel (site c.self.inside.channels c.self.inside.senders c.self.inside.receivers c.self.inside.futures c.self.inside.next c.self.view_is c.self.invariant c.requires.next) c.args.s c.in-Some.o (sym c.take.ensures.value ∙ c.in-Some.is)

pub end_sender-requires-clause-some : goal.end_sender-requires-clause-some
end_sender-requires-clause-some c = some_sender (site c.self.inside.channels c.self.inside.senders c.self.inside.receivers c.self.inside.futures c.self.inside.next c.self.view_is c.self.invariant c.requires.next) c.args.s c.in-Some.o c.at_mut-entry.result.now (sym c.take.ensures.value ∙ c.in-Some.is) c.at_mut-entry.ensures.value

pub end_sender-requires-clause-quiet : goal.end_sender-requires-clause-quiet
end_sender-requires-clause-quiet c = its_quiet (site c.self.inside.channels c.self.inside.senders c.self.inside.receivers c.self.inside.futures c.self.inside.next c.self.view_is c.self.invariant c.requires.next) c.in-Some.o c.at_mut-entry.result.now c.at_mut-entry.ensures.value

pub end_sender-requires-clause-room : goal.end_sender-requires-clause-room
end_sender-requires-clause-room c = its_room (site c.self.inside.channels c.self.inside.senders c.self.inside.receivers c.self.inside.futures c.self.inside.next c.self.view_is c.self.invariant c.requires.next) c.in-Some.o c.at_mut-entry.result.now c.at_mut-entry.ensures.value c.args.ready.now c.requires.room

pub remove_if-requires : goal.remove_if-requires
remove_if-requires c = λ over. over_there (site c.self.inside.channels c.self.inside.senders c.self.inside.receivers c.self.inside.futures c.self.inside.next c.self.view_is c.self.invariant c.requires.next) c.in-Some.o c.at_mut-entry.result.now c.at_mut-entry.ensures.value _

pub invariant_of-self-2 : goal.invariant_of-self-2
invariant_of-self-2 c = rw c.remove_if.ensures (sender_ended (site c.self.inside.channels c.self.inside.senders c.self.inside.receivers c.self.inside.futures c.self.inside.next c.self.view_is c.self.invariant c.requires.next) c.args.s c.in-Some.o c.at_mut-entry.result.now (sym c.take.ensures.value ∙ c.in-Some.is) c.at_mut-entry.ensures.value c.end_sender.new.self c.args.ready.now c.end_sender.new.ready c.ranges.number.fits _ c.take.ensures.rest c.is_over-over.result (sym c.is_over-over.ensures) c.end_sender.ensures).0

pub returns : goal.returns
returns c = ((ap unknown_unless (sym (sender_is c.self.inside.channels c.self.inside.senders c.self.inside.receivers c.self.inside.futures c.self.inside.next c.self.view_is c.args.s (Some c.in-Some.o) (sym c.take.ensures.value ∙ c.in-Some.is)))), rw c.remove_if.ensures (sender_ended (site c.self.inside.channels c.self.inside.senders c.self.inside.receivers c.self.inside.futures c.self.inside.next c.self.view_is c.self.invariant c.requires.next) c.args.s c.in-Some.o c.at_mut-entry.result.now (sym c.take.ensures.value ∙ c.in-Some.is) c.at_mut-entry.ensures.value c.end_sender.new.self c.args.ready.now c.end_sender.new.ready c.ranges.number.fits _ c.take.ensures.rest c.is_over-over.result (sym c.is_over-over.ensures) c.end_sender.ensures).1)
