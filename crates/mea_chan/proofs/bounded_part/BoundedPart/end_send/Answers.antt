use Rattle.std.proofs.Common.{Some, None, inl, refl, sym, ap, ◌∙◌}
use Rattle.mea_family.specs.Causes.{unknown_unless}
use Rattle.mea_by_name.proofs.Own.{gone_none}
use Rattle.mea_chan.proofs.BoundedEvents.{site, send_is, its_quiet, its_room}
use Rattle.mea_chan.proofs.BoundedEnds.{belongs_there, some_send, send_ended}
use Rattle.mea_chan.proofs.bounded_part.BoundedPart.end_send.Goals as goal

pub invariant_of-self : goal.invariant_of-self
invariant_of-self c = rw (c.take.ensures.rest, gone_none c.self.inside.sends c.args.f (sym c.take.ensures.value ∙ c.in_default.is)) c.self.invariant

pub returns-in_default : goal.returns-in_default
returns-in_default c = (inl (ap unknown_unless (sym (send_is c.self.inside.channels c.self.inside.senders c.self.inside.receivers c.self.inside.sends c.self.inside.next c.self.view_is c.args.f None (sym c.take.ensures.value ∙ c.in_default.is))), (λ no. absurd (cc))), rw (c.take.ensures.rest, gone_none c.self.inside.sends c.args.f (sym c.take.ensures.value ∙ c.in_default.is)) c.self.view_is, refl)

pub end_send-requires-clause-belongs : goal.end_send-requires-clause-belongs
end_send-requires-clause-belongs c = belongs_there (site c.self.inside.channels c.self.inside.senders c.self.inside.receivers c.self.inside.sends c.self.inside.next c.self.view_is c.self.invariant c.requires.next c.ranges.number.fits) c.args.f c.in-Some.send c.at_mut.result.now (sym c.take.ensures.value ∙ c.in-Some.is) (rw c.channel.ensures at c.at_mut.ensures.value)

pub end_send-requires-clause-quiet : goal.end_send-requires-clause-quiet
end_send-requires-clause-quiet c = its_quiet (site c.self.inside.channels c.self.inside.senders c.self.inside.receivers c.self.inside.sends c.self.inside.next c.self.view_is c.self.invariant c.requires.next c.ranges.number.fits) c.channel.result c.at_mut.result.now c.at_mut.ensures.value

pub end_send-requires-clause-room : goal.end_send-requires-clause-room
end_send-requires-clause-room c = its_room (site c.self.inside.channels c.self.inside.senders c.self.inside.receivers c.self.inside.sends c.self.inside.next c.self.view_is c.self.invariant c.requires.next c.ranges.number.fits) c.channel.result c.at_mut.result.now c.at_mut.ensures.value c.args.ready.now c.requires.room

pub overflow_sub-at_mut : goal.overflow_sub-at_mut
overflow_sub-at_mut c = some_send (site c.self.inside.channels c.self.inside.senders c.self.inside.receivers c.self.inside.sends c.self.inside.next c.self.view_is c.self.invariant c.requires.next c.ranges.number.fits) c.args.f c.in-Some.send c.at_mut-2.result.now c.at_mut.result.now (sym c.take.ensures.value ∙ c.in-Some.is) (rw c.sender-s.ensures at c.at_mut-2.ensures.value) (rw c.channel.ensures at c.at_mut.ensures.value) c.end_send.ensures.channel

pub invariant_of-self-2 : goal.invariant_of-self-2
invariant_of-self-2 c = (rw (c.take.ensures.rest, c.channel.ensures, c.sender-s.ensures) (send_ended (site c.self.inside.channels c.self.inside.senders c.self.inside.receivers c.self.inside.sends c.self.inside.next c.self.view_is c.self.invariant c.requires.next c.ranges.number.fits) c.args.f c.in-Some.send c.at_mut-2.result.now c.at_mut.result.now (sym c.take.ensures.value ∙ c.in-Some.is) (rw c.sender-s.ensures at c.at_mut-2.ensures.value) (rw c.channel.ensures at c.at_mut.ensures.value) c.end_send.ensures.channel c.end_send.new.self c.args.ready.now c.end_send.new.ready c.end_send.ensures.ends.0 c.end_send.ensures.ends.1 c.end_send.ensures.ends.2).0)

pub returns : goal.returns
returns c = ((ap unknown_unless (sym (send_is c.self.inside.channels c.self.inside.senders c.self.inside.receivers c.self.inside.sends c.self.inside.next c.self.view_is c.args.f (Some c.in-Some.send) (sym c.take.ensures.value ∙ c.in-Some.is)))), (rw (c.take.ensures.rest, c.channel.ensures, c.sender-s.ensures) (send_ended (site c.self.inside.channels c.self.inside.senders c.self.inside.receivers c.self.inside.sends c.self.inside.next c.self.view_is c.self.invariant c.requires.next c.ranges.number.fits) c.args.f c.in-Some.send c.at_mut-2.result.now c.at_mut.result.now (sym c.take.ensures.value ∙ c.in-Some.is) (rw c.sender-s.ensures at c.at_mut-2.ensures.value) (rw c.channel.ensures at c.at_mut.ensures.value) c.end_send.ensures.channel c.end_send.new.self c.args.ready.now c.end_send.new.ready c.end_send.ensures.ends.0 c.end_send.ensures.ends.1 c.end_send.ensures.ends.2).1))
