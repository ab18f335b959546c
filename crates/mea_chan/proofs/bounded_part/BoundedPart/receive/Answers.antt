use Rattle.std.proofs.Common.{is_some, inl, refl, sym, ap, ◌∙◌}
use Rattle.std.specs.FinMap.{get}
use Rattle.mea_family.specs.Causes.{unknown_unless}
use Rattle.mea_chan.proofs.BoundedEvents.{site, receiver_is, receivers_channel, its_quiet, its_room, received}
use Rattle.mea_chan.specs.Entries.{told}
use Rattle.mea_chan.proofs.bounded_part.BoundedPart.receive.Goals as goal

pub returns-in_default : goal.returns-in_default
returns-in_default c = (inl ((ap unknown_unless (sym (receiver_is c.self.inside.channels c.self.inside.senders c.self.inside.receivers c.self.inside.sends c.self.inside.next c.self.view_is c.args.r (get c.self.inside.receivers c.args.r) refl) ∙ sym c.receiver_in.ensures.there ∙ ap is_some c.in_default.is)), (λ no. absurd (cc))), refl, refl)

pub at_mut-requires : goal.at_mut-requires
at_mut-requires c = receivers_channel (site c.self.inside.channels c.self.inside.senders c.self.inside.receivers c.self.inside.sends c.self.inside.next c.self.view_is c.self.invariant c.requires.next c.ranges.number.fits) c.args.r c.in-Some.receiver c.in-Some.ensures.some

pub receive-received-requires-clause-quiet : goal.receive-received-requires-clause-quiet
receive-received-requires-clause-quiet c = its_quiet (site c.self.inside.channels c.self.inside.senders c.self.inside.receivers c.self.inside.sends c.self.inside.next c.self.view_is c.self.invariant c.requires.next c.ranges.number.fits) c.in-Some.receiver.channel c.at_mut.result.now c.at_mut.ensures.value

pub receive-received-requires-clause-room : goal.receive-received-requires-clause-room
receive-received-requires-clause-room c = its_room (site c.self.inside.channels c.self.inside.senders c.self.inside.receivers c.self.inside.sends c.self.inside.next c.self.view_is c.self.invariant c.requires.next c.ranges.number.fits) c.in-Some.receiver.channel c.at_mut.result.now c.at_mut.ensures.value c.args.ready.now c.requires.room

pub invariant_of-self : goal.invariant_of-self
invariant_of-self c = (received (site c.self.inside.channels c.self.inside.senders c.self.inside.receivers c.self.inside.sends c.self.inside.next c.self.view_is c.self.invariant c.requires.next c.ranges.number.fits) c.args.r c.in-Some.receiver c.at_mut.result.now c.in-Some.ensures.some c.at_mut.ensures.value c.receive-received.new.self _ c.args.ready.now c.receive-received.new.ready c.receive-received.ensures.channel (c.told.ensures ∙ ap told c.receive-received.ensures.answer) c.receive-received.ensures.settles).0

pub returns : goal.returns
returns c = ((ap unknown_unless (sym (receiver_is c.self.inside.channels c.self.inside.senders c.self.inside.receivers c.self.inside.sends c.self.inside.next c.self.view_is c.args.r (get c.self.inside.receivers c.args.r) refl) ∙ sym c.receiver_in.ensures.there ∙ ap is_some c.in-Some.is)), (received (site c.self.inside.channels c.self.inside.senders c.self.inside.receivers c.self.inside.sends c.self.inside.next c.self.view_is c.self.invariant c.requires.next c.ranges.number.fits) c.args.r c.in-Some.receiver c.at_mut.result.now c.in-Some.ensures.some c.at_mut.ensures.value c.receive-received.new.self _ c.args.ready.now c.receive-received.new.ready c.receive-received.ensures.channel (c.told.ensures ∙ ap told c.receive-received.ensures.answer) c.receive-received.ensures.settles).1)
