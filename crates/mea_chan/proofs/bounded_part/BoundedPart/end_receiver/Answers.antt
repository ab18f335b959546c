use Rattle.std.proofs.Common.{is_some, inl, refl, sym, ap, ◌∙◌}
use Rattle.std.specs.FinMap.{get}
use Rattle.mea_family.specs.Causes.{unknown_unless}
use Rattle.mea_base.proofs.Maps.{is_there}
use Rattle.mea_chan.proofs.BoundedEvents.{site, receiver_is, receivers_channel, lives, its_quiet, its_room, over_there}
use Rattle.mea_chan.proofs.BoundedEnds.{receiver_ended}
use Rattle.mea_chan.proofs.bounded_part.BoundedPart.end_receiver.Goals as goal

pub returns-in_default : goal.returns-in_default
returns-in_default c = (inl ((ap unknown_unless (sym (receiver_is c.self.inside.channels c.self.inside.senders c.self.inside.receivers c.self.inside.sends c.self.inside.next c.self.view_is c.args.r (get c.self.inside.receivers c.args.r) refl) ∙ sym c.receiver_in.ensures.there ∙ ap is_some c.in_default.is)), (λ no. absurd (cc))), refl, refl)

pub remove-requires : goal.remove-requires
remove-requires c = is_there _ _ c.in-Some.ensures.some

pub at_mut-entry-requires : goal.at_mut-entry-requires
at_mut-entry-requires c = receivers_channel (site c.self.inside.channels c.self.inside.senders c.self.inside.receivers c.self.inside.sends c.self.inside.next c.self.view_is c.self.invariant c.requires.next c.ranges.number.fits) c.args.r c.in-Some.receiver c.in-Some.ensures.some

pub end_receiver-requires-clause-some : goal.end_receiver-requires-clause-some
end_receiver-requires-clause-some c = lives (site c.self.inside.channels c.self.inside.senders c.self.inside.receivers c.self.inside.sends c.self.inside.next c.self.view_is c.self.invariant c.requires.next c.ranges.number.fits) c.args.r c.in-Some.receiver c.at_mut-entry.result.now c.in-Some.ensures.some c.at_mut-entry.ensures.value

pub end_receiver-requires-clause-quiet : goal.end_receiver-requires-clause-quiet
end_receiver-requires-clause-quiet c = its_quiet (site c.self.inside.channels c.self.inside.senders c.self.inside.receivers c.self.inside.sends c.self.inside.next c.self.view_is c.self.invariant c.requires.next c.ranges.number.fits) c.in-Some.receiver.channel c.at_mut-entry.result.now c.at_mut-entry.ensures.value

pub end_receiver-requires-clause-room : goal.end_receiver-requires-clause-room
end_receiver-requires-clause-room c = its_room (site c.self.inside.channels c.self.inside.senders c.self.inside.receivers c.self.inside.sends c.self.inside.next c.self.view_is c.self.invariant c.requires.next c.ranges.number.fits) c.in-Some.receiver.channel c.at_mut-entry.result.now c.at_mut-entry.ensures.value c.args.ready.now c.requires.room

pub remove_if-requires : goal.remove_if-requires
remove_if-requires c = λ over. over_there (site c.self.inside.channels c.self.inside.senders c.self.inside.receivers c.self.inside.sends c.self.inside.next c.self.view_is c.self.invariant c.requires.next c.ranges.number.fits) c.in-Some.receiver.channel c.at_mut-entry.result.now c.at_mut-entry.ensures.value _

pub invariant_of-self : goal.invariant_of-self
invariant_of-self c = (rw c.remove_if.ensures (receiver_ended (site c.self.inside.channels c.self.inside.senders c.self.inside.receivers c.self.inside.sends c.self.inside.next c.self.view_is c.self.invariant c.requires.next c.ranges.number.fits) c.args.r c.in-Some.receiver c.at_mut-entry.result.now c.in-Some.ensures.some c.at_mut-entry.ensures.value c.end_receiver.new.self _ c.is_over-over.result c.args.ready.now c.end_receiver.new.ready c.end_receiver.ensures.channel c.remove.ensures.rest (sym c.is_over-over.ensures) c.end_receiver.ensures.settles).0)

pub returns : goal.returns
returns c = ((ap unknown_unless (sym (receiver_is c.self.inside.channels c.self.inside.senders c.self.inside.receivers c.self.inside.sends c.self.inside.next c.self.view_is c.args.r (get c.self.inside.receivers c.args.r) refl) ∙ sym c.receiver_in.ensures.there ∙ ap is_some c.in-Some.is)), (rw c.remove_if.ensures (receiver_ended (site c.self.inside.channels c.self.inside.senders c.self.inside.receivers c.self.inside.sends c.self.inside.next c.self.view_is c.self.invariant c.requires.next c.ranges.number.fits) c.args.r c.in-Some.receiver c.at_mut-entry.result.now c.in-Some.ensures.some c.at_mut-entry.ensures.value c.end_receiver.new.self _ c.is_over-over.result c.args.ready.now c.end_receiver.new.ready c.end_receiver.ensures.channel c.remove.ensures.rest (sym c.is_over-over.ensures) c.end_receiver.ensures.settles).1))
