use Rattle.std.proofs.Common.{refl, sym, ◌∙◌}
use Rattle.mea_family.proofs.Refusals.{as_told}
use Rattle.mea_chan.proofs.BoundedEvents.{site, ender_there, senders_channel, some_sender, its_quiet, its_room, over_there}
use Rattle.mea_chan.proofs.BoundedEnds.{sender_ended}
use Rattle.mea_chan.proofs.bounded_part.BoundedPart.end_sender.Goals as goal

pub returns-in-Some : goal.returns-in-Some
returns-in-Some c = (as_told _ _ _ _ c.cause_of_end.ensures.is c.cause_of_end.ensures.tells c.in-Some.is, refl, refl)

pub remove-o-requires : goal.remove-o-requires
remove-o-requires c = ender_there (site c.self.inside.channels c.self.inside.senders c.self.inside.receivers c.self.inside.sends c.self.inside.next c.self.view_is c.self.invariant c.requires.next c.ranges.number.fits) c.args.s (sym c.cause_of_end.ensures.is ∙ c.in_default.is)

pub at_mut-entry-requires : goal.at_mut-entry-requires
at_mut-entry-requires c = senders_channel (site c.self.inside.channels c.self.inside.senders c.self.inside.receivers c.self.inside.sends c.self.inside.next c.self.view_is c.self.invariant c.requires.next c.ranges.number.fits) c.args.s c.remove-o.result c.remove-o.ensures.value

pub end_sender-requires-clause-some : goal.end_sender-requires-clause-some
end_sender-requires-clause-some c = some_sender (site c.self.inside.channels c.self.inside.senders c.self.inside.receivers c.self.inside.sends c.self.inside.next c.self.view_is c.self.invariant c.requires.next c.ranges.number.fits) c.args.s c.remove-o.result c.at_mut-entry.result.now c.remove-o.ensures.value c.at_mut-entry.ensures.value

pub end_sender-requires-clause-quiet : goal.end_sender-requires-clause-quiet
end_sender-requires-clause-quiet c = its_quiet (site c.self.inside.channels c.self.inside.senders c.self.inside.receivers c.self.inside.sends c.self.inside.next c.self.view_is c.self.invariant c.requires.next c.ranges.number.fits) c.remove-o.result.channel c.at_mut-entry.result.now c.at_mut-entry.ensures.value

pub end_sender-requires-clause-room : goal.end_sender-requires-clause-room
end_sender-requires-clause-room c = its_room (site c.self.inside.channels c.self.inside.senders c.self.inside.receivers c.self.inside.sends c.self.inside.next c.self.view_is c.self.invariant c.requires.next c.ranges.number.fits) c.remove-o.result.channel c.at_mut-entry.result.now c.at_mut-entry.ensures.value c.args.ready.now c.requires.room

pub remove_if-requires : goal.remove_if-requires
remove_if-requires c = λ over. over_there (site c.self.inside.channels c.self.inside.senders c.self.inside.receivers c.self.inside.sends c.self.inside.next c.self.view_is c.self.invariant c.requires.next c.ranges.number.fits) c.remove-o.result.channel c.at_mut-entry.result.now c.at_mut-entry.ensures.value _

pub invariant_of-self : goal.invariant_of-self
invariant_of-self c = (rw c.remove_if.ensures (sender_ended (site c.self.inside.channels c.self.inside.senders c.self.inside.receivers c.self.inside.sends c.self.inside.next c.self.view_is c.self.invariant c.requires.next c.ranges.number.fits) c.args.s c.remove-o.result c.at_mut-entry.result.now c.remove-o.ensures.value c.at_mut-entry.ensures.value c.end_sender.new.self _ c.is_over-over.result c.args.ready.now c.end_sender.new.ready c.end_sender.ensures.channel (sym c.cause_of_end.ensures.is ∙ c.in_default.is) c.remove-o.ensures.rest (sym c.is_over-over.ensures) c.end_sender.ensures.settles).0)

pub returns : goal.returns
returns c = ((sym c.cause_of_end.ensures.is ∙ c.in_default.is), (rw c.remove_if.ensures (sender_ended (site c.self.inside.channels c.self.inside.senders c.self.inside.receivers c.self.inside.sends c.self.inside.next c.self.view_is c.self.invariant c.requires.next c.ranges.number.fits) c.args.s c.remove-o.result c.at_mut-entry.result.now c.remove-o.ensures.value c.at_mut-entry.ensures.value c.end_sender.new.self _ c.is_over-over.result c.args.ready.now c.end_sender.new.ready c.end_sender.ensures.channel (sym c.cause_of_end.ensures.is ∙ c.in_default.is) c.remove-o.ensures.rest (sym c.is_over-over.ensures) c.end_sender.ensures.settles).1))
