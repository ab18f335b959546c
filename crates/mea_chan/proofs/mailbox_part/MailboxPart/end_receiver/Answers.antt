use Rattle.std.proofs.Common.{is_some, inl, refl, sym, ap, ◌∙◌}
use Rattle.std.specs.FinMap.{get}
use Rattle.mea_family.specs.Causes.{unknown_unless}
use Rattle.mea_base.proofs.Maps.{is_there}
use Rattle.mea_chan.proofs.MailboxEvents.{site, receiver_is, lives, its_kept, its_room, over_there, receiver_gone}
use Rattle.mea_chan.proofs.mailbox_part.MailboxPart.end_receiver.Goals as goal

pub returns-in_default : goal.returns-in_default
returns-in_default g c = (inl ((ap unknown_unless (sym (receiver_is c.self.inside.channels c.self.inside.senders c.self.inside.receivers c.self.inside.next c.self.view_is c.args.r (get c.self.inside.receivers c.args.r) refl c.args.polls) ∙ sym c.receiver_in.ensures.there ∙ ap is_some c.in_default.is)), (λ no. absurd (cc))), refl, refl)

pub remove-requires : goal.remove-requires
remove-requires g c = is_there _ _ c.in-Some.ensures.some

pub end_receiver-requires-clause-some : goal.end_receiver-requires-clause-some
end_receiver-requires-clause-some g c = lives (site c.self.inside.channels c.self.inside.senders c.self.inside.receivers c.self.inside.next c.self.view_is c.self.invariant c.requires.next c.ranges.number.fits) c.args.r c.in-Some.receiver c.at_mut-entry.result.now c.in-Some.ensures.some c.at_mut-entry.ensures.value

pub end_receiver-requires-clause-quiet : goal.end_receiver-requires-clause-quiet
end_receiver-requires-clause-quiet g c = (its_kept (site c.self.inside.channels c.self.inside.senders c.self.inside.receivers c.self.inside.next c.self.view_is c.self.invariant c.requires.next c.ranges.number.fits) c.in-Some.receiver.channel c.at_mut-entry.result.now c.at_mut-entry.ensures.value).quiet

pub end_receiver-requires-clause-room : goal.end_receiver-requires-clause-room
end_receiver-requires-clause-room g c = its_room (site c.self.inside.channels c.self.inside.senders c.self.inside.receivers c.self.inside.next c.self.view_is c.self.invariant c.requires.next c.ranges.number.fits) c.in-Some.receiver.channel c.at_mut-entry.result.now c.at_mut-entry.ensures.value c.args.ready.now c.requires.room

pub remove_if-requires : goal.remove_if-requires
remove_if-requires g c = λ over. over_there (site c.self.inside.channels c.self.inside.senders c.self.inside.receivers c.self.inside.next c.self.view_is c.self.invariant c.requires.next c.ranges.number.fits) c.in-Some.receiver.channel c.at_mut-entry.result.now c.at_mut-entry.ensures.value _

pub invariant_of-self : goal.invariant_of-self
invariant_of-self g c = (rw c.remove_if.ensures (receiver_gone (site c.self.inside.channels c.self.inside.senders c.self.inside.receivers c.self.inside.next c.self.view_is c.self.invariant c.requires.next c.ranges.number.fits) c.args.r c.in-Some.receiver c.at_mut-entry.result.now c.in-Some.ensures.some c.at_mut-entry.ensures.value c.args.polls _ c.end_receiver.new.self c.args.ready.now c.end_receiver.new.ready _ c.remove.ensures.rest c.is_over-over.result (sym c.is_over-over.ensures) c.end_receiver.ensures).0)

pub returns : goal.returns
returns g c = ((ap unknown_unless (sym (receiver_is c.self.inside.channels c.self.inside.senders c.self.inside.receivers c.self.inside.next c.self.view_is c.args.r (get c.self.inside.receivers c.args.r) refl c.args.polls) ∙ sym c.receiver_in.ensures.there ∙ ap is_some c.in-Some.is)), (rw c.remove_if.ensures (receiver_gone (site c.self.inside.channels c.self.inside.senders c.self.inside.receivers c.self.inside.next c.self.view_is c.self.invariant c.requires.next c.ranges.number.fits) c.args.r c.in-Some.receiver c.at_mut-entry.result.now c.in-Some.ensures.some c.at_mut-entry.ensures.value c.args.polls _ c.end_receiver.new.self c.args.ready.now c.end_receiver.new.ready _ c.remove.ensures.rest c.is_over-over.result (sym c.is_over-over.ensures) c.end_receiver.ensures).1))
