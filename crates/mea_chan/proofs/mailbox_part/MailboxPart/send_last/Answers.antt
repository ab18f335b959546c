use Rattle.std.proofs.Common.{Some, None, inl, refl, sym, ap, ◌∙◌}
use Rattle.mea_family.specs.Causes.{unknown_unless}
use Rattle.mea_by_name.proofs.Own.{gone_none}
use Rattle.mea_chan.proofs.MailboxEvents.{site, sender_is, some_sender, its_kept, its_room, over_there, last_was_sent}
use Rattle.mea_chan.proofs.mailbox_part.MailboxPart.send_last.Goals as goal

pub invariant_of-self : goal.invariant_of-self
invariant_of-self g c = rw (c.take.ensures.rest, gone_none c.self.inside.senders c.args.s (sym c.take.ensures.value ∙ c.in_default.is)) c.self.invariant

pub returns-in_default : goal.returns-in_default
returns-in_default g c = (inl ((ap unknown_unless (sym (sender_is c.self.inside.channels c.self.inside.senders c.self.inside.receivers c.self.inside.next c.self.view_is c.args.s None (sym c.take.ensures.value ∙ c.in_default.is)))), (λ no. absurd (cc))), rw (c.take.ensures.rest, gone_none c.self.inside.senders c.args.s (sym c.take.ensures.value ∙ c.in_default.is)) c.self.view_is, refl)

pub send_last-sent-requires-clause-some : goal.send_last-sent-requires-clause-some
send_last-sent-requires-clause-some g c = some_sender (site c.self.inside.channels c.self.inside.senders c.self.inside.receivers c.self.inside.next c.self.view_is c.self.invariant c.requires.next c.ranges.number.fits) c.args.s c.in-Some.o c.at_mut-entry.result.now (sym c.take.ensures.value ∙ c.in-Some.is) c.at_mut-entry.ensures.value

pub send_last-sent-requires-clause-quiet : goal.send_last-sent-requires-clause-quiet
send_last-sent-requires-clause-quiet g c = (its_kept (site c.self.inside.channels c.self.inside.senders c.self.inside.receivers c.self.inside.next c.self.view_is c.self.invariant c.requires.next c.ranges.number.fits) c.in-Some.o c.at_mut-entry.result.now c.at_mut-entry.ensures.value).quiet

pub send_last-sent-requires-clause-room : goal.send_last-sent-requires-clause-room
send_last-sent-requires-clause-room g c = its_room (site c.self.inside.channels c.self.inside.senders c.self.inside.receivers c.self.inside.next c.self.view_is c.self.invariant c.requires.next c.ranges.number.fits) c.in-Some.o c.at_mut-entry.result.now c.at_mut-entry.ensures.value c.args.ready.now c.requires.room

pub remove_if-requires : goal.remove_if-requires
remove_if-requires g c = λ over. over_there (site c.self.inside.channels c.self.inside.senders c.self.inside.receivers c.self.inside.next c.self.view_is c.self.invariant c.requires.next c.ranges.number.fits) c.in-Some.o c.at_mut-entry.result.now c.at_mut-entry.ensures.value _

pub invariant_of-self-2 : goal.invariant_of-self-2
invariant_of-self-2 g c = (rw c.remove_if.ensures (last_was_sent (site c.self.inside.channels c.self.inside.senders c.self.inside.receivers c.self.inside.next c.self.view_is c.self.invariant c.requires.next c.ranges.number.fits) c.args.s c.in-Some.o c.at_mut-entry.result.now (sym c.take.ensures.value ∙ c.in-Some.is) c.at_mut-entry.ensures.value c.send_last-sent.new.self c.args.ready.now c.send_last-sent.new.ready _ c.take.ensures.rest c.is_over-over.result (sym c.is_over-over.ensures) c.args.message c.send_last-sent.result _ c.answer_of_send.ensures c.send_last-sent.ensures.sent c.send_last-sent.ensures.one c.send_last-sent.ensures.settles).0)

pub returns : goal.returns
returns g c = ((ap unknown_unless (sym (sender_is c.self.inside.channels c.self.inside.senders c.self.inside.receivers c.self.inside.next c.self.view_is c.args.s (Some c.in-Some.o) (sym c.take.ensures.value ∙ c.in-Some.is)))), (rw c.remove_if.ensures (last_was_sent (site c.self.inside.channels c.self.inside.senders c.self.inside.receivers c.self.inside.next c.self.view_is c.self.invariant c.requires.next c.ranges.number.fits) c.args.s c.in-Some.o c.at_mut-entry.result.now (sym c.take.ensures.value ∙ c.in-Some.is) c.at_mut-entry.ensures.value c.send_last-sent.new.self c.args.ready.now c.send_last-sent.new.ready _ c.take.ensures.rest c.is_over-over.result (sym c.is_over-over.ensures) c.args.message c.send_last-sent.result _ c.answer_of_send.ensures c.send_last-sent.ensures.sent c.send_last-sent.ensures.one c.send_last-sent.ensures.settles).1))
