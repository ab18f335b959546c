use Rattle.std.proofs.Common.{Some, None, inl, inr, refl, sym, ap, ◌∙◌}
use Rattle.std.specs.Option.{option_copied}
use Rattle.mea_family.specs.Causes.{unknown_unless}
use Rattle.mea_chan.proofs.MailboxEvents.{site, sender_is, its_kept, its_room, unchanged, sent}
use Rattle.mea_chan.proofs.mailbox_part.MailboxPart.send.Goals as goal

pub send-requires-clause-quiet : goal.send-requires-clause-quiet
send-requires-clause-quiet g c = (its_kept (site c.self.inside.channels c.self.inside.senders c.self.inside.receivers c.self.inside.next c.self.view_is c.self.invariant c.requires.next c.ranges.number.fits) c.in-Some.o.now c.at_mut.result.now c.at_mut.ensures.value).quiet

pub send-requires-clause-room : goal.send-requires-clause-room
send-requires-clause-room g c = its_room (site c.self.inside.channels c.self.inside.senders c.self.inside.receivers c.self.inside.next c.self.view_is c.self.invariant c.requires.next c.ranges.number.fits) c.in-Some.o.now c.at_mut.result.now c.at_mut.ensures.value c.args.ready.now c.requires.room

pub invariant_of-self : goal.invariant_of-self
invariant_of-self g c = (rw c.in_default-send.ensures.err.0 (unchanged (site c.self.inside.channels c.self.inside.senders c.self.inside.receivers c.self.inside.next c.self.view_is c.self.invariant c.requires.next c.ranges.number.fits) c.in-Some.o.now c.at_mut.result.now c.at_mut.ensures.value).0)

pub returns-in_default-send : goal.returns-in_default-send
returns-in_default-send g c = (inr ((ap unknown_unless (sym (sender_is c.self.inside.channels c.self.inside.senders c.self.inside.receivers c.self.inside.next c.self.view_is c.args.s (Some c.in-Some.o.now) (sym c.get.ensures ∙ ap option_copied c.in-Some.is)))), refl, λ no. no), (rw c.in_default-send.ensures.err.0 (unchanged (site c.self.inside.channels c.self.inside.senders c.self.inside.receivers c.self.inside.next c.self.view_is c.self.invariant c.requires.next c.ranges.number.fits) c.in-Some.o.now c.at_mut.result.now c.at_mut.ensures.value).1), c.in_default-send.ensures.err.1)

pub invariant_of-self-2 : goal.invariant_of-self-2
invariant_of-self-2 g c = (sent (site c.self.inside.channels c.self.inside.senders c.self.inside.receivers c.self.inside.next c.self.view_is c.self.invariant c.requires.next c.ranges.number.fits) c.args.s c.in-Some.o.now c.at_mut.result.now (sym c.get.ensures ∙ ap option_copied c.in-Some.is) c.at_mut.ensures.value c.send.new.self c.args.ready.now c.send.new.ready c.args.message c.in-Ok.sent _ c.answer_of_send.ensures c.in-Ok.ensures.sent.0 c.in-Ok.ensures.sent.1).0

pub returns : goal.returns
returns g c = ((ap unknown_unless (sym (sender_is c.self.inside.channels c.self.inside.senders c.self.inside.receivers c.self.inside.next c.self.view_is c.args.s (Some c.in-Some.o.now) (sym c.get.ensures ∙ ap option_copied c.in-Some.is)))), (sent (site c.self.inside.channels c.self.inside.senders c.self.inside.receivers c.self.inside.next c.self.view_is c.self.invariant c.requires.next c.ranges.number.fits) c.args.s c.in-Some.o.now c.at_mut.result.now (sym c.get.ensures ∙ ap option_copied c.in-Some.is) c.at_mut.ensures.value c.send.new.self c.args.ready.now c.send.new.ready c.args.message c.in-Ok.sent _ c.answer_of_send.ensures c.in-Ok.ensures.sent.0 c.in-Ok.ensures.sent.1).1)
