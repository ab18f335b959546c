use Rattle.std.proofs.Common.{Some, None, inl, refl, sym, ap, ◌∙◌}
use Rattle.std.specs.Option.{option_copied}
use Rattle.mea_family.specs.Causes.{unknown_unless}
use Rattle.mea_chan.proofs.BoundedEvents.{site, sender_is, senders_channel, its_quiet, its_room, tried}
use Rattle.mea_chan.specs.BoundedCores.{tried_told}
use Rattle.mea_chan.proofs.bounded_part.BoundedPart.try_send.Goals as goal

pub returns-in_default : goal.returns-in_default
returns-in_default c = (inl (ap unknown_unless (sym (sender_is c.self.inside.channels c.self.inside.senders c.self.inside.receivers c.self.inside.sends c.self.inside.next c.self.view_is c.args.s None (sym c.get.ensures ∙ ap option_copied c.in_default.is))), (λ no. absurd (cc))), refl, refl)

pub at_mut-requires : goal.at_mut-requires
at_mut-requires c = senders_channel (site c.self.inside.channels c.self.inside.senders c.self.inside.receivers c.self.inside.sends c.self.inside.next c.self.view_is c.self.invariant c.requires.next c.ranges.number.fits) c.args.s c.in-Some.sender.now (sym c.get.ensures ∙ ap option_copied c.in-Some.is)

pub try_send-sent-requires-clause-quiet : goal.try_send-sent-requires-clause-quiet
try_send-sent-requires-clause-quiet c = its_quiet (site c.self.inside.channels c.self.inside.senders c.self.inside.receivers c.self.inside.sends c.self.inside.next c.self.view_is c.self.invariant c.requires.next c.ranges.number.fits) c.in-Some.sender.now.channel c.at_mut.result.now c.at_mut.ensures.value

pub try_send-sent-requires-clause-room : goal.try_send-sent-requires-clause-room
try_send-sent-requires-clause-room c = its_room (site c.self.inside.channels c.self.inside.senders c.self.inside.receivers c.self.inside.sends c.self.inside.next c.self.view_is c.self.invariant c.requires.next c.ranges.number.fits) c.in-Some.sender.now.channel c.at_mut.result.now c.at_mut.ensures.value c.args.ready.now c.requires.room

pub invariant_of-self : goal.invariant_of-self
invariant_of-self c = (tried (site c.self.inside.channels c.self.inside.senders c.self.inside.receivers c.self.inside.sends c.self.inside.next c.self.view_is c.self.invariant c.requires.next c.ranges.number.fits) c.args.s c.in-Some.sender.now c.at_mut.result.now (sym c.get.ensures ∙ ap option_copied c.in-Some.is) c.at_mut.ensures.value c.args.message c.try_send-sent.new.self _ c.args.ready.now c.try_send-sent.new.ready (c.tried_told.ensures ∙ ap tried_told c.try_send-sent.ensures.answer) c.try_send-sent.ensures.settles).0

pub returns : goal.returns
returns c = ((ap unknown_unless (sym (sender_is c.self.inside.channels c.self.inside.senders c.self.inside.receivers c.self.inside.sends c.self.inside.next c.self.view_is c.args.s (Some c.in-Some.sender.now) (sym c.get.ensures ∙ ap option_copied c.in-Some.is)))), (tried (site c.self.inside.channels c.self.inside.senders c.self.inside.receivers c.self.inside.sends c.self.inside.next c.self.view_is c.self.invariant c.requires.next c.ranges.number.fits) c.args.s c.in-Some.sender.now c.at_mut.result.now (sym c.get.ensures ∙ ap option_copied c.in-Some.is) c.at_mut.ensures.value c.args.message c.try_send-sent.new.self _ c.args.ready.now c.try_send-sent.new.ready (c.tried_told.ensures ∙ ap tried_told c.try_send-sent.ensures.answer) c.try_send-sent.ensures.settles).1)
