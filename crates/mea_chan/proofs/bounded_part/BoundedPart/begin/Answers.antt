use Rattle.std.proofs.Common.{Some, None, inl, inr, refl, sym, ap, ◌∙◌}
use Rattle.std.specs.FinMap.{insert}
use Rattle.std.specs.Option.{option_copied_mut}
use Rattle.mea_family.specs.Causes.{unknown_unless}
use Rattle.mea_chan.proofs.BoundedEvents.{site, sender_is}
use Rattle.mea_chan.proofs.BoundedEnds.{looked_at, begun}
use Rattle.mea_chan.proofs.bounded_part.BoundedPart.begin.Goals as goal

pub returns-in_default : goal.returns-in_default
returns-in_default c = (inl (ap unknown_unless (sym (sender_is c.self.inside.channels c.self.inside.senders c.self.inside.receivers c.self.inside.sends c.self.inside.next c.self.view_is c.args.s None (sym c.get_mut.ensures.value ∙ ap option_copied_mut c.in_default.is))), (λ no. absurd (cc))), c.self.view_is, refl)

pub invariant_of-self-in_default-insert : goal.invariant_of-self-in_default-insert
invariant_of-self-in_default-insert c = rw c.in_default-insert.ensures.err (looked_at (site c.self.inside.channels c.self.inside.senders c.self.inside.receivers c.self.inside.sends c.self.inside.next c.self.view_is c.self.invariant c.requires.next c.ranges.number.fits) c.args.s c.in-Some.sender.now (sym c.get_mut.ensures.value ∙ ap option_copied_mut c.in-Some.is)).0

pub returns-in_default-insert : goal.returns-in_default-insert
returns-in_default-insert c = (inr ((ap unknown_unless (sym (sender_is c.self.inside.channels c.self.inside.senders c.self.inside.receivers c.self.inside.sends c.self.inside.next c.self.view_is c.args.s (Some c.in-Some.sender.now) (sym c.get_mut.ensures.value ∙ ap option_copied_mut c.in-Some.is)))), refl, λ no. no), rw c.in_default-insert.ensures.err (looked_at (site c.self.inside.channels c.self.inside.senders c.self.inside.receivers c.self.inside.sends c.self.inside.next c.self.view_is c.self.invariant c.requires.next c.ranges.number.fits) c.args.s c.in-Some.sender.now (sym c.get_mut.ensures.value ∙ ap option_copied_mut c.in-Some.is)).1, refl)

pub invariant_of-self-2 : goal.invariant_of-self-2
invariant_of-self-2 c = (begun (site c.self.inside.channels c.self.inside.senders c.self.inside.receivers c.self.inside.sends c.self.inside.next c.self.view_is c.self.invariant c.requires.next c.ranges.number.fits) c.args.s c.in-Some.sender.now (sym c.get_mut.ensures.value ∙ ap option_copied_mut c.in-Some.is) c.args.message _ c.args.ready.now (c.in-Ok.ensures.ok ∙ ap (insert c.self.inside.sends c.args.number) c.new-send.ensures)).0

pub returns : goal.returns
returns c = ((ap unknown_unless (sym (sender_is c.self.inside.channels c.self.inside.senders c.self.inside.receivers c.self.inside.sends c.self.inside.next c.self.view_is c.args.s (Some c.in-Some.sender.now) (sym c.get_mut.ensures.value ∙ ap option_copied_mut c.in-Some.is)))), (begun (site c.self.inside.channels c.self.inside.senders c.self.inside.receivers c.self.inside.sends c.self.inside.next c.self.view_is c.self.invariant c.requires.next c.ranges.number.fits) c.args.s c.in-Some.sender.now (sym c.get_mut.ensures.value ∙ ap option_copied_mut c.in-Some.is) c.args.message _ c.args.ready.now (c.in-Ok.ensures.ok ∙ ap (insert c.self.inside.sends c.args.number) c.new-send.ensures)).1)
