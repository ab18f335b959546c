use Rattle.std.proofs.Common.{Some, None, inl, inr, refl, sym, ap, ◌∙◌, if◌then◌else◌}
use Rattle.std.specs.Option.{option_copied_mut}
use Rattle.mea_family.specs.declared.stop.Stop.TheVariants as stops
use Rattle.mea_chan_broadcast.proofs.Events.{site, unusable_is, unheard, begun}
use Rattle.mea_chan_broadcast.proofs.broadcast_part.BroadcastPart.begin.Goals as goal

pub returns-in_default : goal.returns-in_default
returns-in_default c = (inl (sym (unusable_is c.self.inside.channels c.self.inside.senders c.self.inside.receivers c.self.inside.futures c.self.inside.next c.self.view_is c.args.r None (sym c.get_mut.ensures.value ∙ ap option_copied_mut c.in_default.is)), (λ no. absurd (cc))), c.self.view_is)

pub invariant_of-self-then-is_some : goal.invariant_of-self-then-is_some
invariant_of-self-then-is_some c = (unheard (site c.self.inside.channels c.self.inside.senders c.self.inside.receivers c.self.inside.futures c.self.inside.next c.self.view_is c.self.invariant c.requires.next) c.args.r c.in-Some.receiver.now c.in-Some.receiver.now (sym c.get_mut.ensures.value ∙ ap option_copied_mut c.in-Some.is) refl).0

pub returns-then-is_some : goal.returns-then-is_some
returns-then-is_some c = (inl ((sym (unusable_is c.self.inside.channels c.self.inside.senders c.self.inside.receivers c.self.inside.futures c.self.inside.next c.self.view_is c.args.r (Some c.in-Some.receiver.now) (sym c.get_mut.ensures.value ∙ ap option_copied_mut c.in-Some.is)) ∙ ap (λ b. if b then Some stops.Borrowed else None) (sym c.is_some.ensures ∙ c.if-is_some.true)), (λ no. absurd (cc))), (unheard (site c.self.inside.channels c.self.inside.senders c.self.inside.receivers c.self.inside.futures c.self.inside.next c.self.view_is c.self.invariant c.requires.next) c.args.r c.in-Some.receiver.now c.in-Some.receiver.now (sym c.get_mut.ensures.value ∙ ap option_copied_mut c.in-Some.is) refl).1)

pub invariant_of-self-in_default-insert : goal.invariant_of-self-in_default-insert
invariant_of-self-in_default-insert c = rw c.in_default-insert.ensures.err (unheard (site c.self.inside.channels c.self.inside.senders c.self.inside.receivers c.self.inside.futures c.self.inside.next c.self.view_is c.self.invariant c.requires.next) c.args.r c.in-Some.receiver.now c.in-Some.receiver.now (sym c.get_mut.ensures.value ∙ ap option_copied_mut c.in-Some.is) refl).0

pub returns-in_default-insert : goal.returns-in_default-insert
returns-in_default-insert c = (inr ((sym (unusable_is c.self.inside.channels c.self.inside.senders c.self.inside.receivers c.self.inside.futures c.self.inside.next c.self.view_is c.args.r (Some c.in-Some.receiver.now) (sym c.get_mut.ensures.value ∙ ap option_copied_mut c.in-Some.is)) ∙ ap (λ b. if b then Some stops.Borrowed else None) (sym c.is_some.ensures ∙ c.if-is_some.false)), refl, λ no. no), rw c.in_default-insert.ensures.err (unheard (site c.self.inside.channels c.self.inside.senders c.self.inside.receivers c.self.inside.futures c.self.inside.next c.self.view_is c.self.invariant c.requires.next) c.args.r c.in-Some.receiver.now c.in-Some.receiver.now (sym c.get_mut.ensures.value ∙ ap option_copied_mut c.in-Some.is) refl).1)

pub invariant_of-self-2 : goal.invariant_of-self-2
invariant_of-self-2 c = (begun (site c.self.inside.channels c.self.inside.senders c.self.inside.receivers c.self.inside.futures c.self.inside.next c.self.view_is c.self.invariant c.requires.next) c.args.r c.in-Some.receiver.now (sym c.get_mut.ensures.value ∙ ap option_copied_mut c.in-Some.is) (sym (unusable_is c.self.inside.channels c.self.inside.senders c.self.inside.receivers c.self.inside.futures c.self.inside.next c.self.view_is c.args.r (Some c.in-Some.receiver.now) (sym c.get_mut.ensures.value ∙ ap option_copied_mut c.in-Some.is)) ∙ ap (λ b. if b then Some stops.Borrowed else None) (sym c.is_some.ensures ∙ c.if-is_some.false)) (record { receiver = c.args.r; channel = c.in-Some.receiver.now.channel; wait = c.new.result }) refl refl c.new.ensures c.ranges.number.fits _ c.in-Ok.ensures.ok).0

pub returns : goal.returns
returns c = ((sym (unusable_is c.self.inside.channels c.self.inside.senders c.self.inside.receivers c.self.inside.futures c.self.inside.next c.self.view_is c.args.r (Some c.in-Some.receiver.now) (sym c.get_mut.ensures.value ∙ ap option_copied_mut c.in-Some.is)) ∙ ap (λ b. if b then Some stops.Borrowed else None) (sym c.is_some.ensures ∙ c.if-is_some.false)), (begun (site c.self.inside.channels c.self.inside.senders c.self.inside.receivers c.self.inside.futures c.self.inside.next c.self.view_is c.self.invariant c.requires.next) c.args.r c.in-Some.receiver.now (sym c.get_mut.ensures.value ∙ ap option_copied_mut c.in-Some.is) (sym (unusable_is c.self.inside.channels c.self.inside.senders c.self.inside.receivers c.self.inside.futures c.self.inside.next c.self.view_is c.args.r (Some c.in-Some.receiver.now) (sym c.get_mut.ensures.value ∙ ap option_copied_mut c.in-Some.is)) ∙ ap (λ b. if b then Some stops.Borrowed else None) (sym c.is_some.ensures ∙ c.if-is_some.false)) (record { receiver = c.args.r; channel = c.in-Some.receiver.now.channel; wait = c.new.result }) refl refl c.new.ensures c.ranges.number.fits _ c.in-Ok.ensures.ok).1)
