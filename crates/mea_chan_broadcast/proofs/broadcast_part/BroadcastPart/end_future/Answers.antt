use Rattle.std.proofs.Common.{Some, None, inl, sym, ap, ◌∙◌}
use Rattle.mea_family.specs.Causes.{unknown_unless}
use Rattle.mea_by_name.proofs.Own.{gone_none}
use Rattle.mea_chan_broadcast.proofs.Events.{site, future_is, receiver_some, future_ended}
use Rattle.mea_chan_broadcast.proofs.broadcast_part.BroadcastPart.end_future.Goals as goal

pub invariant_of-self : goal.invariant_of-self
invariant_of-self c = rw (c.take.ensures.rest, gone_none c.self.inside.futures c.args.f (sym c.take.ensures.value ∙ c.in_default.is)) c.self.invariant

pub returns-in_default : goal.returns-in_default
returns-in_default c = (inl (ap unknown_unless (sym (future_is c.self.inside.channels c.self.inside.senders c.self.inside.receivers c.self.inside.futures c.self.inside.next c.self.view_is c.args.f None (sym c.take.ensures.value ∙ c.in_default.is))), (λ no. absurd (cc))), rw (c.take.ensures.rest, gone_none c.self.inside.futures c.args.f (sym c.take.ensures.value ∙ c.in_default.is)) c.self.view_is)

pub at_mut-requires : goal.at_mut-requires
at_mut-requires c = receiver_some (site c.self.inside.channels c.self.inside.senders c.self.inside.receivers c.self.inside.futures c.self.inside.next c.self.view_is c.self.invariant c.requires.next) c.args.f c.in-Some.future (sym c.take.ensures.value ∙ c.in-Some.is)

pub invariant_of-self-2 : goal.invariant_of-self-2
invariant_of-self-2 c = (future_ended (site c.self.inside.channels c.self.inside.senders c.self.inside.receivers c.self.inside.futures c.self.inside.next c.self.view_is c.self.invariant c.requires.next) c.args.f c.in-Some.future (sym c.take.ensures.value ∙ c.in-Some.is) c.at_mut.result.now c.at_mut.ensures.value c.ranges.number.fits _ c.take.ensures.rest).0

pub returns : goal.returns
returns c = ((ap unknown_unless (sym (future_is c.self.inside.channels c.self.inside.senders c.self.inside.receivers c.self.inside.futures c.self.inside.next c.self.view_is c.args.f (Some c.in-Some.future) (sym c.take.ensures.value ∙ c.in-Some.is)))), (future_ended (site c.self.inside.channels c.self.inside.senders c.self.inside.receivers c.self.inside.futures c.self.inside.next c.self.view_is c.self.invariant c.requires.next) c.args.f c.in-Some.future (sym c.take.ensures.value ∙ c.in-Some.is) c.at_mut.result.now c.at_mut.ensures.value c.ranges.number.fits _ c.take.ensures.rest).1)
