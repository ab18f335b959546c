use Rattle.std.proofs.Common.{inl, inr, refl}
use Rattle.mea_chan.proofs.BoundedEvents.{none_room}
use Rattle.mea_family.proofs.Refusals.{some_room}
use Rattle.mea_chan.proofs.bounded_part.BoundedPart.make.Goals as goal

pub returns-then-capacity-eq0 : goal.returns-then-capacity-eq0
returns-then-capacity-eq0 c = (inl (none_room c.args.capacity c.if-capacity-eq0.true, (λ no. absurd (cc))), refl, refl)

pub returns-in_default : goal.returns-in_default
returns-in_default c = (inr (some_room c.args.capacity c.if-capacity-eq0.false, refl, λ no. no), refl, refl)
