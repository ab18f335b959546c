use Rattle.std.proofs.Common.{inr, refl, sym, ◌∙◌}
use Rattle.mea_family.proofs.Refusals.{as_told}
use Rattle.mea_chan_broadcast.proofs.broadcast_part.BroadcastPart.make.Goals as goal

pub returns-in-Some : goal.returns-in-Some
returns-in-Some c = (as_told _ _ _ _ c.cause_of_size.ensures.is c.cause_of_size.ensures.tells c.in-Some.is, refl)

pub returns-in_default-new : goal.returns-in_default-new
returns-in_default-new c = (inr ((sym c.cause_of_size.ensures.is ∙ c.in_default.is), refl, λ no. no), refl)
