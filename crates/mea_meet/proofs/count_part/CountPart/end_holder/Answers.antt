use Rattle.std.proofs.Common.{sym, ◌∙◌}
use Rattle.mea_meet.proofs.Playing.{borrowed_by_none}
use Rattle.mea_family.proofs.Refusals.{borrowed_none}
use Rattle.mea_meet.proofs.count_part.CountPart.end_holder.Goals as goal

pub leave-requires-clause-free : goal.leave-requires-clause-free
leave-requires-clause-free g c = borrowed_by_none c.args.self.now.hall c.args.k (sym c.cause_of_end.ensures.is ∙ c.in_default.is)

pub returns : goal.returns
returns g c = (sym c.cause_of_end.ensures.is ∙ c.in_default.is, c.leave.ensures.left (c.leave.ensures.there ∙ (borrowed_none _ _ (sym c.cause_of_end.ensures.is ∙ c.in_default.is)).0))
