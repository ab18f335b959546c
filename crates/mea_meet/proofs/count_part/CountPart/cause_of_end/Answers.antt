use Rattle.std.proofs.Common.{is_some, ap, sym, ◌∙◌}
use Rattle.std.specs.Option.{option_copied}
use Rattle.mea_family.specs.Causes.{borrowed_by}
use Rattle.mea_meet_model.specs.Counts.{borrowers_of}
use Rattle.mea_meet.proofs.CountSites.{look, is_holder_is}
use Rattle.mea_meet.proofs.CountCalls.{end_cause}
use Rattle.mea_meet.proofs.count_part.CountPart.cause_of_end.Goals as goal

pub returns-in-Some-clause-is : goal.returns-in-Some-clause-is
returns-in-Some-clause-is g c = c.borrowed_if.ensures ∙ end_cause (look c.self.inside.points c.self.inside.senders c.self.inside.holders c.self.inside.waits c.self.inside.next c.self.view_is c.self.invariant) c.args.k c.in-Some.holder.now (sym c.get.ensures ∙ ap option_copied c.in-Some.is)

pub returns-in-None-clause-is : goal.returns-in-None-clause-is
returns-in-None-clause-is g c = ap (λ b. borrowed_by b (borrowers_of c.args.self.now.hall c.args.k)) (sym (ap is_some (sym c.get.ensures ∙ ap option_copied c.in-None.is)) ∙ is_holder_is c.self.inside.points c.self.inside.senders c.self.inside.holders c.self.inside.waits c.self.inside.next c.self.view_is c.args.k)
