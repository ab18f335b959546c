use Rattle.std.proofs.Common.{is_some, ap, sym, ◌∙◌}
use Rattle.std.specs.Option.{option_copied}
use Rattle.mea_family.specs.Causes.{borrowed_by}
use Rattle.mea_meet_model.specs.Barriers.{waits_of}
use Rattle.mea_meet.proofs.BarrierSites.{look, drop_cause, is_barrier_is}
use Rattle.mea_meet.proofs.barrier_part.BarrierPart.cause_of_drop.Goals as goal

pub returns-in-Some-clause-is : goal.returns-in-Some-clause-is
returns-in-Some-clause-is c = c.borrowed_if.ensures ∙ drop_cause (look c.self.inside.barriers c.self.inside.waits c.self.inside.next c.self.view_is c.self.invariant) c.args.b c.in-Some.entry.now (sym c.get.ensures ∙ ap option_copied c.in-Some.is)

pub returns-in-None-clause-is : goal.returns-in-None-clause-is
returns-in-None-clause-is c = ap (λ k. borrowed_by k (waits_of c.args.self.now.hall c.args.b)) (sym (ap is_some (sym c.get.ensures ∙ ap option_copied c.in-None.is)) ∙ is_barrier_is c.self.inside.barriers c.self.inside.waits c.self.inside.next c.self.view_is c.args.b)
