use Rattle.std.proofs.Common.{◌∙◌}
use Rattle.mea_meet.proofs.BarrierSites.{is_barrier_is}
use Rattle.mea_meet.proofs.barrier_part.BarrierPart.is_barrier.Goals as goal

pub returns : goal.returns
returns c = c.has.ensures ∙ is_barrier_is c.self.inside.barriers c.self.inside.waits c.self.inside.next c.self.view_is c.args.b
