use Rattle.std.proofs.Common.{◌∙◌}
use Rattle.mea_meet.proofs.BarrierSites.{is_wait_is}
use Rattle.mea_meet.proofs.barrier_part.BarrierPart.is_wait.Goals as goal

pub returns : goal.returns
returns c = c.has.ensures ∙ is_wait_is c.self.inside.barriers c.self.inside.waits c.self.inside.next c.self.view_is c.args.f
