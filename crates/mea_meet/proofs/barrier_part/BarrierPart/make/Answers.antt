use Rattle.mea_meet.proofs.BarrierSites.{site, made}
use Rattle.mea_meet.proofs.barrier_part.BarrierPart.make.Goals as goal

pub invariant_of-self-2 : goal.invariant_of-self-2
invariant_of-self-2 c = (made (site c.self.inside.barriers c.self.inside.waits c.self.inside.next c.self.view_is c.self.invariant c.requires) c.args.n c.new.result c.new.ensures c.insert.new.self c.in-Ok.ensures.ok).0

pub returns : goal.returns
returns c = (made (site c.self.inside.barriers c.self.inside.waits c.self.inside.next c.self.view_is c.self.invariant c.requires) c.args.n c.new.result c.new.ensures c.insert.new.self c.in-Ok.ensures.ok).1
