use Rattle.std.proofs.Common.{◌∙◌}
use Rattle.mea_lock.proofs.WaitEvents.{wait_of}
use Rattle.mea_lock.proofs.wait_part.WaitPart.is_wait.Goals as goal

pub returns : goal.returns
returns c = c.has.ensures ∙ wait_of c.self.inside.condvars c.self.inside.waits c.self.inside.next c.self.view_is c.args.f
