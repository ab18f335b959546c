use Rattle.std.proofs.Common.{◌∙◌}
use Rattle.mea_lock.proofs.WaitEvents.{condvar_of}
use Rattle.mea_lock.proofs.wait_part.WaitPart.is_condvar.Goals as goal

pub returns : goal.returns
returns c = c.has.ensures ∙ condvar_of c.self.inside.condvars c.self.inside.waits c.self.inside.next c.self.view_is c.args.c
