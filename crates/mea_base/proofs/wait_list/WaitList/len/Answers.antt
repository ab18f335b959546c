use Rattle.std.proofs.Common.{sym}
use Rattle.mea_base.proofs.WaitLinks.{length-order}
use Rattle.mea_base.proofs.wait_list.WaitList.len.Goals as goal

pub returns : goal.returns
returns g c = rw (← c.self.view_is) (sym (length-order c.self.inside.nodes.slots c.self.inside.len))
