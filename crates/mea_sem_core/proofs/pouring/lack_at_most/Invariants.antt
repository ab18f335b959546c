use Rattle.std.proofs.Common.{length}
use Rattle.mea_sem_core.proofs.Cuts.{rest_from}
use Rattle.mea_sem_core.proofs.Walks.{Walks}
use Rattle.mea_sem_core.proofs.pouring.lack_at_most.Given as goal

abbrev pub invariant-loop-next : goal.invariant-loop-next
invariant-loop-next g l = Walks l.waiters l.next l.rest l.most

abbrev pub decreases-loop-next : goal.decreases-loop-next
decreases-loop-next g l = length (rest_from l.next l.waiters.order)
