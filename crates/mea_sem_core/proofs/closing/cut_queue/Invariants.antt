use Rattle.std.proofs.Common.{length}
use Rattle.mea_sem_core.proofs.Cuts.{Cutting, rest_from}
use Rattle.mea_sem_core.proofs.closing.cut_queue.Given as goal

abbrev pub invariant-loop-next : goal.invariant-loop-next
invariant-loop-next g l = Cutting l.fn.waiters l.waiters l.fn.outbox l.outbox l.paid l.next

abbrev pub decreases-loop-next : goal.decreases-loop-next
decreases-loop-next g l = length (rest_from l.next l.waiters.order)
