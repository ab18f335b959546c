use Rattle.std.proofs.Common.{length}
use Rattle.mea_sem_core.proofs.PourSteps.{Continues, Counts}
use Rattle.mea_sem_core.proofs.pouring.pour_counted.Given as goal

abbrev pub invariant-loop-number : goal.invariant-loop-number
invariant-loop-number g l = record {
  pours : Continues l.fn.waiters l.waiters l.fn.outbox l.outbox l.amount l.rest l.to_debts;
  few : Counts l.fn.waiters l.waiters l.fn.steps l.steps;
}

abbrev pub decreases-loop-number : goal.decreases-loop-number
decreases-loop-number g l = length l.waiters.order
