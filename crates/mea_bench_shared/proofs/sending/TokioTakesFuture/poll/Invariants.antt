use Rattle.futures.specs.Task.{Keeps}
use Rattle.mea_bench_shared.proofs.sending.TokioTakesFuture.poll.Given as goal

abbrev pub invariant-loop-self : goal.invariant-loop-self
invariant-loop-self l = Keeps l.fn.cx l.cx

abbrev pub decreases-loop-self : goal.decreases-loop-self
decreases-loop-self l = l.self.left
