use Rattle.futures.specs.Task.{Keeps}
use Rattle.tokio.specs.Channels.{CanSend}
use Rattle.mea_bench_shared.proofs.sending.TokioSendsFuture.poll.Given as goal

abbrev pub invariant-loop-self : goal.invariant-loop-self
invariant-loop-self l = CanSend l.self.send × Keeps l.fn.cx l.cx

abbrev pub decreases-loop-self : goal.decreases-loop-self
decreases-loop-self l = l.self.left
