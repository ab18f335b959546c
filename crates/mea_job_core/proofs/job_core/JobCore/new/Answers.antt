use Rattle.std.proofs.Common.{refl, sym, subst, arith}
use Rattle.mea_job_core.specs.Parts.{IsQuiet}
use Rattle.mea_job_core.proofs.Counting.{counted_new}
use Rattle.mea_job_core.proofs.Shut.{shut_new, only_new}
use Rattle.mea_job_core.proofs.job_core.JobCore.new.Goals as goal

pub invariant_of-result : goal.invariant_of-result
invariant_of-result g c = record {
  quiet = subst (λ d. IsQuiet d) (sym c.in_ok-results.ensures) (record { senders = refl; lives = refl; waker = refl; waiting = refl; wakes = refl });
  shut = shut_new c.new-shutdown.result c.new-work.result.seen c.args.permits c.new-shutdown.ensures c.new-work.ensures.is;
  only = only_new c.new-shutdown.result c.new-end.result c.new-shutdown.ensures c.new-end.ensures;
  counted = counted_new c.new-work.result.seen c.args.permits c.args.most_queued c.new-work.ensures.is c.requires.few;
  asked = omega (arith, c.new-work.ensures.asked);
}
