use Rattle.std.proofs.Common.{sym, ◌∙◌, arith}
use Rattle.mea_job_core.proofs.Counting.{halted_counted}
use Rattle.mea_job_core.proofs.Shut.{stop_shut}
use Rattle.mea_job_core.proofs.job_core.JobCore.stop.Goals as goal

pub invariant_of-self : goal.invariant_of-self
invariant_of-self g c =
    let s = c.self.inside in
    let still = sym c.is_stopped.ensures ∙ c.if-is_stopped.false in
    let both = stop_shut s.shutdown c.signal.new.self c.end_receivers.new.shutdown c.end_receiver.new.self s.end s.work.seen c.halt.new.self.seen c.queued-queued.result c.self.invariant.shut c.self.invariant.only still c.halt.ensures.halts
    c.signal.ensures c.queued-queued.ensures c.end_receivers.ensures c.end_receiver.ensures in
    record {
      quiet = c.self.invariant.quiet;
      shut = both.0;
      only = both.1;
      counted = halted_counted s.work.seen c.halt.new.self.seen c.queued-queued.result s.most_queued s.next s.finished s.returned c.halt.ensures.halts c.queued-queued.ensures c.self.invariant.counted;
      asked = omega (arith, c.halt.ensures.asked, c.self.invariant.asked);
    }
