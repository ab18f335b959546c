use Rattle.std.proofs.Common.{refl, sym, ◌∙◌, arith}
use Rattle.mea_job_core.proofs.Counting.{ended_counted}
use Rattle.mea_job_core.proofs.Seen.{sent, finish_shut, finish_seen}
use Rattle.mea_job_core.proofs.job_core.JobCore.finish.Goals as goal

pub invariant_of-self-2 : goal.invariant_of-self-2
invariant_of-self-2 g c =
    let s = c.self.inside in
    let some = sym c.is_running.ensures ∙ c.if-not-is_running.false in
    let went = sent s.results c.try_send.new.self (c.args.job, c.args.outcome) c.self.invariant.quiet c.in-Ok.ensures.answer c.in-Ok.ensures.after in
    let both = finish_shut _ c.args.self.now c.self.view_is s.shutdown c.end_receiver.new.self s.end c.end-started.new.self.seen c.self.invariant.shut c.self.invariant.only refl refl c.end_receiver.ensures c.args.job c.args.outcome some
    c.end-started.ensures.ends c.end-started.ensures.fewer c.self.invariant.counted.halted c.try_send.new.self.queued c.try_send.new.self.capacity went.queued went.capacity went.not_full in
    record {
      quiet = went.quiet;
      shut = both.0;
      only = both.1;
      counted = ended_counted s.work.seen c.end-started.new.self.seen c.args.job s.most_queued s.next s.finished s.returned c.end-started.ensures.ends c.end-started.ensures.fewer c.self.invariant.counted;
      asked = omega (arith, c.end-started.ensures.asked, c.self.invariant.asked);
    }

pub returns-clause-after : goal.returns-clause-after
returns-clause-after g c =
    let s = c.self.inside in
    let some = sym c.is_running.ensures ∙ c.if-not-is_running.false in
    let went = sent s.results c.try_send.new.self (c.args.job, c.args.outcome) c.self.invariant.quiet c.in-Ok.ensures.answer c.in-Ok.ensures.after in
    finish_seen _ c.args.self.now c.self.view_is s.shutdown c.end_receiver.new.self s.end c.end-started.new.self.seen c.self.invariant.shut c.self.invariant.only refl refl c.end_receiver.ensures c.args.job c.args.outcome some
    c.end-started.ensures.ends c.end-started.ensures.fewer c.self.invariant.counted.halted c.try_send.new.self.queued c.try_send.new.self.capacity went.queued went.capacity went.not_full
