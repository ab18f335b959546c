use Rattle.std.proofs.Common.{◌+◌, refl, sym, subst, ◌∙◌, arith}
use Rattle.mea_share_core.proofs.Kept.{len-fewer}
use Rattle.mea_meet_core.specs.Shutdown.{without_receiver}
use Rattle.mea_job_core.specs.Parts.{IsCounted}
use Rattle.mea_job_core.proofs.Counting.{goes_on, recalled_counted}
use Rattle.mea_job_core.proofs.Seen.{recall_some, recall_shut, recall_seen}
use Rattle.mea_job_core.proofs.job_core.JobCore.recall.Goals as goal

pub overflow_add-self : goal.overflow_add-self
overflow_add-self g c =
    let s = c.self.inside in
    let some = sym c.is_queued.ensures ∙ c.if-not-is_queued.false in
    omega (arith, len-fewer s.work.seen.queued c.args.job some, c.self.invariant.counted.sum, c.self.invariant.counted.last)

pub end_receiver-requires : goal.end_receiver-requires
end_receiver-requires g c =
    let s = c.self.inside in
    let some = sym c.is_queued.ensures ∙ c.if-not-is_queued.false in
    let still = goes_on s.work.seen c.args.job c.self.invariant.counted.halted some in
    recall_some _ c.args.self.now c.self.view_is s.shutdown (without_receiver s.shutdown) s.end c.recall-value.new.self.seen c.self.invariant.shut c.self.invariant.only refl refl refl c.args.job some still c.recall-value.ensures.recalls

pub invariant_of-self : goal.invariant_of-self
invariant_of-self g c =
    let s = c.self.inside in
    let some = sym c.is_queued.ensures ∙ c.if-not-is_queued.false in
    let still = goes_on s.work.seen c.args.job c.self.invariant.counted.halted some in
    let did = c.recall-value.ensures.recalls in
    let both = recall_shut _ c.args.self.now c.self.view_is s.shutdown c.end_receiver.new.self s.end c.recall-value.new.self.seen c.self.invariant.shut c.self.invariant.only refl refl c.end_receiver.ensures c.args.job some still did in
    record {
      quiet = c.self.invariant.quiet;
      shut = both.0;
      only = both.1;
      counted = subst (λ v. IsCounted v s.most_queued s.next s.finished (s.returned + 1)) (sym did) (recalled_counted s.work.seen c.args.job s.most_queued s.next s.finished s.returned some still c.self.invariant.counted);
      asked = omega (arith, c.recall-value.ensures.asked, c.self.invariant.asked);
    }

pub returns-clause-after : goal.returns-clause-after
returns-clause-after g c =
    let s = c.self.inside in
    let some = sym c.is_queued.ensures ∙ c.if-not-is_queued.false in
    let still = goes_on s.work.seen c.args.job c.self.invariant.counted.halted some in
    recall_seen _ c.args.self.now c.self.view_is s.shutdown c.end_receiver.new.self s.end c.recall-value.new.self.seen c.self.invariant.shut c.self.invariant.only refl refl c.end_receiver.ensures c.args.job some still c.recall-value.ensures.recalls
