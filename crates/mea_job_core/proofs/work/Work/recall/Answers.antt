use Rattle.std.proofs.Common.{subst, sym, ap, ◌∙◌, arith}
use Rattle.std.specs.FinMap.{len}
use Rattle.mea_share_core.proofs.Kept.{len-fewer}
use Rattle.mea_job_core.specs.Waiting.{Waiting}
use Rattle.mea_job_core.specs.Work.{Kept}
use Rattle.mea_job_core.specs.Tied.{IsFair, work_seen}
use Rattle.mea_job_core.proofs.Fairs.{belongs, recalls}
use Rattle.mea_job_core.proofs.Views.{is_seen, was_queued, seen_recalled, submission_seen}
use Rattle.mea_job_core.proofs.work.Work.recall.Goals as goal

pub remove-job-requires : goal.remove-job-requires
remove-job-requires c = (was_queued c.self.inside.permits c.self.inside.queued c.self.inside.running.things c.self.inside.stopped c.args.self.now.seen c.args.number (is_seen c.self.view_is) c.requires).1

pub cancel-requires : goal.cancel-requires
cancel-requires c =
    let s = c.self.inside in
    let was = was_queued s.permits s.queued s.running.things s.stopped c.args.self.now.seen c.args.number (is_seen c.self.view_is) c.requires in
    belongs s.fair s.queued s.running.things (c.self.invariant.fair was.0) c.args.number c.remove-job.result c.remove-job.ensures.value c.job.inside.acquire.key c.job.inside.acquire.stage
    (ap (λ (x : Waiting). x.key) c.job.view_is) (ap (λ (x : Waiting). x.stage) c.job.view_is)

pub invariant_of-self : goal.invariant_of-self
invariant_of-self c =
    let s = c.self.inside in
    let was = was_queued s.permits s.queued s.running.things s.stopped c.args.self.now.seen c.args.number (is_seen c.self.view_is) c.requires in
    let gone = recalls s.fair s.queued s.running.things (c.self.invariant.fair was.0) c.args.number c.remove-job.result c.remove-job.ensures.value c.job.inside.acquire.key c.job.inside.acquire.stage
    (ap (λ (x : Waiting). x.key) c.job.view_is) (ap (λ (x : Waiting). x.stage) c.job.view_is) c.cancel.new.self c.cancel.ensures.cancels c.cancel.ensures.settled in
    let rest = c.remove-job.ensures.rest in
    let fewer = len-fewer s.queued c.args.number was.1 in
    record {
      some = c.self.invariant.some;
      counted = c.self.invariant.counted;
      few = c.self.invariant.few;
      room = λ g. (let as_long = ap len rest in omega (arith, as_long, fewer, c.self.invariant.room g));
      free = λ g. omega (arith, gone.1, c.self.invariant.free g);
      fair = λ g. subst (λ q. IsFair c.cancel.new.self q s.running.things) (sym rest) gone.0;
    }

pub returns-clause-value : goal.returns-clause-value
returns-clause-value c = λ submission is.
    let s = c.self.inside in
    let was = was_queued s.permits s.queued s.running.things s.stopped c.args.self.now.seen c.args.number (is_seen c.self.view_is) c.requires in
    ap (λ (x : Waiting). x.value) c.job.view_is ∙ submission_seen s.permits s.queued s.running.things s.stopped c.args.self.now.seen c.args.number c.remove-job.result submission (is_seen c.self.view_is) was.0 c.remove-job.ensures.value is

pub returns-clause-recalls : goal.returns-clause-recalls
returns-clause-recalls c =
    let s = c.self.inside in
    let was = was_queued s.permits s.queued s.running.things s.stopped c.args.self.now.seen c.args.number (is_seen c.self.view_is) c.requires in
    (λ i. work_seen s.permits (c.remove-job.ensures.rest i) s.running.things s.stopped)
    ∙ seen_recalled s.permits s.queued s.running.things s.stopped c.args.self.now.seen c.args.number (is_seen c.self.view_is) was.0

pub returns-clause-asked : goal.returns-clause-asked
returns-clause-asked c =
    let s = c.self.inside in
    let was = was_queued s.permits s.queued s.running.things s.stopped c.args.self.now.seen c.args.number (is_seen c.self.view_is) c.requires in
    let gone = recalls s.fair s.queued s.running.things (c.self.invariant.fair was.0) c.args.number c.remove-job.result c.remove-job.ensures.value c.job.inside.acquire.key c.job.inside.acquire.stage
    (ap (λ (x : Waiting). x.key) c.job.view_is) (ap (λ (x : Waiting). x.stage) c.job.view_is) c.cancel.new.self c.cancel.ensures.cancels c.cancel.ensures.settled in
    let asked = ap (λ (k : Kept). k.asked) c.self.view_is in
    omega (arith, gone.2, asked)
