use Rattle.std.proofs.Common.{Some, ap, ◌∙◌}
use Rattle.mea_job_core.specs.Waiting.{Waiting}
use Rattle.mea_job_core.specs.Tied.{work_seen}
use Rattle.mea_job_core.proofs.Views.{is_seen, none_back, handed_none, no_back, first_is_back, seen_handed}
use Rattle.mea_job_core.proofs.work.Work.take_back.Goals as goal

-- the service goes on
pub returns-then-not-self-clause-answer : goal.returns-then-not-self-clause-answer
returns-then-not-self-clause-answer c = none_back c.self.inside.permits c.self.inside.queued c.self.inside.running.things c.self.inside.stopped c.args.self.now.seen (is_seen c.self.view_is) c.if-not-self.true

pub returns-then-not-self-clause-hands : goal.returns-then-not-self-clause-hands
returns-then-not-self-clause-hands c =
    handed_none c.self.inside.permits c.self.inside.queued c.self.inside.running.things c.args.self.now.seen
    (none_back c.self.inside.permits c.self.inside.queued c.self.inside.running.things c.self.inside.stopped c.args.self.now.seen (is_seen c.self.view_is) c.if-not-self.true)

-- nothing is left
pub returns-in_err-number-clause-answer : goal.returns-in_err-number-clause-answer
returns-in_err-number-clause-answer c =
    c.from_residual.ensures ∙ no_back c.self.inside.permits c.self.inside.queued c.self.inside.running.things c.self.inside.stopped c.args.self.now.seen (is_seen c.self.view_is) c.in_err-number.ensures.none

pub returns-in_err-number-clause-hands : goal.returns-in_err-number-clause-hands
returns-in_err-number-clause-hands c =
    handed_none c.self.inside.permits c.self.inside.queued c.self.inside.running.things c.args.self.now.seen
    (no_back c.self.inside.permits c.self.inside.queued c.self.inside.running.things c.self.inside.stopped c.args.self.now.seen (is_seen c.self.view_is) c.in_err-number.ensures.none)

-- the first is handed out
pub returns-clause-answer : goal.returns-clause-answer
returns-clause-answer c =
    ap (λ v. Some (c.in_ok-number.number, v)) (ap (λ (x : Waiting). x.value) c.job.view_is)
    ∙ first_is_back c.self.inside.permits c.self.inside.queued c.self.inside.running.things c.self.inside.stopped c.args.self.now.seen c.in_ok-number.number c.remove-job.result (is_seen c.self.view_is) c.if-not-self.false
    c.remove-job.ensures.value c.in_ok-number.ensures.least

pub returns-clause-hands : goal.returns-clause-hands
returns-clause-hands c =
    (λ i. work_seen c.self.inside.permits (c.remove-job.ensures.rest i) c.self.inside.running.things c.self.inside.stopped)
    ∙ seen_handed c.self.inside.permits c.self.inside.queued c.self.inside.running.things c.self.inside.stopped c.args.self.now.seen c.in_ok-number.number c.remove-job.result.value (is_seen c.self.view_is) c.if-not-self.false
    (first_is_back c.self.inside.permits c.self.inside.queued c.self.inside.running.things c.self.inside.stopped c.args.self.now.seen c.in_ok-number.number c.remove-job.result (is_seen c.self.view_is) c.if-not-self.false
    c.remove-job.ensures.value c.in_ok-number.ensures.least)
