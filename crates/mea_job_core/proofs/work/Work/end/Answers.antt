use Rattle.std.proofs.Common.{ap, sym, ◌∙◌, arith}
use Rattle.std.specs.FinMap.{get, len}
use Rattle.mea_base.proofs.Maps.{is_there}
use Rattle.mea_share_core.proofs.Kept.{len-fewer}
use Rattle.mea_job_core.specs.Work.{Work, number_in}
use Rattle.mea_job_core.specs.Tied.{work_seen}
use Rattle.mea_job_core.proofs.Views.{is_seen, ends_over, ends_going, fewer_jobs}
use Rattle.mea_job_core.proofs.work.Work.end.Goals as goal

pub overflow_sub-self : goal.overflow_sub-self
overflow_sub-self c =
    omega (arith, c.self.invariant.counted, len-fewer c.self.inside.running.things c.args.number (is_there (get c.self.inside.running.things c.args.number) c.remove.result c.remove.ensures.value))

pub invariant_of-self : goal.invariant_of-self
invariant_of-self c =
    let fewer = len-fewer c.self.inside.running.things c.args.number (is_there (get c.self.inside.running.things c.args.number) c.remove.result c.remove.ensures.value) in
    let running = ap len c.remove.ensures.things in
    let over = c.if-self.true in
    record {
      some = c.self.invariant.some;
      counted = omega (arith, running, fewer, c.self.invariant.counted);
      few = omega (arith, c.self.invariant.few);
      room = λ going. absurd (let no = sym over ∙ going in cc);
      free = λ going. absurd (let no = sym over ∙ going in cc);
      fair = λ going. absurd (let no = sym over ∙ going in cc);
    }

pub returns-then-self-clause-answer : goal.returns-then-self-clause-answer
returns-then-self-clause-answer c =
    ap number_in (ends_over c.self.inside.permits c.self.inside.queued c.self.inside.running.things c.self.inside.stopped c.args.self.now.seen c.args.number (is_seen c.self.view_is) c.if-self.true).0

pub returns-then-self-clause-ends : goal.returns-then-self-clause-ends
returns-then-self-clause-ends c =
    (λ i. work_seen c.self.inside.permits c.self.inside.queued (c.remove.ensures.things i) c.self.inside.stopped)
    ∙ (ends_over c.self.inside.permits c.self.inside.queued c.self.inside.running.things c.self.inside.stopped c.args.self.now.seen c.args.number (is_seen c.self.view_is) c.if-self.true).1

pub returns-in-Some-clause-ends : goal.returns-in-Some-clause-ends
returns-in-Some-clause-ends c =
    ends_going c.self.inside.permits c.self.inside.queued c.self.inside.running.things c.self.inside.stopped c.args.self.now.seen c.args.number c.end_job.new.queued c.end_job.new.running.things (is_seen c.self.view_is) c.if-self.false c.end_job.ensures.ends

pub returns-then-self-clause-fewer : goal.returns-then-self-clause-fewer
returns-then-self-clause-fewer c =
    let fewer = len-fewer c.self.inside.running.things c.args.number (is_there (get c.self.inside.running.things c.args.number) c.remove.result c.remove.ensures.value) in
    let running = ap len c.remove.ensures.things in
    let queued_was = ap (λ (w : Work). len w.queued) (is_seen c.self.view_is) in
    let running_was = ap (λ (w : Work). len w.running) (is_seen c.self.view_is) in
    omega (arith, fewer, running, queued_was, running_was)

pub returns-in-Some-clause-fewer : goal.returns-in-Some-clause-fewer
returns-in-Some-clause-fewer c =
    fewer_jobs c.self.inside.permits c.self.inside.queued c.self.inside.running.things c.self.inside.stopped c.args.self.now.seen c.end_job.new.queued c.end_job.new.running.things (is_seen c.self.view_is) c.if-self.false
    (let did = c.in-Some.ensures.some in omega (arith, did.0, did.2))

pub returns-in-None-clause-fewer : goal.returns-in-None-clause-fewer
returns-in-None-clause-fewer c =
    fewer_jobs c.self.inside.permits c.self.inside.queued c.self.inside.running.things c.self.inside.stopped c.args.self.now.seen c.end_job.new.queued c.end_job.new.running.things (is_seen c.self.view_is) c.if-self.false
    (let did = c.in-None.ensures.none in omega (arith, did.0, did.2))
