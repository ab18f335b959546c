use Rattle.std.proofs.Common.{◌∙◌}
use Rattle.mea_job_core.proofs.Views.{is_seen, none_queued, queued_len}
use Rattle.mea_job_core.proofs.work.Work.queued.Goals as goal

pub returns-then-self : goal.returns-then-self
returns-then-self c = none_queued c.self.inside.permits c.self.inside.queued c.self.inside.running.things c.self.inside.stopped c.args.self.now.seen (is_seen c.self.view_is) c.if-self.true

pub returns : goal.returns
returns c =
    c.num_waiters.ensures.is ∙ (c.self.invariant.fair c.if-self.false).tied.as_many
    ∙ queued_len c.self.inside.permits c.self.inside.queued c.self.inside.running.things c.self.inside.stopped c.args.self.now.seen (is_seen c.self.view_is) c.if-self.false
