use Rattle.std.proofs.Common.{◌∙◌}
use Rattle.mea_job_core.proofs.Views.{is_seen, not_queued, is_queued}
use Rattle.mea_job_core.proofs.work.Work.is_queued.Goals as goal

pub returns-then-self : goal.returns-then-self
returns-then-self c = not_queued c.self.inside.permits c.self.inside.queued c.self.inside.running.things c.self.inside.stopped c.args.self.now.seen c.args.number (is_seen c.self.view_is) c.if-self.true

pub returns : goal.returns
returns c = c.has.ensures ∙ is_queued c.self.inside.permits c.self.inside.queued c.self.inside.running.things c.self.inside.stopped c.args.self.now.seen c.args.number (is_seen c.self.view_is) c.if-self.false
