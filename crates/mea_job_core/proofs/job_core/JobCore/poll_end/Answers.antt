use Rattle.std.proofs.Common.{refl, ap, is_some, ◌∙◌}
use Rattle.mea_job_core.specs.Service.{Service}
use Rattle.mea_job_core.proofs.Polling.{poll_seen, has_place}
use Rattle.mea_job_core.proofs.job_core.JobCore.poll_end.Goals as goal

pub returns-clause-polls : goal.returns-clause-polls
returns-clause-polls g c =
    let s = c.self.inside in
    poll_seen _ c.args.self.now c.self.view_is s.shutdown c.poll_receivers.new.self s.end c.poll_receivers.new.wait c.args.waker c.poll_receivers.result c.self.invariant.shut c.self.invariant.only refl refl
    c.self.invariant.counted.halted c.poll_receivers.ensures.polls c.poll_receivers.ensures.rest

pub returns-clause-replaces : goal.returns-clause-replaces
returns-clause-replaces g c =
    let s = c.self.inside in
    λ some. c.poll_receivers.ensures.replaces (has_place s.shutdown.receivers.waiting _ s.end c.self.invariant.only.one (ap (λ (t : Service _). is_some t.waker) c.self.view_is ∙ some))
