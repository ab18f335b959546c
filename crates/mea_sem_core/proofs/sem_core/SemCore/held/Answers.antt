use Rattle.std.proofs.Common.{◌-◌, ap, ◌∙◌}
use Rattle.mea_sem_core.proofs.Held.{paid-view}
use Rattle.mea_sem_core.proofs.sem_core.SemCore.held.Goals as goal

pub returns : goal.returns
returns g c =
    rw (← c.self.view_is) (ap (λ p. c.self.inside.live - c.self.inside.free - p)
    (c.self.invariant.paid ∙ paid-view c.self.inside.waiters c.self.invariant.kept))
