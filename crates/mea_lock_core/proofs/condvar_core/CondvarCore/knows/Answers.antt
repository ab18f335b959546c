use Rattle.mea_lock_core.proofs.Changes.{knows, in_use}
use Rattle.mea_lock_core.proofs.condvar_core.CondvarCore.knows.Goals as goal

pub returns : goal.returns
returns g c =
    rw (← c.self.view_is) (
      (λ yes. knows c.self.inside.waiters c.self.inside.outbox c.args.number c.self.invariant.noted (c.is_in_use.ensures.0 yes)),
      (λ known. c.is_in_use.ensures.1 (in_use c.self.inside.waiters c.self.inside.outbox c.args.number known)),
    )
