use Rattle.std.proofs.Common.{subst}
use Rattle.mea_lock_core.specs.Condvar.{Condvar, IsSound}
use Rattle.mea_lock_core.proofs.Changes.{sound_of}
use Rattle.mea_lock_core.proofs.condvar_core.CondvarCore.wakes_ready.Goals as goal

pub returns-clause-sound : goal.returns-clause-sound
returns-clause-sound g c = subst (λ (s : Condvar g.row.W.Denot). IsSound s) c.self.view_is
    (sound_of c.self.inside.waiters c.self.inside.outbox c.self.invariant.noted)
