use Rattle.std.proofs.Common.{subst}
use Rattle.mea_lock_core.specs.Condvar.{Condvar, IsSound}
use Rattle.mea_lock_core.proofs.Changes.{in_use, waits_as, sound_of}
use Rattle.mea_lock_core.proofs.condvar_core.CondvarCore.is_waiting.Goals as goal

pub get-requires : goal.get-requires
get-requires g c = in_use c.self.inside.waiters c.self.inside.outbox c.args.number (rw (← c.self.view_is) at c.requires)

pub returns-clause-waits : goal.returns-clause-waits
returns-clause-waits g c = rw (c.waits.ensures, ← c.self.view_is) (waits_as c.self.inside.waiters c.self.inside.outbox c.args.number c.get.result.now c.get.ensures c.self.invariant.noted)

pub returns-clause-sound : goal.returns-clause-sound
returns-clause-sound g c = subst (λ (s : Condvar g.row.W.Denot). IsSound s) c.self.view_is
    (sound_of c.self.inside.waiters c.self.inside.outbox c.self.invariant.noted)
