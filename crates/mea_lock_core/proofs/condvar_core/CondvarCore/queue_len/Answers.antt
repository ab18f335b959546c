use Rattle.std.proofs.Common.{sym, ◌∙◌, subst}
use Rattle.mea_lock_core.specs.Condvar.{Condvar, IsSound}
use Rattle.mea_lock_core.proofs.Changes.{sound_of}
use Rattle.mea_lock_core.proofs.Lines.{length-waits_in}
use Rattle.mea_lock_core.proofs.condvar_core.CondvarCore.queue_len.Goals as goal

pub returns-clause-is : goal.returns-clause-is
returns-clause-is g c =
    rw (← c.self.view_is) (c.len.ensures ∙ sym (length-waits_in c.self.inside.waiters.slots c.self.inside.waiters.order c.self.invariant.noted.waiting))

pub returns-clause-sound : goal.returns-clause-sound
returns-clause-sound g c = subst (λ (s : Condvar g.row.W.Denot). IsSound s) c.self.view_is
    (sound_of c.self.inside.waiters c.self.inside.outbox c.self.invariant.noted)
