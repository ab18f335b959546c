use Rattle.std.proofs.Common.{sym, ◌∙◌}
use Rattle.mea_sem_core.proofs.Belongs.{in_use}
use Rattle.mea_sem_core.proofs.Leaves.{cut_at, uncut_at}
use Rattle.mea_sem_core.proofs.Sound.{sound}
use Rattle.mea_sem_core.proofs.sem_core.SemCore.is_refused.Goals as goal

pub get-requires : goal.get-requires
get-requires g c = in_use c.self.inside.waiters c.self.inside.closed c.in-Queued.demand c.in-Queued.number (rw (c.in-Queued.is, ← c.self.view_is) at c.requires)

pub returns-in-Queued-clause-refused : goal.returns-in-Queued-clause-refused
returns-in-Queued-clause-refused g c = rw (c.in-Queued.is, ← c.self.view_is) (λ yes.
    cut_at c.self.inside.waiters c.self.inside.closed c.in-Queued.demand c.in-Queued.number c.get.result.now c.get.ensures (sym c.is_cut.ensures ∙ yes)
    (rw (c.in-Queued.is, ← c.self.view_is) at c.requires))

pub returns-in-Queued-clause-advances : goal.returns-in-Queued-clause-advances
returns-in-Queued-clause-advances g c = rw (c.in-Queued.is, ← c.self.view_is) (λ no.
    uncut_at c.self.inside.waiters c.self.inside.closed c.in-Queued.demand c.in-Queued.number c.get.result.now c.get.ensures (sym c.is_cut.ensures ∙ no)
    (rw (c.in-Queued.is, ← c.self.view_is) at c.requires))

pub returns-in-New-clause-sound : goal.returns-in-New-clause-sound
returns-in-New-clause-sound g c =
    rw (← c.self.view_is) (sound c.self.inside.waiters c.self.inside.free c.self.inside.live c.self.inside.paid c.self.inside.closed c.self.inside.outbox.wakers c.self.invariant.kept c.self.invariant.paid c.self.invariant.total c.self.invariant.idle c.self.invariant.fits c.self.invariant.closing)

pub returns-in-Queued-clause-sound : goal.returns-in-Queued-clause-sound
returns-in-Queued-clause-sound g c =
    rw (← c.self.view_is) (sound c.self.inside.waiters c.self.inside.free c.self.inside.live c.self.inside.paid c.self.inside.closed c.self.inside.outbox.wakers c.self.invariant.kept c.self.invariant.paid c.self.invariant.total c.self.invariant.idle c.self.invariant.fits c.self.invariant.closing)

pub returns-in-Done-clause-sound : goal.returns-in-Done-clause-sound
returns-in-Done-clause-sound g c =
    rw (← c.self.view_is) (sound c.self.inside.waiters c.self.inside.free c.self.inside.live c.self.inside.paid c.self.inside.closed c.self.inside.outbox.wakers c.self.invariant.kept c.self.invariant.paid c.self.invariant.total c.self.invariant.idle c.self.invariant.fits c.self.invariant.closing)

pub returns-in-Refused-clause-sound : goal.returns-in-Refused-clause-sound
returns-in-Refused-clause-sound g c =
    rw (← c.self.view_is) (sound c.self.inside.waiters c.self.inside.free c.self.inside.live c.self.inside.paid c.self.inside.closed c.self.inside.outbox.wakers c.self.invariant.kept c.self.invariant.paid c.self.invariant.total c.self.invariant.idle c.self.invariant.fits c.self.invariant.closing)
