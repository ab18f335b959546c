use Rattle.std.proofs.Common.{sym, refl, ◌∙◌, arith}
use Rattle.mea_sem_core.proofs.Closings.{closing_dropped}
use Rattle.mea_base.proofs.Chains.{unlinked_from_absent}
use Rattle.mea_sem_core.proofs.Held.{paid-view}
use Rattle.mea_sem_core.proofs.Leaves.{slot_cut, cut_absent, drops}
use Rattle.mea_sem_core.proofs.Sound.{sound}
use Rattle.mea_sem_core.proofs.sem_core.SemCore.refuse.Goals as goal

pub remove_unlinked-requires-clause-in_use : goal.remove_unlinked-requires-clause-in_use
remove_unlinked-requires-clause-in_use g c =
    let is = rw (c.in-Queued.is, ← c.self.view_is) at c.requires in
    rw (slot_cut c.self.inside.waiters.slots c.in-Queued.number c.in-Queued.demand is.1) refl

pub remove_unlinked-requires-clause-unlinked : goal.remove_unlinked-requires-clause-unlinked
remove_unlinked-requires-clause-unlinked g c =
    let is = rw (c.in-Queued.is, ← c.self.view_is) at c.requires in
    let slot = slot_cut c.self.inside.waiters.slots c.in-Queued.number c.in-Queued.demand is.1 in
    unlinked_from_absent c.in-Queued.number c.self.inside.waiters.order
    (cut_absent c.self.inside.waiters.slots c.in-Queued.number c.in-Queued.demand c.self.inside.waiters.order slot c.self.invariant.kept.waiting)

pub invariant_of-self : goal.invariant_of-self
invariant_of-self g c =
    let is = rw (c.in-Queued.is, ← c.self.view_is) at c.requires in
    let slot = slot_cut c.self.inside.waiters.slots c.in-Queued.number c.in-Queued.demand is.1 in
    let dropped = drops c.self.inside.waiters c.remove_unlinked.new.self c.in-Queued.number c.in-Queued.demand slot c.remove_unlinked.ensures.updates
    c.remove_unlinked.ensures.order c.self.invariant.kept in
    record {
      kept = dropped.kept;
      room = rw c.remove_unlinked.ensures.order c.self.invariant.room;
      paid = c.self.invariant.paid ∙ sym dropped.paid;
      total = c.self.invariant.total;
      fits = c.self.invariant.fits;
      idle = λ some. c.remove_unlinked.ensures.order ∙ c.self.invariant.idle some;
      closing = closing_dropped c.self.inside.closed _ _ _ _ c.in-Queued.number c.in-Queued.demand is.1 dropped.queue c.self.invariant.closing;
    }

pub returns-in-Queued-clause-is : goal.returns-in-Queued-clause-is
returns-in-Queued-clause-is g c =
    let is = rw (c.in-Queued.is, ← c.self.view_is) at c.requires in
    let slot = slot_cut c.self.inside.waiters.slots c.in-Queued.number c.in-Queued.demand is.1 in
    let dropped = drops c.self.inside.waiters c.remove_unlinked.new.self c.in-Queued.number c.in-Queued.demand slot c.remove_unlinked.ensures.updates
    c.remove_unlinked.ensures.order c.self.invariant.kept in
    rw (c.in-Queued.is, ← c.self.view_is) (λ i. record {
      free = c.self.inside.free;
      live = c.self.inside.live;
      queue = dropped.queue i;
      granted = dropped.granted i;
      cut = dropped.cut i;
      closed = c.self.inside.closed;
      wakes = c.self.inside.outbox.wakers;
    })

pub returns-in-Queued-clause-held : goal.returns-in-Queued-clause-held
returns-in-Queued-clause-held g c =
    let is = rw (c.in-Queued.is, ← c.self.view_is) at c.requires in
    let slot = slot_cut c.self.inside.waiters.slots c.in-Queued.number c.in-Queued.demand is.1 in
    let dropped = drops c.self.inside.waiters c.remove_unlinked.new.self c.in-Queued.number c.in-Queued.demand slot c.remove_unlinked.ensures.updates
    c.remove_unlinked.ensures.order c.self.invariant.kept in
    let before = paid-view c.self.inside.waiters c.self.invariant.kept in
    let after = paid-view c.remove_unlinked.new.self dropped.kept in
    rw (← c.self.view_is) (omega (arith, before, after, dropped.paid))

pub returns-in-Queued-clause-sound : goal.returns-in-Queued-clause-sound
returns-in-Queued-clause-sound g c =
    let kept = invariant_of-self g c in
    sound _ _ _ _ _ _ kept.kept kept.paid kept.total kept.idle kept.fits kept.closing

pub returns-in-New-clause-sound : goal.returns-in-New-clause-sound
returns-in-New-clause-sound g c =
    rw (← c.self.view_is) (sound c.self.inside.waiters c.self.inside.free c.self.inside.live c.self.inside.paid c.self.inside.closed c.self.inside.outbox.wakers c.self.invariant.kept c.self.invariant.paid c.self.invariant.total c.self.invariant.idle c.self.invariant.fits c.self.invariant.closing)

pub returns-in-New-3-clause-sound : goal.returns-in-New-3-clause-sound
returns-in-New-3-clause-sound g c =
    rw (← c.self.view_is) (sound c.self.inside.waiters c.self.inside.free c.self.inside.live c.self.inside.paid c.self.inside.closed c.self.inside.outbox.wakers c.self.invariant.kept c.self.invariant.paid c.self.invariant.total c.self.invariant.idle c.self.invariant.fits c.self.invariant.closing)
