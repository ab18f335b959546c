use Rattle.std.proofs.Common.{◌≡◌, ◌-◌, ◌∙◌, arith}
use Rattle.mea_sem_core.proofs.Belongs.{in_use, lacks_at_most, ended}
use Rattle.mea_sem_core.proofs.Held.{paid-view}
use Rattle.mea_sem_core.proofs.Leaves.{unlinked_after}
use Rattle.mea_sem_core.proofs.Sound.{sound}
use Rattle.mea_sem_core.proofs.sem_core.SemCore.lose_acquire.Goals as goal

pub get-requires : goal.get-requires
get-requires g c = in_use c.self.inside.waiters c.self.inside.closed c.in-Queued.demand c.in-Queued.number (rw (c.in-Queued.is, ← c.self.view_is) at c.requires)

pub paid-paid-requires : goal.paid-paid-requires
paid-paid-requires g c = lacks_at_most c.self.inside.waiters c.self.inside.closed c.in-Queued.demand c.in-Queued.number c.get.result.now c.self.invariant.kept
    (rw (c.in-Queued.is, ← c.self.view_is) at c.requires) c.get.ensures

pub remove_unlinked-requires-clause-unlinked : goal.remove_unlinked-requires-clause-unlinked
remove_unlinked-requires-clause-unlinked g c = rw c.unlink.ensures (unlinked_after c.in-Queued.number c.self.inside.waiters.order)

pub invariant_of-self : goal.invariant_of-self
invariant_of-self g c =
    let end = ended c.self.inside.waiters c.unlink.new.self c.remove_unlinked.new.self c.self.inside.closed c.in-Queued.demand c.in-Queued.number c.get.result.now c.self.invariant.kept (rw (c.in-Queued.is, ← c.self.view_is) at c.requires) c.get.ensures c.unlink.ensures c.remove_unlinked.ensures.updates c.remove_unlinked.ensures.order in
    record {
      kept = end.kept;
      room = omega (arith, end.shorter, c.self.invariant.room);
      paid = omega (arith, end.paid, c.self.invariant.paid, c.paid-paid.ensures);
      total = omega (arith, end.paid, c.self.invariant.paid, c.paid-paid.ensures, c.self.invariant.total);
      fits = omega (arith, c.self.invariant.fits);
      idle = λ some. end.idle (c.self.invariant.idle some);
      closing = end.closing c.self.inside.closed c.self.invariant.closing;
    }

pub returns-clause-loses : goal.returns-clause-loses
returns-clause-loses g c =
    let end = ended c.self.inside.waiters c.unlink.new.self c.remove_unlinked.new.self c.self.inside.closed c.in-Queued.demand c.in-Queued.number c.get.result.now c.self.invariant.kept (rw (c.in-Queued.is, ← c.self.view_is) at c.requires) c.get.ensures c.unlink.ensures c.remove_unlinked.ensures.updates c.remove_unlinked.ensures.order in
    rw (c.in-Queued.is, ← c.self.view_is) (
      (λ is.
          let granted = end.granted is in
          let part : c.paid-paid.result ≡ c.in-Queued.demand = c.paid-paid.ensures ∙ granted.0 in
          λ i. record {
            free = c.self.inside.free;
            live = c.self.inside.live - part i;
            queue = granted.1 i;
            granted = granted.2 i;
            cut = granted.3 i;
            closed = c.self.inside.closed;
            wakes = c.self.inside.outbox.wakers;
          }),
      (λ lack is.
          let waits = end.waits lack is in
          let part : c.paid-paid.result ≡ c.in-Queued.demand - lack = c.paid-paid.ensures ∙ waits.0 in
          λ i. record {
            free = c.self.inside.free;
            live = c.self.inside.live - part i;
            queue = waits.1 i;
            granted = waits.2 i;
            cut = waits.3 i;
            closed = c.self.inside.closed;
            wakes = c.self.inside.outbox.wakers;
          }),
      (λ is.
          let cut = end.cut is.1 in
          let part : c.paid-paid.result ≡ 0 = c.paid-paid.ensures ∙ cut.0 in
          let live : c.self.inside.live - c.paid-paid.result ≡ c.self.inside.live = omega (arith, part) in
          λ i. record {
            free = c.self.inside.free;
            live = live i;
            queue = cut.1 i;
            granted = cut.2 i;
            cut = cut.3 i;
            closed = c.self.inside.closed;
            wakes = c.self.inside.outbox.wakers;
          }),
    )

pub returns-clause-held : goal.returns-clause-held
returns-clause-held g c =
    let end = ended c.self.inside.waiters c.unlink.new.self c.remove_unlinked.new.self c.self.inside.closed c.in-Queued.demand c.in-Queued.number c.get.result.now c.self.invariant.kept (rw (c.in-Queued.is, ← c.self.view_is) at c.requires) c.get.ensures c.unlink.ensures c.remove_unlinked.ensures.updates c.remove_unlinked.ensures.order in
    let before = paid-view c.self.inside.waiters c.self.invariant.kept in
    let after = paid-view c.remove_unlinked.new.self end.kept in
    rw (← c.self.view_is) (omega (arith, before, after, end.paid, c.self.invariant.paid, c.paid-paid.ensures, c.self.invariant.total))

pub returns-clause-sound : goal.returns-clause-sound
returns-clause-sound g c =
    let kept = invariant_of-self g c in λ _.
    sound _ _ _ _ _ _ kept.kept kept.paid kept.total kept.idle kept.fits kept.closing
