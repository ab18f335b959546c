use Rattle.std.proofs.Common.{refl, sym, ◌∙◌, arith, inl, inr}
use Rattle.mea_base.specs.WaitList.{with_value}
use Rattle.mea_sem_core.proofs.Belongs.{in_use, unlinked, not_waiting, not_granted, polled_granted, polled_waiting}
use Rattle.mea_sem_core.proofs.Closings.{closing_same, closing_rewoken}
use Rattle.mea_sem_core.proofs.Held.{paid-view}
use Rattle.mea_sem_core.proofs.Leaves.{granted_at, demand-le-paid}
use Rattle.mea_sem_core.proofs.Sound.{sound}
use Rattle.mea_sem_core.proofs.Steadies.{steady_rewakes}
use Rattle.mea_sem_core.proofs.sem_core.SemCore.resume.Goals as goal

pub get-requires : goal.get-requires
get-requires g c = in_use c.self.inside.waiters c.self.inside.closed c.args.demand c.args.number (inl (rw (← c.self.view_is) at c.requires))

-- ---- an acquire that was granted
pub remove_unlinked-requires-clause-unlinked : goal.remove_unlinked-requires-clause-unlinked
remove_unlinked-requires-clause-unlinked g c =
    unlinked c.self.inside.waiters c.args.demand c.args.number c.get.result.now c.self.invariant.kept c.get.ensures (sym c.if-is_grant_of.ensures)

pub overflow_sub-self : goal.overflow_sub-self
overflow_sub-self g c =
    omega (
      arith,
      demand-le-paid c.self.inside.waiters c.args.demand c.args.number
          (granted_at c.self.inside.waiters c.args.demand c.args.number c.get.result.now c.get.ensures (sym c.if-is_grant_of.ensures)),
      c.self.invariant.paid,
    )

pub invariant_of-self : goal.invariant_of-self
invariant_of-self g c =
    let taken = polled_granted c.self.inside.waiters c.remove_unlinked.new.self c.args.demand c.args.number c.get.result.now c.self.invariant.kept c.get.ensures (sym c.if-is_grant_of.ensures) c.remove_unlinked.ensures.updates c.remove_unlinked.ensures.order in
    record {
      kept = taken.kept;
      room = rw c.remove_unlinked.ensures.order c.self.invariant.room;
      paid = omega (arith, taken.paid, c.self.invariant.paid);
      total = omega (arith, c.self.invariant.total);
      fits = c.self.invariant.fits;
      idle = λ some. c.remove_unlinked.ensures.order ∙ c.self.invariant.idle some;
      closing = closing_same c.self.inside.closed _ _ _ _ taken.queue taken.cut c.self.invariant.closing;
    }

pub returns-then-is_grant_of-clause-granted : goal.returns-then-is_grant_of-clause-granted
returns-then-is_grant_of-clause-granted g c = λ is.
    let taken = polled_granted c.self.inside.waiters c.remove_unlinked.new.self c.args.demand c.args.number c.get.result.now c.self.invariant.kept c.get.ensures (sym c.if-is_grant_of.ensures) c.remove_unlinked.ensures.updates c.remove_unlinked.ensures.order in (
      refl,
      rw (← c.self.view_is) (λ i. record {
        free = c.self.inside.free;
        live = c.self.inside.live;
        queue = taken.queue i;
        granted = taken.granted i;
        cut = taken.cut i;
        closed = c.self.inside.closed;
        wakes = c.self.inside.outbox.wakers;
      }),
    )

pub returns-then-is_grant_of-clause-holds : goal.returns-then-is_grant_of-clause-holds
returns-then-is_grant_of-clause-holds g c = λ is.
    let taken = polled_granted c.self.inside.waiters c.remove_unlinked.new.self c.args.demand c.args.number c.get.result.now c.self.invariant.kept c.get.ensures (sym c.if-is_grant_of.ensures) c.remove_unlinked.ensures.updates c.remove_unlinked.ensures.order in
    let before = paid-view c.self.inside.waiters c.self.invariant.kept in
    let after = paid-view c.remove_unlinked.new.self taken.kept in
    rw (← c.self.view_is) (omega (arith, before, after, taken.paid, c.self.invariant.paid, c.self.invariant.total))

pub returns-then-is_grant_of-clause-waits : goal.returns-then-is_grant_of-clause-waits
returns-then-is_grant_of-clause-waits g c = λ waiting. absurd
    (let waits = rw (← c.self.view_is) at waiting in
    not_waiting c.self.inside.waiters c.args.demand c.args.number waits.0 c.get.result.now c.get.ensures (sym c.if-is_grant_of.ensures) waits.1)

pub returns-then-is_grant_of-clause-held : goal.returns-then-is_grant_of-clause-held
returns-then-is_grant_of-clause-held g c = λ waiting. absurd
    (let waits = rw (← c.self.view_is) at waiting in
    not_waiting c.self.inside.waiters c.args.demand c.args.number waits.0 c.get.result.now c.get.ensures (sym c.if-is_grant_of.ensures) waits.1)

pub returns-then-is_grant_of-clause-sound : goal.returns-then-is_grant_of-clause-sound
returns-then-is_grant_of-clause-sound g c =
    let kept = invariant_of-self g c in
    sound _ _ _ _ _ _ kept.kept kept.paid kept.total kept.idle kept.fits kept.closing

-- ---- an acquire that waits
pub invariant_of-self-2 : goal.invariant_of-self-2
invariant_of-self-2 g c =
    let rewoken = polled_waiting c.self.inside.waiters c.args.demand c.args.number c.get.result.now c.get_mut.result.now c.set_waker.new.self c.args.waker c.self.invariant.kept (rw (← c.self.view_is) at c.requires) c.get.ensures (sym c.if-is_grant_of.ensures) c.get_mut.ensures.value c.set_waker.ensures in
    record {
      kept = rewoken.kept;
      room = c.self.invariant.room;
      paid = c.self.invariant.paid ∙ sym rewoken.paid;
      total = c.self.invariant.total;
      fits = c.self.invariant.fits;
      idle = c.self.invariant.idle;
      closing = closing_rewoken c.self.inside.closed _ _ _ _ c.args.number c.args.waker rewoken.queue rewoken.cut c.self.invariant.closing;
    }

pub returns-clause-waits : goal.returns-clause-waits
returns-clause-waits g c = λ waiting.
    let rewoken = polled_waiting c.self.inside.waiters c.args.demand c.args.number c.get.result.now c.get_mut.result.now c.set_waker.new.self c.args.waker c.self.invariant.kept (rw (← c.self.view_is) at c.requires) c.get.ensures (sym c.if-is_grant_of.ensures) c.get_mut.ensures.value c.set_waker.ensures in (
      refl,
      rw (← c.self.view_is) (λ i. record {
        free = c.self.inside.free;
        live = c.self.inside.live;
        queue = rewoken.queue i;
        granted = rewoken.granted i;
        cut = rewoken.cut i;
        closed = c.self.inside.closed;
        wakes = c.self.inside.outbox.wakers;
      }),
    )

pub returns-clause-held : goal.returns-clause-held
returns-clause-held g c = λ waiting.
    let rewoken = polled_waiting c.self.inside.waiters c.args.demand c.args.number c.get.result.now c.get_mut.result.now c.set_waker.new.self c.args.waker c.self.invariant.kept (rw (← c.self.view_is) at c.requires) c.get.ensures (sym c.if-is_grant_of.ensures) c.get_mut.ensures.value c.set_waker.ensures in
    let before = paid-view c.self.inside.waiters c.self.invariant.kept in
    let after = paid-view (with_value c.self.inside.waiters c.args.number c.set_waker.new.self) rewoken.kept in
    rw (← c.self.view_is) (omega (arith, before, after, rewoken.paid))

pub returns-clause-granted : goal.returns-clause-granted
returns-clause-granted g c = λ is. absurd
    (not_granted c.self.inside.waiters c.args.demand c.args.number c.get.result.now c.get.ensures (sym c.if-is_grant_of.ensures) (rw (← c.self.view_is) at is))

pub returns-clause-holds : goal.returns-clause-holds
returns-clause-holds g c = λ is. absurd
    (not_granted c.self.inside.waiters c.args.demand c.args.number c.get.result.now c.get.ensures (sym c.if-is_grant_of.ensures) (rw (← c.self.view_is) at is))

pub returns-clause-steady : goal.returns-clause-steady
returns-clause-steady g c = elim c.requires [
  | inl is ↦ absurd (not_granted c.self.inside.waiters c.args.demand c.args.number c.get.result.now c.get.ensures (sym c.if-is_grant_of.ensures)
      (rw (← c.self.view_is) at is))
  | inr waits ↦ steady_rewakes _ _ c.args.number c.args.waker (returns-clause-waits g c waits).1
]

pub returns-clause-sound : goal.returns-clause-sound
returns-clause-sound g c =
    let kept = invariant_of-self-2 g c in
    sound _ _ _ _ _ _ kept.kept kept.paid kept.total kept.idle kept.fits kept.closing
