use Rattle.std.proofs.Common.{◌≡◌, ◌+◌, ◌-◌, ◌≤◌, [], refl, sym, ap, ◌∙◌, ◌++◌, ◌∷◌, arith, length, None, rules}
use Rattle.mea_base.specs.WaitList.{get}
use Rattle.mea_sem_core.specs.Core.{Acquires}
use Rattle.mea_sem_core.specs.Places.{queue_of, granted_of, cut_of, paid_in, IsQueue}
use Rattle.mea_sem_core.proofs.Closings.{closing_same}
use Rattle.mea_sem_core.proofs.Enqueues.{enqueues, absent_from_none, waiting_absent, not_granted, not_cut, IsQueue-spare}
use Rattle.mea_sem_core.proofs.Held.{paid-view}
use Rattle.mea_sem_core.proofs.Steadies.{steady_queues}
use Rattle.mea_sem_core.proofs.Sound.{sound}
use Rattle.mea_sem_core.proofs.sem_core.SemCore.start.Goals as goal

pub returns-then-demand-self-clause-holds : goal.returns-then-demand-self-clause-holds
returns-then-demand-self-clause-holds g c = λ fits.
    let seen = paid-view c.self.inside.waiters c.self.invariant.kept in
    let enough = rw (← c.self.view_is) at fits in
    rw (← c.self.view_is) (omega (arith, seen, enough, c.self.invariant.paid, c.self.invariant.total))

-- ---- it has to wait
pub invariant_of-self-2 : goal.invariant_of-self-2
invariant_of-self-2 g c =
    let kept : IsQueue c.reserve_place.new.waiters = rw c.reserve_place.ensures.waiters
    (IsQueue-spare _ c.reserve_place.new.waiters.spare c.self.invariant.kept) in
    let added = enqueues c.reserve_place.new.waiters c.push_tail.new.self c.in-Ok.number c.args.demand (c.args.demand - c.self.inside.free)
    c.args.waker c.in-Ok.ensures.fresh c.in-Ok.ensures.updates c.in-Ok.ensures.order (omega arith) (omega arith) c.in-Ok.ensures.sound.few kept in
    let room : length c.self.inside.waiters.order + 1 ≤ c.reserve_place.new.outbox.spare = search rules in
    record {
      kept = added.kept;
      room = omega (arith, added.longer, ap (λ w. length w.order) c.reserve_place.ensures.waiters, room);
      paid = omega (arith, added.paid, ap (λ w. paid_in w) c.reserve_place.ensures.waiters);
      total = omega arith;
      fits = c.self.invariant.fits;
      idle = λ none. absurd (omega arith);
      closing =
          let opened = rw (← c.self.view_is) at c.requires in
          let closing = c.self.invariant.closing in
          let uncut = rw opened at closing in
          rw opened (added.cut ∙ ap cut_of c.reserve_place.ensures.waiters ∙ uncut);
    }

pub returns-clause-waits : goal.returns-clause-waits
returns-clause-waits g c = λ short.
    let kept : IsQueue c.reserve_place.new.waiters = rw c.reserve_place.ensures.waiters
    (IsQueue-spare _ c.reserve_place.new.waiters.spare c.self.invariant.kept) in
    let added = enqueues c.reserve_place.new.waiters c.push_tail.new.self c.in-Ok.number c.args.demand (c.args.demand - c.self.inside.free)
    c.args.waker c.in-Ok.ensures.fresh c.in-Ok.ensures.updates c.in-Ok.ensures.order (omega arith) (omega arith) c.in-Ok.ensures.sound.few kept in
    let queue = added.queue ∙ ap (λ w. queue_of w ++ (Acquires c.in-Ok.number c.args.demand c.args.waker, c.args.demand - c.self.inside.free) ∷ [])
    c.reserve_place.ensures.waiters in
    let granted = added.granted ∙ ap granted_of c.reserve_place.ensures.waiters in
    let cut = added.cut ∙ ap cut_of c.reserve_place.ensures.waiters in
    let fresh : get c.self.inside.waiters c.in-Ok.number ≡ None =
    sym (ap (λ w. get w c.in-Ok.number) c.reserve_place.ensures.waiters) ∙ c.in-Ok.ensures.fresh in
    let wakes = ap (λ o. o.wakers) c.reserve_place.ensures.outbox in (
      c.in-Ok.number,
      refl,
      rw (← c.self.view_is) record {
        is = λ i. record { free = 0; live = c.self.inside.live; queue = queue i; granted = granted i; cut = cut i; closed = c.self.inside.closed; wakes = wakes i };
        not_waiting = waiting_absent c.self.inside.waiters.slots c.in-Ok.number c.self.inside.waiters.order
            (absent_from_none _ _ _ fresh c.self.invariant.kept.waiting);
        not_granted = not_granted c.self.inside.waiters.slots _ fresh;
        not_cut = not_cut c.self.inside.waiters.slots _ fresh;
      },
    )

pub returns-clause-steady : goal.returns-clause-steady
returns-clause-steady g c =
    let waits = returns-clause-waits g c (rw (← c.self.view_is) (omega arith)) in
    steady_queues _ _ c.args.demand c.args.waker waits.0 waits.2

pub returns-clause-held : goal.returns-clause-held
returns-clause-held g c = λ short.
    let kept : IsQueue c.reserve_place.new.waiters = rw c.reserve_place.ensures.waiters
    (IsQueue-spare _ c.reserve_place.new.waiters.spare c.self.invariant.kept) in
    let added = enqueues c.reserve_place.new.waiters c.push_tail.new.self c.in-Ok.number c.args.demand (c.args.demand - c.self.inside.free)
    c.args.waker c.in-Ok.ensures.fresh c.in-Ok.ensures.updates c.in-Ok.ensures.order (omega arith) (omega arith) c.in-Ok.ensures.sound.few kept in
    let before = paid-view c.self.inside.waiters c.self.invariant.kept in
    let after = paid-view c.push_tail.new.self added.kept in
    let same = ap (λ w. paid_in w) c.reserve_place.ensures.waiters in
    rw (← c.self.view_is) (omega (arith, before, after, added.paid, same, c.self.invariant.paid, c.self.invariant.total))

pub returns-then-demand-self-clause-sound : goal.returns-then-demand-self-clause-sound
returns-then-demand-self-clause-sound g c =
    sound _ _ _ _ _ _ c.self.invariant.kept c.self.invariant.paid (omega (arith, c.self.invariant.total)) (λ some. c.self.invariant.idle (omega arith))
    (omega (arith, c.self.invariant.fits)) c.self.invariant.closing

pub returns-then-is_err-clause-sound : goal.returns-then-is_err-clause-sound
returns-then-is_err-clause-sound g c =
    let kept : IsQueue c.reserve_place.new.waiters = rw c.reserve_place.ensures.waiters
    (IsQueue-spare _ c.reserve_place.new.waiters.spare c.self.invariant.kept) in
    let paid = ap (λ w. paid_in w) c.reserve_place.ensures.waiters in
    sound _ _ _ _ _ _ kept (c.self.invariant.paid ∙ sym paid) c.self.invariant.total
    (λ some. ap (λ w. w.order) c.reserve_place.ensures.waiters ∙ c.self.invariant.idle some) c.self.invariant.fits
    (closing_same c.self.inside.closed _ _ _ _ (ap queue_of c.reserve_place.ensures.waiters) (ap cut_of c.reserve_place.ensures.waiters) c.self.invariant.closing)

pub returns-clause-sound : goal.returns-clause-sound
returns-clause-sound g c =
    let kept = invariant_of-self-2 g c in
    sound _ _ _ _ _ _ kept.kept kept.paid kept.total kept.idle kept.fits kept.closing
