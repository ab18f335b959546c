use Rattle.std.proofs.Common.{◌≡◌, ◌+◌, ◌-◌, ◌≤◌, min, sym, ap, ◌∙◌, ◌∷◌, arith, rules, length}
use Rattle.mea_sem_core.specs.Core.{Owes}
use Rattle.mea_sem_core.specs.Calls.{with_debt}
use Rattle.mea_sem_core.specs.Places.{queue_of, granted_of, cut_of, paid_in, IsQueue}
use Rattle.mea_sem_core.proofs.Closings.{closing_same, closing_owing}
use Rattle.mea_sem_core.proofs.Debts.{with_debt_some}
use Rattle.mea_sem_core.proofs.Enqueues.{owing, IsQueue-spare}
use Rattle.mea_sem_core.proofs.Held.{paid-view}
use Rattle.mea_sem_core.proofs.Sound.{sound}
use Rattle.mea_sem_core.proofs.sem_core.SemCore.forget_exact.Goals as goal

pub invariant_of-self-2 : goal.invariant_of-self-2
invariant_of-self-2 g c =
    let kept : IsQueue c.reserve_place.new.waiters = rw c.reserve_place.ensures.waiters
    (IsQueue-spare _ c.reserve_place.new.waiters.spare c.self.invariant.kept) in
    let owed = owing c.reserve_place.new.waiters c.push_head.new.self c.in-Ok.field-0 (c.args.n - c.self.inside.free)
    c.in-Ok.ensures.fresh c.in-Ok.ensures.updates c.in-Ok.ensures.order (omega arith) c.in-Ok.ensures.sound.few kept in
    let room : length c.self.inside.waiters.order + 1 ≤ c.reserve_place.new.outbox.spare = search rules in
    record {
      kept = owed.kept;
      room = omega (arith, owed.longer, ap (λ w. length w.order) c.reserve_place.ensures.waiters, room);
      paid = omega (arith, owed.paid, ap (λ w. paid_in w) c.reserve_place.ensures.waiters, c.self.invariant.paid);
      total = omega (arith, c.self.invariant.total);
      fits = omega (arith, c.self.invariant.fits);
      idle = λ none. absurd (omega arith);
      closing = closing_owing c.self.inside.closed _ _ _ _ (c.args.n - c.self.inside.free) (owed.queue ∙ ap (λ w. (Owes, c.args.n - c.self.inside.free) ∷ queue_of w) c.reserve_place.ensures.waiters)
          (owed.cut ∙ ap cut_of c.reserve_place.ensures.waiters) c.self.invariant.closing;
    }

pub returns-clause-ok : goal.returns-clause-ok
returns-clause-ok g c =
    let kept : IsQueue c.reserve_place.new.waiters = rw c.reserve_place.ensures.waiters
    (IsQueue-spare _ c.reserve_place.new.waiters.spare c.self.invariant.kept) in
    let owed = owing c.reserve_place.new.waiters c.push_head.new.self c.in-Ok.field-0 (c.args.n - c.self.inside.free)
    c.in-Ok.ensures.fresh c.in-Ok.ensures.updates c.in-Ok.ensures.order (omega arith) c.in-Ok.ensures.sound.few kept in
    let lack : c.args.n - c.self.inside.free ≡ c.args.n - min c.args.n c.self.inside.free = omega arith in
    let free : 0 ≡ c.self.inside.free - min c.args.n c.self.inside.free = omega arith in
    let live : c.self.inside.live - c.self.inside.free ≡ c.self.inside.live - min c.args.n c.self.inside.free = omega arith in
    let queue = owed.queue ∙ ap (λ w. (Owes, c.args.n - c.self.inside.free) ∷ queue_of w) c.reserve_place.ensures.waiters
    ∙ sym (with_debt_some (queue_of c.self.inside.waiters) (c.args.n - c.self.inside.free) (omega arith))
    ∙ ap (with_debt (queue_of c.self.inside.waiters)) lack in
    let granted = owed.granted ∙ ap granted_of c.reserve_place.ensures.waiters in
    let cut = owed.cut ∙ ap cut_of c.reserve_place.ensures.waiters in
    let wakes = ap (λ o. o.wakers) c.reserve_place.ensures.outbox in
    rw (← c.self.view_is) (λ i. record { free = free i; live = live i; queue = queue i; granted = granted i; cut = cut i; closed = c.self.inside.closed; wakes = wakes i })

pub returns-clause-held : goal.returns-clause-held
returns-clause-held g c =
    let kept : IsQueue c.reserve_place.new.waiters = rw c.reserve_place.ensures.waiters
    (IsQueue-spare _ c.reserve_place.new.waiters.spare c.self.invariant.kept) in
    let owed = owing c.reserve_place.new.waiters c.push_head.new.self c.in-Ok.field-0 (c.args.n - c.self.inside.free)
    c.in-Ok.ensures.fresh c.in-Ok.ensures.updates c.in-Ok.ensures.order (omega arith) c.in-Ok.ensures.sound.few kept in
    let before = paid-view c.self.inside.waiters c.self.invariant.kept in
    let after = paid-view c.push_head.new.self owed.kept in
    let same = ap (λ w. paid_in w) c.reserve_place.ensures.waiters in
    rw (← c.self.view_is) (omega (arith, before, after, owed.paid, same, c.self.invariant.paid, c.self.invariant.total))

pub returns-in_err-reserve_place-clause-sound : goal.returns-in_err-reserve_place-clause-sound
returns-in_err-reserve_place-clause-sound g c =
    let kept : IsQueue c.reserve_place.new.waiters = rw c.reserve_place.ensures.waiters
    (IsQueue-spare _ c.reserve_place.new.waiters.spare c.self.invariant.kept) in
    let paid = ap (λ w. paid_in w) c.reserve_place.ensures.waiters in
    sound _ _ _ _ _ _ kept (c.self.invariant.paid ∙ sym paid) c.self.invariant.total
    (λ some. ap (λ w. w.order) c.reserve_place.ensures.waiters ∙ c.self.invariant.idle some) c.self.invariant.fits
    (closing_same c.self.inside.closed _ _ _ _ (ap queue_of c.reserve_place.ensures.waiters) (ap cut_of c.reserve_place.ensures.waiters) c.self.invariant.closing)

pub returns-clause-sound : goal.returns-clause-sound
returns-clause-sound g c =
    let kept = invariant_of-self-2 g c in
    sound _ _ _ _ _ _ kept.kept kept.paid kept.total kept.idle kept.fits kept.closing
