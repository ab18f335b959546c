use Rattle.std.proofs.Common.{◌≡◌, ◌+◌, ◌-◌, ap, sym, ◌∙◌, ◌++◌, arith}
use Rattle.mea_base.specs.Queue.{lacks}
use Rattle.mea_sem_core.specs.Core.{paid_to_debts, granting, wakers_of}
use Rattle.mea_sem_core.specs.Places.{queue_of, granted_of}
use Rattle.mea_sem_core.proofs.Closings.{closing_poured}
use Rattle.mea_sem_core.proofs.Debts.{paid_to_none}
use Rattle.mea_sem_core.proofs.Held.{paid-view}
use Rattle.mea_sem_core.proofs.Places.{no_order}
use Rattle.mea_sem_core.proofs.Pours.{waiting_enough, granted_enough}
use Rattle.mea_sem_core.proofs.Sound.{sound}
use Rattle.mea_sem_core.proofs.sem_core.SemCore.wake_queue.Goals as goal

pub invariant_of-self : goal.invariant_of-self
invariant_of-self g c =
    let q = queue_of c.self.inside.waiters in
    let pours = c.pour-left.ensures.pours in
    let few = rw (← c.self.view_is) at c.requires.few in
    let none = paid_to_none q 18446744073709551615 (rw (← c.self.view_is) at c.requires.no_debt) in
    record {
      kept = pours.kept;
      room = pours.room;
      paid = omega (arith, pours.paid, c.self.invariant.paid, none, few);
      total = omega (arith, pours.paid, c.self.invariant.paid, none, few, c.self.invariant.total);
      fits = omega (arith, few);
      idle = λ some. no_order _ _ (pours.queue ∙ waiting_enough q 18446744073709551615 (omega (arith, few)));
      closing = closing_poured c.self.inside.closed _ _ _ _ 18446744073709551615 pours.queue pours.cut c.self.invariant.closing;
    }

pub returns-clause-is : goal.returns-clause-is
returns-clause-is g c =
    let q = queue_of c.self.inside.waiters in
    let pours = c.pour-left.ensures.pours in
    let few = rw (← c.self.view_is) at c.requires.few in
    let debts = rw (← c.self.view_is) at c.requires.no_debt in
    let none = paid_to_none q (lacks q) debts in
    let live : c.self.inside.live + (18446744073709551615 - c.pour-left.result.left) ≡ c.self.inside.live + lacks q - paid_to_debts q (lacks q) =
    omega (arith, none, few) in
    let free : c.self.inside.free ≡ c.self.inside.free + (lacks q - lacks q) = omega arith in
    let queue = pours.queue ∙ waiting_enough q 18446744073709551615 (omega (arith, few)) ∙ sym (waiting_enough q (lacks q) (omega arith)) in
    let paid = granted_enough q 18446744073709551615 (omega (arith, few)) ∙ sym (granted_enough q (lacks q) (omega arith)) in
    let granted = pours.granted ∙ ap (granting (granted_of c.self.inside.waiters)) paid in
    let wakes = pours.wakers ∙ ap (λ es. c.self.inside.outbox.wakers ++ wakers_of es) paid in
    rw (← c.self.view_is) (λ i. record { free = free i; live = live i; queue = queue i; granted = granted i; cut = pours.cut i; closed = c.self.inside.closed; wakes = wakes i })

pub returns-clause-empty : goal.returns-clause-empty
returns-clause-empty g c =
    let few = rw (← c.self.view_is) at c.requires.few in
    c.pour-left.ensures.pours.queue ∙ waiting_enough (queue_of c.self.inside.waiters) 18446744073709551615 (omega (arith, few))

pub returns-clause-held : goal.returns-clause-held
returns-clause-held g c =
    let q = queue_of c.self.inside.waiters in
    let pours = c.pour-left.ensures.pours in
    let few = rw (← c.self.view_is) at c.requires.few in
    let none = paid_to_none q 18446744073709551615 (rw (← c.self.view_is) at c.requires.no_debt) in
    let before = paid-view c.self.inside.waiters c.self.invariant.kept in
    let after = paid-view c.pour-left.new.waiters pours.kept in
    rw (← c.self.view_is) (omega (arith, before, after, pours.paid, none, few, c.self.invariant.paid, c.self.invariant.total))

pub returns-clause-sound : goal.returns-clause-sound
returns-clause-sound g c =
    let kept = invariant_of-self g c in
    sound _ _ _ _ _ _ kept.kept kept.paid kept.total kept.idle kept.fits kept.closing
