use Rattle.std.proofs.Common.{◌≡◌, ◌+◌, ◌-◌, [], ap, sym, subst, ◌∙◌, arith, inl, inr}
use Rattle.std.proofs.lemmas.Bool.{cases_lt}
use Rattle.mea_base.specs.Queue.{lacks, waiting_after}
use Rattle.mea_sem_core.specs.Core.{paid_to_debts, HasNoDebt}
use Rattle.mea_sem_core.specs.Places.{entries, queue_of}
use Rattle.mea_sem_core.proofs.Closings.{closing_poured}
use Rattle.mea_sem_core.proofs.Debts.{no_debt_waiting_after}
use Rattle.mea_sem_core.proofs.Places.{no_order, length-entries}
use Rattle.mea_sem_core.proofs.Held.{paid-view}
use Rattle.mea_sem_core.proofs.Sound.{sound}
use Rattle.mea_sem_core.proofs.sem_core.SemCore.pour_counted.Goals as goal

pub invariant_of-self : goal.invariant_of-self
invariant_of-self g c =
    let pours = c.pour_counted-left.ensures.pours in
    let enough = rw (← c.self.view_is) at c.requires in
    record {
      kept = pours.kept;
      room = pours.room;
      paid = omega (arith, pours.paid, c.self.invariant.paid);
      total = omega (arith, c.self.invariant.total);
      fits = omega (arith, enough);
      idle = λ some. elim (cases_lt 0 c.self.inside.free) [
        | inl free ↦
            let none : queue_of c.self.inside.waiters ≡ [] = ap (entries c.self.inside.waiters.slots) (c.self.invariant.idle free) in
            no_order _ _ (pours.queue ∙ ap (λ es. waiting_after es c.args.n) none)
        | inr empty ↦ c.pour_counted-left.ensures.idle (omega arith)
      ];
      closing = closing_poured c.self.inside.closed _ _ _ _ c.args.n pours.queue pours.cut c.self.invariant.closing;
    }

pub returns-clause-poured : goal.returns-clause-poured
returns-clause-poured g c =
    let pours = c.pour_counted-left.ensures.pours in
    let live : c.self.inside.live + (c.args.n - c.pour_counted-left.result.to_debts) ≡ c.self.inside.live + c.args.n - paid_to_debts
    (queue_of c.self.inside.waiters) c.args.n = omega arith in
    let free : c.self.inside.free + c.pour_counted-left.result.left ≡ c.self.inside.free + (c.args.n - lacks (queue_of c.self.inside.waiters)) = omega arith in
    rw (← c.self.view_is) (λ i. record { free = free i; live = live i; queue = pours.queue i; granted = pours.granted i; cut = pours.cut i; closed = c.self.inside.closed; wakes = pours.wakers i })

pub returns-clause-held : goal.returns-clause-held
returns-clause-held g c =
    let pours = c.pour_counted-left.ensures.pours in
    let before = paid-view c.self.inside.waiters c.self.invariant.kept in
    let after = paid-view c.pour_counted-left.new.waiters pours.kept in
    rw (← c.self.view_is) (omega (arith, before, after, pours.paid, c.self.invariant.paid, c.self.invariant.total, c.pour_counted-left.ensures.left, c.pour_counted-left.ensures.to_debts, c.pour_counted-left.ensures.within))

pub returns-clause-no_debt : goal.returns-clause-no_debt
returns-clause-no_debt g c =
    rw (← c.self.view_is) (λ none. subst HasNoDebt (sym c.pour_counted-left.ensures.pours.queue) (no_debt_waiting_after (queue_of c.self.inside.waiters) c.args.n none))

pub returns-clause-sound : goal.returns-clause-sound
returns-clause-sound g c =
    let kept = invariant_of-self g c in
    sound _ _ _ _ _ _ kept.kept kept.paid kept.total kept.idle kept.fits kept.closing

pub returns-clause-few : goal.returns-clause-few
returns-clause-few g c =
    let before = length-entries c.self.inside.waiters.slots c.self.inside.waiters.order in
    let after = length-entries c.pour_counted-left.new.waiters.slots c.pour_counted-left.new.waiters.order in
    rw (← c.self.view_is) (omega (arith, before, after, c.pour_counted-left.ensures.few))
