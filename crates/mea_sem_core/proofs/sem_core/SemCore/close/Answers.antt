use Rattle.std.proofs.Common.{◌≡◌, [], ap, sym, subst, ◌∙◌, arith}
use Rattle.mea_sem_core.specs.Core.{only_debts, HasOnlyDebts}
use Rattle.mea_sem_core.specs.Places.{entries, queue_of}
use Rattle.mea_sem_core.proofs.Closings.{only_debts_left}
use Rattle.mea_sem_core.proofs.Held.{paid-view}
use Rattle.mea_sem_core.proofs.Places.{no_order}
use Rattle.mea_sem_core.proofs.Sound.{sound}
use Rattle.mea_sem_core.proofs.sem_core.SemCore.close.Goals as goal

pub returns-then-self-clause-sound : goal.returns-then-self-clause-sound
returns-then-self-clause-sound g c =
    rw (← c.self.view_is) (sound c.self.inside.waiters c.self.inside.free c.self.inside.live c.self.inside.paid c.self.inside.closed c.self.inside.outbox.wakers c.self.invariant.kept c.self.invariant.paid c.self.invariant.total c.self.invariant.idle c.self.invariant.fits c.self.invariant.closing)

pub invariant_of-self : goal.invariant_of-self
invariant_of-self g c =
    let cuts = c.cut_queue-paid_back.ensures in
    record {
      kept = cuts.kept;
      room = cuts.room;
      paid = omega (arith, cuts.paid_left, c.self.invariant.paid);
      total = omega (arith, cuts.paid_left, c.self.invariant.paid, c.self.invariant.total);
      fits = omega (arith, c.self.invariant.fits);
      idle = λ some.
          let none : queue_of c.self.inside.waiters ≡ [] = ap (entries c.self.inside.waiters.slots) (c.self.invariant.idle some) in
          no_order _ _ (cuts.queue ∙ ap only_debts none);
      closing = subst HasOnlyDebts (sym cuts.queue) (only_debts_left (queue_of c.self.inside.waiters));
    }

pub returns-clause-held : goal.returns-clause-held
returns-clause-held g c =
    let cuts = c.cut_queue-paid_back.ensures in
    let before = paid-view c.self.inside.waiters c.self.invariant.kept in
    let after = paid-view c.cut_queue-paid_back.new.waiters cuts.kept in
    rw (← c.self.view_is) (omega (arith, before, after, c.pour.ensures.held, cuts.paid_left, c.self.invariant.paid, c.self.invariant.total))
