use Rattle.std.proofs.Common.{arith, rules}
use Rattle.mea_sem_core.proofs.Held.{paid-view}
use Rattle.mea_sem_core.proofs.Steadies.{steady_given}
use Rattle.mea_sem_core.proofs.sem_core.SemCore.give_back.Goals as goal

pub invariant_of-self : goal.invariant_of-self
invariant_of-self g c =
    let seen = paid-view c.self.inside.waiters c.self.invariant.kept in
    let held = rw (← c.self.view_is) at c.requires in
    record {
      kept = c.self.invariant.kept;
      room = c.self.invariant.room;
      paid = c.self.invariant.paid;
      total = omega (arith, seen, held, c.self.invariant.paid, c.self.invariant.total);
      fits = omega (arith, c.self.invariant.fits);
      idle = c.self.invariant.idle;
      closing = c.self.invariant.closing;
    }

pub returns-clause-steady : goal.returns-clause-steady
returns-clause-steady g c = steady_given c.args.self.now c.pour.new.self c.args.n c.requires (search rules)

pub returns-clause-held : goal.returns-clause-held
returns-clause-held g c =
    let seen = paid-view c.self.inside.waiters c.self.invariant.kept in
    let enough = rw (← c.self.view_is) at c.requires in
    rw (← c.self.view_is) (omega (arith, seen, enough, c.pour.ensures.held, c.self.invariant.paid, c.self.invariant.total))
