use Rattle.std.proofs.Common.{refl, arith}
use Rattle.mea_sem_core.specs.Places.{after_payment}
use Rattle.mea_sem_core.proofs.PourSteps.{Continues-turn, Pours-turn}
use Rattle.mea_sem_core.proofs.pouring.pour_counted.Goals as goal

pub returns-then-rest-lack-clause-pours : goal.returns-then-rest-lack-clause-pours
returns-then-rest-lack-clause-pours g c =
    let pays = c.pay_part-lack.ensures.pays in
    let short = rw pays.lack_is at c.if-rest-lack.true in
    rw (pays.part c.if-rest-lack.true)
    (Pours-turn _ _ _ _ _ _ _ _ _ pays.place (after_payment pays.place c.loop-number.rest) c.loop-number.invariant.pours c.in-Some.ensures.some pays.found refl short).0

pub returns-then-rest-lack-clause-to_debts : goal.returns-then-rest-lack-clause-to_debts
returns-then-rest-lack-clause-to_debts g c =
    let pays = c.pay_part-lack.ensures.pays in
    let short = rw pays.lack_is at c.if-rest-lack.true in
    let turn = Pours-turn _ _ _ _ _ _ _ _ _ pays.place (after_payment pays.place c.loop-number.rest) c.loop-number.invariant.pours c.in-Some.ensures.some pays.found refl short in
    rw (c.min-to_debts.ensures, pays.debt_is) turn.2

pub loop-number-preserved : goal.loop-number-preserved
loop-number-preserved g c =
    let pays = c.pay_part-lack.ensures.pays in
    let same = pays.whole c.if-rest-lack.false in
    let grants = rw same at c.grant_first.ensures.grants in
    record {
      pours = rw (c.min-to_debts.ensures, pays.debt_is, pays.lack_is)
          (Continues-turn _ _ _ _ _ _ _ _ _ _ _ pays.place c.loop-number.invariant.pours c.in-Some.ensures.some pays.found (rw pays.lack_is at c.if-rest-lack.false) grants);
      few = omega (arith, grants.1.shorter, c.loop-number.invariant.few, c.first_counted.ensures.ticks, c.pay_part-lack.ensures.ticks, c.grant_first.ensures.ticks);
    }
