use Rattle.std.proofs.Common.{◌≡◌, All, true, subst, sym, arith}
use Rattle.mea_recorded.specs.Closing.{Stands, rise_from, Explains}
use Rattle.mea_recorded.proofs.Fronts.{all_more, all_whole}
use Rattle.mea_recorded.proofs.closing.compare_all.Goals as goal

pub loop-pass-preserved : goal.loop-pass-preserved
loop-pass-preserved g c =
    let noted = c.noted.ensures in (
      all_more (λ p. All (Stands c.args.recorded.now) p.noted.items) c.args.passes.now c.loop-pass.pass-index c.pass-item.result c.loop-pass.invariant.0 c.loop-pass-test.true c.pass-item.is
          (subst (All (Stands c.args.recorded.now)) noted c.in-Ok.ensures.stand),
      all_more (λ p. rise_from 0 p.noted.items ≡ true) c.args.passes.now c.loop-pass.pass-index c.pass-item.result c.loop-pass.invariant.1 c.loop-pass-test.true c.pass-item.is
          (subst (λ ns. rise_from 0 ns ≡ true) noted c.in-Ok.ensures.rise),
    )

pub returns-in-Err-clause-explained : goal.returns-in-Err-clause-explained
returns-in-Err-clause-explained g c =
    (c.loop-pass.pass-index, c.pass-item.result, c.loop-pass-test.true, sym c.pass-item.is, subst (Explains c.args.recorded.now c.in-Err.mismatch) c.noted.ensures c.in-Err.ensures.explained)

pub returns-clause-stand : goal.returns-clause-stand
returns-clause-stand g c = all_whole (λ p. All (Stands c.args.recorded.now) p.noted.items) c.args.passes.now c.loop-pass.pass-index c.loop-pass.invariant.0 (omega (arith, c.loop-pass-test.false))

pub returns-clause-rise : goal.returns-clause-rise
returns-clause-rise g c = all_whole (λ p. rise_from 0 p.noted.items ≡ true) c.args.passes.now c.loop-pass.pass-index c.loop-pass.invariant.1 (omega (arith, c.loop-pass-test.false))
