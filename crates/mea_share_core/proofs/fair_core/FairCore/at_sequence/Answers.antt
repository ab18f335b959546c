use Rattle.std.proofs.Common.{inr, refl, sym, ap, subst, arith}
use Rattle.mea_share_core.specs.Groups.{held_in, waiting_in, AreNumbered}
use Rattle.mea_share_core.proofs.Numbered.{n_new}
use Rattle.mea_share_core.proofs.fair_core.FairCore.at_sequence.Goals as goal

pub invariant_of-result : goal.invariant_of-result
invariant_of-result g c =
    let none = ap held_in c.new.ensures in record {
      fits = omega (arith, none, c.ranges.permits.fits);
      waiting = sym (ap waiting_in c.new.ensures);
      room = omega arith;
      settled = inr refl;
      numbered = subst (λ es. AreNumbered g.K.PartialEq.eq c.args.sequence es) (sym c.new.ensures) (λ k. n_new c.args.sequence);
    }
