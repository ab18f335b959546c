use Rattle.std.proofs.Common.{ℕ, arith, ap, sym, ◌∙◌}
use Rattle.mea_base.specs.Ready.{Waking}
use Rattle.mea_hall.specs.World.{registered}
use Rattle.mea_hall.proofs.EachFamily.{none_registered}
use Rattle.mea_hall.proofs.hall.Hall.new.Goals as goal

pub invariant_of-result : goal.invariant_of-result
invariant_of-result c =
    let none = ap (λ (r : Waking ℕ). r.registered) c.new-2.ensures in
    record {
      fits = omega arith;
      below = c.new.ensures.below;
      counted = none ∙ sym (ap registered c.new.ensures.empty ∙ none_registered);
      few = omega (arith, none);
    }
