use Rattle.std.proofs.Common.{◌≡◌, ℕ, ap, sym, subst, arith, ◌∙◌}
use Rattle.std.specs.Ordering.{nat_cmp}
use Rattle.std.specs.FinMap as map
use Rattle.std.specs.FinMap.{len-empty}
use Rattle.mea_sem_core.specs.Core.{Core}
use Rattle.mea_sem_core.specs.Ones.{AskForOne}
use Rattle.mea_pool_core.proofs.places.Places.new.Goals as goal

pub invariant_of-result : goal.invariant_of-result
invariant_of-result g c =
    let free : c.new.result.free ≡ c.args.size = ap (λ (s : Core g.row.W.Denot). s.free) c.new.ensures.is in
    let live : c.new.result.live ≡ c.args.size = ap (λ (s : Core g.row.W.Denot). s.live) c.new.ensures.is in
    let none : map.len c.new.result.granted ≡ 0 = ap (λ (s : Core g.row.W.Denot). map.len s.granted) c.new.ensures.is ∙ len-empty nat_cmp ℕ in
    record {
      sound = c.new.ensures.sound;
      ones = subst (λ (s : Core g.row.W.Denot). AskForOne s.queue) (sym c.new.ensures.is) tt;
      counted = omega (arith, free, live, none, c.new.ensures.held);
    }
