use Rattle.std.proofs.Common.{length, ap, arith, ◌∙◌}
use Rattle.mea_pool_core.specs.Shelf.{lent_count}
use Rattle.mea_pool_core.proofs.Shelves.{length_below, length_none, count_none, once_fresh}
use Rattle.mea_pool_core.proofs.shelf.Shelf.new.Goals as goal

pub invariant_of-result : goal.invariant_of-result
invariant_of-result g c =
    let slots = ap length c.in-Ok.ensures.slots in
    let lent = ap length c.in-Ok.ensures.lent in
    record {
      paired = omega (arith, slots, length_below c.len.result, ap length c.from_vec.ensures.items, c.len.ensures, c.args.resources.ok);
      once = rw (c.in-Ok.ensures.slots, c.in-Ok.ensures.lent) (once_fresh c.len.result);
      counted = omega (arith, slots, length_below c.len.result, lent, length_none c.len.result, ap lent_count c.in-Ok.ensures.lent, count_none c.len.result);
      slots_room = omega (arith, lent, length_none c.len.result, c.in-Ok.ensures.room);
      resources_room = omega (arith, lent, length_none c.len.result, c.len.ensures, c.from_vec.ensures.capacity, c.args.resources.ok, c.args.resources.small);
    }

pub returns-clause-count : goal.returns-clause-count
returns-clause-count g c = ap lent_count c.in-Ok.ensures.lent ∙ count_none c.len.result

pub returns-clause-size : goal.returns-clause-size
returns-clause-size g c = omega (arith, ap length c.in-Ok.ensures.lent, length_none c.len.result, c.len.ensures, c.args.resources.ok)
