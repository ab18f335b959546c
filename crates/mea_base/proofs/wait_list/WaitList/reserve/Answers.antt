use Rattle.std.proofs.Common.{IsSome, ◌-◌, arith, rules}
use Rattle.mea_base.specs.WaitListLinks.{node_at}
use Rattle.mea_base.proofs.WaitLinks.{any_key, after_reserve, same_view}
use Rattle.mea_base.proofs.wait_list.WaitList.reserve.Goals as goal

pub invariant_of-self-2 : goal.invariant_of-self-2
invariant_of-self-2 g c =
    let made : IsSome (node_at c.reserve_nodes.new.nodes.slots 0) = search rules in
    record {
      ring = (after_reserve c.self.inside.nodes.slots c.reserve_nodes.new.nodes.slots c.self.inside.len c.self.invariant.ring c.reserve_nodes.ensures.same made).ring;
      first_key = any_key c.reserve_nodes.new.nodes.slots c.reserve_nodes.new.nodes.vacant_key made;
      sentinel = λ some. made;
      room = omega (arith, c.len.ensures, c.capacity.ensures.value, c.capacity.ensures.holds_all);
      fits = omega (arith, c.len.ensures, c.capacity.ensures.holds_all, c.capacity.type_inv);
    }

pub returns-clause-rest_kept : goal.returns-clause-rest_kept
returns-clause-rest_kept g c =
    let made : IsSome (node_at c.reserve_nodes.new.nodes.slots 0) = search rules in
    let order = (after_reserve c.self.inside.nodes.slots c.reserve_nodes.new.nodes.slots c.self.inside.len c.self.invariant.ring c.reserve_nodes.ensures.same made).order in
    let slots = same_view c.self.inside.nodes.slots c.reserve_nodes.new.nodes.slots c.reserve_nodes.ensures.same.values in
    rw (← c.self.view_is) (λ i. record { order = order i; slots = slots i; spare = c.capacity.result - c.len.result })
