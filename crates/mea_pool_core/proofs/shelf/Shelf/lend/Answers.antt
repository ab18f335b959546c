use Rattle.std.proofs.Common.{ℕ, ◌+◌, ◌<◌, List, length, set, true, ap, sym, subst, arith, ◌∙◌, length-set}
use Rattle.std.specs.Prelude.{zip}
use Rattle.mea_pool_core.specs.Shelf.{Shelf, StandOnce, is_lent, lent_count}
use Rattle.mea_pool_core.proofs.Shelves.{first_free, once_lent, count_lent}
use Rattle.mea_pool_core.proofs.shelf.Shelf.lend.Goals as goal

pub index_mut-requires : goal.index_mut-requires
index_mut-requires g c =
    let once = subst (λ (xs : List ℕ). StandOnce xs c.self.inside.lent.items) c.in-Some.ensures.items c.self.invariant.once in
    let free = first_free c.in-Some.slot c.pop_front.new.self.items c.self.inside.lent.items once in
    omega (arith, free.0, c.self.inside.lent.ok)

pub invariant_of-self : goal.invariant_of-self
invariant_of-self g c =
    let once = subst (λ (xs : List ℕ). StandOnce xs c.self.inside.lent.items) c.in-Some.ensures.items c.self.invariant.once in
    let free = first_free c.in-Some.slot c.pop_front.new.self.items c.self.inside.lent.items once in
    let fewer = ap length c.in-Some.ensures.items in
    let also = ap length c.in-Some-pop_front.ensures.items in
    let long = length-set c.self.inside.lent.items c.in-Some.slot true in
    record {
      paired = omega (arith, fewer, also, c.self.invariant.paired);
      once = once_lent c.in-Some.slot c.pop_front.new.self.items c.self.inside.lent.items once;
      counted = omega (arith, fewer, long, count_lent c.in-Some.slot c.self.inside.lent.items free.0 free.1, c.self.invariant.counted);
      slots_room = omega (arith, long, c.pop_front.ensures.capacity, c.self.invariant.slots_room);
      resources_room = omega (arith, long, c.pop_front-2.ensures.capacity, c.self.invariant.resources_room);
    }

pub returns : goal.returns
returns g c =
    let once = subst (λ (xs : List ℕ). StandOnce xs c.self.inside.lent.items) c.in-Some.ensures.items c.self.invariant.once in
    let free = first_free c.in-Some.slot c.pop_front.new.self.items c.self.inside.lent.items once in
    record {
      first = sym (ap (λ (s : Shelf g.row.R.Denot). s.idle) c.self.view_is) ∙ (λ i. zip (c.in-Some.ensures.items i) (c.in-Some-pop_front.ensures.items i));
      within = subst (λ (s : Shelf g.row.R.Denot). c.in-Some.slot < length s.lent) c.self.view_is free.0;
      free = sym (ap (λ (s : Shelf g.row.R.Denot). is_lent s.lent c.in-Some.slot) c.self.view_is) ∙ free.1;
      marked = ap (λ (s : Shelf g.row.R.Denot). set s.lent c.in-Some.slot true) c.self.view_is;
      more = count_lent c.in-Some.slot c.self.inside.lent.items free.0 free.1 ∙ ap (λ (s : Shelf g.row.R.Denot). lent_count s.lent + 1) c.self.view_is;
    }
