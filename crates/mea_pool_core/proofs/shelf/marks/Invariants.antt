use Rattle.std.proofs.Common.{◌≡◌, ◌≤◌}
use Rattle.std.specs.VecDeque.{deque_len, deque_capacity}
use Rattle.std.specs.Vec.{vec_len, vec_capacity}
use Rattle.mea_pool_core.specs.Shelf.{slots_below, none_lent}
use Rattle.mea_pool_core.proofs.shelf.marks.Given as goal

-- the slots and the marks so far, and room for all
abbrev pub invariant-loop-slot : goal.invariant-loop-slot
invariant-loop-slot l =
    record {
      slots : l.slots.items ≡ slots_below l.slot;
      lent : l.lent.items ≡ none_lent l.slot;
      slots_len : deque_len l.slots ≡ l.slot;
      lent_len : vec_len l.lent ≡ l.slot;
      slots_room : l.all ≤ deque_capacity l.slots;
      lent_room : l.all ≤ vec_capacity l.lent;
    }
