use Rattle.std.proofs.Common.{◌≡◌, ◌≤◌}
use Rattle.std.specs.Vec.{vec_len, vec_capacity}
use Rattle.mea_pool_core.specs.Shelf.{slots_below}
use Rattle.mea_pool_run.proofs.named_pool.numbered.Given as goal

-- the numbers so far, and room for all
abbrev pub invariant-loop-number : goal.invariant-loop-number
invariant-loop-number l = record {
  numbers : l.numbers.items ≡ slots_below l.number;
  as_many : vec_len l.numbers ≡ l.number;
  room : l.size ≤ vec_capacity l.numbers;
}
