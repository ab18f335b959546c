use Rattle.std.proofs.Common.{◌≡◌, ◌++◌, length}
use Rattle.std.specs.Vec.Iter.{into_iter_items, into_iter_len}
use Rattle.mea_once_core.proofs.Inserts.{IsMade}
use Rattle.mea_once_core.proofs.once_table.OnceTable.from_pairs.Given as goal

-- the table has the pairs so far
abbrev pub invariant-loop-key : goal.invariant-loop-key
invariant-loop-key g l =
    record {
      all : l.yielded ++ into_iter_items l.key-iterator ≡ into_iter_items l.initial.key-iterator;
      counted : into_iter_len l.key-iterator ≡ length (into_iter_items l.key-iterator);
      made : IsMade g.K.PartialEq.eq l.table l.yielded;
    }
