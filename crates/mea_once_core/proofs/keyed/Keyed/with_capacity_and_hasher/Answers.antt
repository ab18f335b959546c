use Rattle.std.proofs.Common.{arith}
use Rattle.mea_once_core.proofs.Keyeds.{kept-empty}
use Rattle.mea_once_core.proofs.keyed.Keyed.with_capacity_and_hasher.Goals as goal

pub invariant_of-result : goal.invariant_of-result
invariant_of-result g c = let k = kept-empty g.K.PartialEq.eq c.in_ok-table.table c.in_ok-table.ensures.entries in record { quiet = k.0; counted = k.1; room = omega arith }
