use Rattle.std.proofs.Common.{arith}
use Rattle.mea_once_core.proofs.Keyeds.{kept-idle}
use Rattle.mea_once_core.proofs.keyed.Keyed.from_pairs.Goals as goal

pub invariant_of-result : goal.invariant_of-result
invariant_of-result g c = let k = kept-idle g.K.PartialEq.eq c.in_ok-table.table c.in_ok-table.ensures.entries in record { quiet = k.0; counted = k.1; room = omega arith }
