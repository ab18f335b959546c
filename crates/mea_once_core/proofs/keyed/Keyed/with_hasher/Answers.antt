use Rattle.std.proofs.Common.{arith}
use Rattle.mea_once_core.proofs.Keyeds.{kept-empty}
use Rattle.mea_once_core.proofs.keyed.Keyed.with_hasher.Goals as goal

pub invariant_of-result : goal.invariant_of-result
invariant_of-result g c = let k = kept-empty g.K.PartialEq.eq c.with_hasher.result c.with_hasher.ensures.entries in record { quiet = k.0; counted = k.1; room = omega arith }
