use Rattle.std.proofs.Common.{All}
use Rattle.mea_recorded.specs.Closing.{Stands}
use Rattle.mea_recorded.proofs.closing.compare.Given as goal

-- the receipts so far stand in their entries
abbrev pub invariant-loop-n : goal.invariant-loop-n
invariant-loop-n l = All (λ n. Stands l.recorded n) l.yielded
