use Rattle.std.proofs.Common.{◌≡◌, ◌++◌, take}
use Rattle.std.specs.List.{flat_map}
use Rattle.mea_marks.specs.Marks.{arrow_to}
use Rattle.mea_marks.proofs.arrows.put_arrows.Given as goal

-- the arrows to the rows so far are put
abbrev pub invariant-loop-row : goal.invariant-loop-row
invariant-loop-row l = l.marks.items ≡ l.fn.marks.items ++ flat_map (arrow_to l.number l.wakes) (take l.row-index l.rows)
