use Rattle.std.proofs.Common.{◌≡◌, ◌++◌, take}
use Rattle.std.specs.List.{flat_map}
use Rattle.mea_marks.specs.Marks.{stray_at}
use Rattle.mea_marks.proofs.arrows.put_strays.Given as goal

-- the wakers so far are put
abbrev pub invariant-loop-waker : goal.invariant-loop-waker
invariant-loop-waker l = l.marks.items ≡ l.fn.marks.items ++ flat_map (stray_at l.number l.rows) (take l.waker-index l.wakes)
