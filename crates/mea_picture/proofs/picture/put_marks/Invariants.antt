use Rattle.std.proofs.Common.{take}
use Rattle.mea_picture.specs.Picture.{IsDrawnTo}
use Rattle.mea_picture.proofs.picture.put_marks.Given as goal

-- the marks so far are drawn
abbrev pub invariant-loop-mark : goal.invariant-loop-mark
invariant-loop-mark l = IsDrawnTo (take l.mark-index l.marks) l.fn.text.items l.text.items
