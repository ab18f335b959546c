use Rattle.std.proofs.Common.{◌≡◌, ◌++◌, take}
use Rattle.std.specs.List.{flat_map}
use Rattle.mea_picture.specs.Shapes.{shape_text}
use Rattle.mea_picture.proofs.shape.put_shapes.Given as goal

-- the shapes so far are put
abbrev pub invariant-loop-shape : goal.invariant-loop-shape
invariant-loop-shape l = l.text.items ≡ l.fn.text.items ++ flat_map shape_text (take l.shape-index l.shapes)
