-- the rows of a picture
use Rattle.std.specs.Prelude.{ℕ, ◌==◌, ◌&&◌, ◌++◌, Bool, false, List, [], ◌∷◌, map, if◌then◌else◌}
use Rattle.std.specs.List.{list_any}
use Rattle.mea_marks.specs.declared.row.Row.{Row}
use Rattle.mea_marks.specs.declared.row.Stage.{Stage}
use Rattle.mea_marks.specs.declared.row.Stage.TheVariants.{Made, Waits}
use Rattle.mea_marks.specs.declared.thing.Thing.{Thing}
use Rattle.mea_marks.specs.Sorts.{code_of}

-- two things are one
abbrev pub same : Thing → Thing → Bool
same a b = (code_of a.sort == code_of b.sort) && (a.name == b.name)

-- the row is of this thing
abbrev pub is_of : Thing → Row → Bool
is_of x r = same r.thing x

-- it waits with this waker
abbrev pub waits_at : ℕ → Stage → Bool
waits_at w (Waits v) = v == w
waits_at w _ = false

-- the thing of a row waits with this waker
abbrev pub waits_with : ℕ → Row → Bool
waits_with w r = waits_at w r.stage

-- the row of this thing at this stage
abbrev pub row_of : Thing → Stage → Row
row_of x g = record { thing = x; stage = g }

-- the row of this thing is at this stage, and any other as it was
abbrev pub staged : Thing → Stage → Row → Row
staged x g r = if is_of x r then row_of x g else r

-- the same of each row
abbrev pub with_stage : Thing → Stage → List Row → List Row
with_stage x g rows = map (staged x g) rows

-- this thing has a row
abbrev pub has_row : Thing → List Row → Bool
has_row x rows = list_any (is_of x) rows

-- the row of this thing is at this stage; it is the last row where there was none
abbrev pub put_stage : Thing → Stage → List Row → List Row
put_stage x g rows = if has_row x rows then with_stage x g rows else rows ++ row_of x g ∷ []

-- a thing that is made has a row from then on
abbrev pub add_row : Thing → List Row → List Row
add_row x rows = if has_row x rows then rows else rows ++ row_of x Made ∷ []
