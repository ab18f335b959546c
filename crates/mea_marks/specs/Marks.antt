-- the marks of a picture: what each event adds to them
use Rattle.std.specs.Prelude.{ℕ, ◌++◌, ◌==◌, Bool, List, [], ◌∷◌, cond, if◌then◌else◌}
use Rattle.std.specs.List.{flat_map, list_any}
use Rattle.mea_family.specs.declared.answer.Answer.{Answer}
use Rattle.mea_family.specs.declared.answer.Answer.TheVariants as answers
use Rattle.mea_events.specs.declared.event.Event.{Event}
use Rattle.mea_marks.specs.declared.board.Board.{Board as Kept}
use Rattle.mea_marks.specs.declared.deed.Deed.{Deed}
use Rattle.mea_marks.specs.declared.deed.Deed.TheVariants.{Makes, Begins, Polls, Ends}
use Rattle.mea_marks.specs.declared.mark.Mark.{Mark}
use Rattle.mea_marks.specs.declared.mark.Mark.TheVariants as marks
use Rattle.mea_marks.specs.declared.row.Row.{Row}
use Rattle.mea_marks.specs.declared.row.Stage.{Stage}
use Rattle.mea_marks.specs.declared.row.Stage.TheVariants as stages
use Rattle.mea_marks.specs.declared.sort.Sort.{Sort}
use Rattle.mea_marks.specs.declared.thing.Thing.{Thing}
use Rattle.mea_marks.specs.Deeds.{deed_of}
use Rattle.mea_marks.specs.Rows.{waits_with, with_stage, has_row, put_stage, add_row}
use Rattle.mea_marks.specs.Sorts.{is_lasting}

-- ---- the rows

-- what event n makes
abbrev pub thing_of : Sort → ℕ → Thing
thing_of s n = record { sort = s; name = n }

-- a thing that is polled or ended by an event waits no more; so are the rows when the event wakes others
abbrev pub rows_before : ℕ → Deed → List Row → List Row
rows_before n (Polls x w) rows = with_stage x stages.Rests rows
rows_before n (Ends x) rows = with_stage x (stages.Ended n) rows
rows_before n _ rows = rows

-- a thing that event n polled with this waker, and answered so
abbrev pub polled_stage : ℕ → Bool → ℕ → Answer → Stage
polled_stage n lasting w answers.Pending = stages.Waits w
polled_stage n lasting w _ = cond lasting stages.Rests (stages.Ended n)

-- and after it: what it makes has a row from it on, and so has what it polls
abbrev pub rows_after : ℕ → Deed → Answer → List Row → List Row
rows_after n (Makes s) a before = add_row (thing_of s n) before
rows_after n (Begins s o) a before = add_row (thing_of s n) before
rows_after n (Polls x w) a before = put_stage x (polled_stage n (is_lasting x.sort) w a) before
rows_after n _ a before = before

-- ---- the marks

-- the poll of a thing, by its answer
abbrev pub poll_mark : ℕ → Thing → Answer → Mark
poll_mark n x answers.Pending = marks.Pending n x
poll_mark n x answers.Gone = marks.Refused n x
poll_mark n x (answers.Closed v) = marks.Refused n x
poll_mark n x (answers.Failure e) = marks.Refused n x
poll_mark n x _ = marks.Ready n x

-- what an event polls, and what it ends, where that has a row
abbrev pub deed_marks : ℕ → Deed → Answer → List Row → List Mark
deed_marks n (Polls x w) a rows = poll_mark n x a ∷ []
deed_marks n (Ends x) a rows = if has_row x rows then marks.Ended n x ∷ [] else []
deed_marks n _ a rows = []

-- an event makes this waker ready
abbrev pub is_woken : ℕ → List ℕ → Bool
is_woken w ws = list_any (λ v. v == w) ws

-- a thing that waits with a waker which event n makes ready: an arrow to it
abbrev pub arrow_at : ℕ → List ℕ → Thing → Stage → List Mark
arrow_at n ws x (stages.Waits w) = if is_woken w ws then marks.Arrow n w x ∷ [] else []
arrow_at n ws x _ = []

-- the same of a row
abbrev pub arrow_to : ℕ → List ℕ → Row → List Mark
arrow_to n ws r = arrow_at n ws r.thing r.stage

-- a waker that event n makes ready, with which nothing waits
abbrev pub stray_at : ℕ → List Row → ℕ → List Mark
stray_at n rows w = if list_any (waits_with w) rows then [] else marks.Stray n w ∷ []

-- the wakes of event n: an arrow to each thing that it wakes, and each waker by which it wakes none
abbrev pub wake_marks : ℕ → List ℕ → List Row → List Mark
wake_marks n ws rows = flat_map (arrow_to n ws) rows ++ flat_map (stray_at n rows) ws

-- the marks of event n, which was answered so and made these wakers ready
abbrev pub event_marks : ℕ → Deed → Answer → List ℕ → List Row → List Mark
event_marks n d a ws rows = marks.Event n ∷ (wake_marks n ws (rows_before n d rows) ++ deed_marks n d a rows)

-- ---- event by event

-- the rows so far, and the marks so far without those of the rows
pub record Board : Type 0 where
  pub rows : List Row
  pub marks : List Mark

-- no row and no mark
abbrev pub empty_board : Board
empty_board = record { rows = []; marks = [] }

-- a board after event n, which was answered so and made these wakers ready
unfoldable pub board_after : Board → ℕ → Event → Answer → List ℕ → Board
board_after b n e a ws = record {
  rows = rows_after n (deed_of e) a (rows_before n (deed_of e) b.rows);
  marks = b.marks ++ event_marks n (deed_of e) a ws b.rows;
}

-- what a board has come to
abbrev pub board_of : Kept → Board
board_of b = record { rows = b.rows.items; marks = b.marks.items }
