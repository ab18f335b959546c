-- how far a thing has come, by what was told of events; and what the rows tell of it
use Rattle.std.specs.Prelude.{ℕ, Bool, List, [], ◌∷◌, Option, Some, None, if◌then◌else◌}
use Rattle.std.specs.Option.{option_map}
use Rattle.mea_family.specs.declared.answer.Answer.{Answer}
use Rattle.mea_events.specs.declared.event.Event.{Event}
use Rattle.mea_marks.specs.declared.deed.Deed.{Deed}
use Rattle.mea_marks.specs.declared.deed.Deed.TheVariants.{Makes, Begins, Polls, Ends}
use Rattle.mea_marks.specs.declared.row.Row.{Row}
use Rattle.mea_marks.specs.declared.row.Stage.{Stage}
use Rattle.mea_marks.specs.declared.row.Stage.TheVariants.{Made, Rests, Ended}
use Rattle.mea_marks.specs.declared.thing.Thing.{Thing}
use Rattle.mea_marks.specs.Deeds.{deed_of}
use Rattle.mea_marks.specs.Marks.{Board, empty_board, board_after, polled_stage, thing_of}
use Rattle.mea_marks.specs.Rows.{same, is_of}
use Rattle.mea_marks.specs.Sorts.{is_lasting}

-- an event as it was told: its number, its reply and its wakes
pub record Told : Type 0 where
  pub number : ℕ
  pub event : Event
  pub answer : Answer
  pub wakes : List ℕ

-- the board after these events, the newest first
abbrev pub board_told : List Told → Board
board_told [] = empty_board
board_told (t ∷ older) = board_after (board_told older) t.number t.event t.answer t.wakes

-- a thing that event n made, if it was not there before
abbrev pub made_stage : Bool → Option Stage → Option Stage
made_stage is (Some g) = Some g
made_stage is None = if is then Some Made else None

-- this stage, where the thing is the one and was there
abbrev pub turned_stage : Bool → Stage → Option Stage → Option Stage
turned_stage is g now = if is then option_map (λ _. g) now else now

-- while event n wakes others, what it polls or ends waits no more
abbrev pub stage_before : ℕ → Deed → Thing → Option Stage → Option Stage
stage_before n (Polls y w) x now = turned_stage (same y x) Rests now
stage_before n (Ends y) x now = turned_stage (same y x) (Ended n) now
stage_before n _ x now = now

-- and after it
abbrev pub stage_after : ℕ → Deed → Answer → Thing → Option Stage → Option Stage
stage_after n (Makes s) a x now = made_stage (same (thing_of s n) x) now
stage_after n (Begins s o) a x now = made_stage (same (thing_of s n) x) now
stage_after n (Polls y w) a x now = if same y x then Some (polled_stage n (is_lasting y.sort) w a) else now
stage_after n _ a x now = now

-- how far a thing has come after these events: it waits where its last poll was answered `pending`, and none ended it since
abbrev pub stage_of : List Told → Thing → Option Stage
stage_of [] x = None
stage_of (t ∷ older) x = stage_after t.number (deed_of t.event) t.answer x (stage_before t.number (deed_of t.event) x (stage_of older x))

-- the stage that the row of a thing shows, if it has one
abbrev pub stage_in : List Row → Thing → Option Stage
stage_in [] x = None
stage_in (r ∷ rows) x = if is_of x r then Some r.stage else stage_in rows x
