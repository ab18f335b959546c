-- what is shown of a script: line by line, on any hall
use Rattle.std.specs.Prelude.{ℕ, ◌≡◌, ◌+◌, ◌++◌, ◌||◌, Bool, List, [], ◌∷◌, Option, Some, None, length, map, nat_lt, if◌then◌else◌}
use Rattle.mea_family.specs.declared.answer.Answer.{Answer}
use Rattle.mea_family.specs.declared.stop.Stop.{Stop}
use Rattle.mea_events.specs.declared.event.Event.{Event}
use Rattle.mea_lines.specs.Lines.{event_of}
use Rattle.mea_script.specs.Lines.{is_long, lines_of}
use Rattle.mea_marks.specs.declared.ending.Ending.{Ending}
use Rattle.mea_marks.specs.declared.ending.Ending.TheVariants.{Whole, Stopped, Bad, Long, TooGreat}
use Rattle.mea_marks.specs.declared.mark.Mark.{Mark}
use Rattle.mea_marks.specs.declared.mark.Mark.TheVariants as marks
use Rattle.mea_marks.specs.declared.past.Past.{Past}
use Rattle.mea_marks.specs.declared.row.Row.{Row}
use Rattle.mea_marks.specs.Marks.{Board, empty_board, board_after, board_of}

-- what a hall makes of each event in a state: why it is refused, the state after it, and its reply with its wakes
pub record Steps (State : Type 0) : Type 0 where
  pub cause : State → Event → Option Stop
  pub next : State → ℕ → Event → State
  pub reply : State → ℕ → Event → Answer × List ℕ

-- what is shown: the rows and marks of the events, how the script ended, and after how many lines
pub record Shown : Type 0 where
  pub board : Board
  pub ending : Ending
  pub lines : ℕ

-- a script that ended so after n lines, with this board
abbrev pub ended : Board → Ending → ℕ → Shown
ended b ending n = record { board = b; ending = ending; lines = n }

-- more than 1000 rows or 2000 events
abbrev pub is_great : Board → ℕ → Bool
is_great b n = nat_lt 1000 (length b.rows) || nat_lt 2000 n

-- n events left this board, and then the rest is shown where that is not too much
abbrev pub shown_on : Board → ℕ → Shown → Shown
shown_on b n rest = if is_great b n then ended b TooGreat n else rest

-- event number n has this cause for refusal, or leaves that board
abbrev pub shown_at : Option Stop → Board → ℕ → Board → Shown → Shown
shown_at (Some stop) b n after rest = ended b (Stopped stop) n
shown_at None b n after rest = shown_on after (n + 1) rest

-- line number n stands for no event, or for one after which the rest is shown
abbrev pub shown_line : {State : Type 0} → Steps State → State → Board → ℕ → Option Event → (State → Board → Shown) → Shown
shown_line steps s b n None rest = ended b Bad n
shown_line steps s b n (Some e) rest =
    let after = board_after b n e (steps.reply s n e).0 (steps.reply s n e).1 in
    shown_at (steps.cause s e) b n after (rest (steps.next s n e) after)

-- after the last line, of n: where the script is too long, or at its end
abbrev pub shown_end : Bool → Board → ℕ → Shown
shown_end long b n = ended b (if long then Long else Whole) n

-- what is shown of these lines from this state and board on, after n lines, where the script may be too long
abbrev pub shown_from : {State : Type 0} → Steps State → Bool → State → Board → ℕ → List (List ℕ) → Shown
shown_from steps long s b n [] = shown_end long b n
shown_from steps long s b n (line ∷ lines) = shown_line steps s b n (event_of line) (λ t after. shown_from steps long t after (n + 1) lines)

-- what is shown of a script that is played from this state on
unfoldable pub shown_of : {State : Type 0} → Steps State → State → List ℕ → Shown
shown_of steps s script = shown_from steps (is_long script) s empty_board 0 (lines_of script)

-- ---- its marks

-- the mark of a row
abbrev pub row_mark : Row → Mark
row_mark r = marks.Row r.thing r.stage

-- the cause, at the line behind the last event
abbrev pub ending_marks : Ending → ℕ → List Mark
ending_marks Whole n = []
ending_marks (Stopped stop) n = marks.Cause n stop ∷ []
ending_marks Bad n = marks.Bad n ∷ []
ending_marks Long n = marks.Long n ∷ []
ending_marks TooGreat n = []

-- the rows, then the marks of each event, then the cause
abbrev pub marks_of : Shown → List Mark
marks_of shown = map row_mark shown.board.rows ++ shown.board.marks ++ ending_marks shown.ending shown.lines

-- what the past of a script has come to
abbrev pub seen : Past → Shown
seen p = record { board = board_of p.board; ending = p.ending; lines = p.lines }

-- ---- a line that was played

-- the script goes on after line number n, whose event is this one, from that state and that board
pub record GoesOn {State : Type 0} (steps : Steps State) (s t : State) (b c : Board) (n : ℕ) (e : Option Event) : Type 0 where
  pub next : (rest : State → Board → Shown) → shown_line steps s b n e rest ≡ rest t c

-- line number n is the last that is shown, and this is shown then
pub record EndsAt {State : Type 0} (steps : Steps State) (s : State) (b : Board) (n : ℕ) (e : Option Event) (shown : Shown) : Type 0 where
  pub last : (rest : State → Board → Shown) → shown_line steps s b n e rest ≡ shown
