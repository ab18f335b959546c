-- what a script is answered: its text and how it ends
use Rattle.std.specs.Prelude.{ℕ, Bool, true, false, List, [], ◌∷◌, ◌++◌, length, Option, Some, None}
use Rattle.std.specs.List.{flat_map}
use Rattle.mea_family.specs.declared.answer.Answer.{Answer}
use Rattle.mea_events.specs.declared.event.Event.{Event}
use Rattle.mea_hall.specs.World.{World, cause_of, step}
use Rattle.mea_hall.specs.Front.{Front, front_of}
use Rattle.mea_hall.specs.History.{AreBalanced, LoseNoWake, GrantInOrder}
use Rattle.mea_lines.specs.Lines.{event_of}
use Rattle.mea_text.specs.Reply.{reply_text}
use Rattle.mea_script.specs.declared.status.Status.{Status}
use Rattle.mea_script.specs.Rules.{Rules}
use Rattle.mea_script.specs.Lines.{is_long, lines_of}
use Rattle.mea_script.specs.Told.{status_at, ending_at}

-- ---- events

-- the events of lines up to the first that is none, and whether there is such a line
pub record Reading : Type 0 where
  pub events : List Event
  pub bad : Bool

-- a line that stands for this event, or for none, before lines that are read so
abbrev pub reading_at : Option Event → Reading → Reading
reading_at None next = record { events = []; bad = true }
reading_at (Some event) next = record { events = event ∷ next.events; bad = next.bad }

-- these lines as they are read
abbrev pub reading_of : List (List ℕ) → Reading
reading_of [] = record { events = []; bad = false }
reading_of (line ∷ lines) = reading_at (event_of line) (reading_of lines)

-- ---- the text and the status

-- the texts of all replies
abbrev pub replies_text : List (Answer × List ℕ) → List ℕ
replies_text replies = flat_map {X = Answer × List ℕ} (λ r. reply_text r.0 r.1) replies

-- the text where the events came to this front, by whether the line behind them is none and whether the script is too long
abbrev pub text_after : Front → Bool → Bool → List ℕ
text_after front bad long = replies_text front.replies ++ ending_at front.cause bad long (length front.replies)

-- the status, by the same
abbrev pub status_after : Front → Bool → Bool → Status
status_after front bad long = status_at front.cause bad long (length front.replies)

-- the text that a script is answered
abbrev pub text_of : List ℕ → List ℕ
text_of script = let reading = reading_of (lines_of script) in text_after (front_of reading.events) reading.bad (is_long script)

-- the status that it ends with
abbrev pub status_of : List ℕ → Status
status_of script = let reading = reading_of (lines_of script) in status_after (front_of reading.events) reading.bad (is_long script)

-- ---- the laws, for the script that is played: at every point, of its events and their replies

-- the events of the script
abbrev pub events_of : List ℕ → List Event
events_of script = (reading_of (lines_of script)).events

-- its accounts balance
abbrev pub IsBalanced : List ℕ → Type 0
IsBalanced script = AreBalanced (events_of script) (front_of (events_of script)).replies

-- it loses no wake
abbrev pub LosesNoWake : List ℕ → Type 0
LosesNoWake script = LoseNoWake (events_of script) (front_of (events_of script)).replies

-- its grants follow the first polls
abbrev pub GrantsInOrder : List ℕ → Type 0
GrantsInOrder script = GrantInOrder (events_of script) (front_of (events_of script)).replies

-- ---- the halls as a machine

-- what they make of each line: its event, why that is refused, the text of its reply, and the world after it
unfoldable pub hall_rules : Rules World Event
hall_rules = record {
  event = λ w line. event_of line;
  cause = λ w e. cause_of w e;
  reply = λ w n e. reply_text (step w n e).reply.0 (step w n e).reply.1;
  next = λ w n e. (step w n e).world;
  last = λ w n. [];
}
