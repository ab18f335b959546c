-- how the drawing of a script ends, and what it writes
use Rattle.std.specs.Prelude.{ℕ, ◌≡◌, ◌⊎◌, List, Option, Some}
use Rattle.mea_events.specs.declared.event.Event.{Event}
use Rattle.mea_io.specs.Bytes.{HasWritten, HasWrittenPart}
use Rattle.mea_lines.specs.Lines.{event_of}
use Rattle.mea_script.specs.declared.status.Status.{Status}
use Rattle.mea_script.specs.declared.status.Status.TheVariants as statuses
use Rattle.mea_script.specs.Rules.{Rules}
use Rattle.mea_script.specs.Runs.{code_of}
use Rattle.mea_marks.specs.declared.ending.Ending.{Ending}
use Rattle.mea_marks.specs.declared.ending.Ending.TheVariants.{Whole, Stopped, Bad, Long, TooGreat}
use Rattle.mea_marks.specs.Script.{Steps, Shown, marks_of}
use Rattle.mea_picture.specs.declared.status.DrawStatus.{DrawStatus}
use Rattle.mea_picture.specs.declared.status.DrawStatus.TheVariants as draws
use Rattle.mea_picture.specs.Picture.{IsPictureOf}

-- ---- its status

abbrev pub status_at : Ending → ℕ → DrawStatus
status_at Whole n = draws.Played statuses.Done
status_at (Stopped stop) n = draws.Played (statuses.Stopped n stop)
status_at Bad n = draws.Played (statuses.BadLine n)
status_at Long n = draws.Played statuses.TooLong
status_at TooGreat n = draws.TooGreat

abbrev pub draw_status : Shown → DrawStatus
draw_status shown = status_at shown.ending shown.lines

abbrev pub draw_code : DrawStatus → ℕ
draw_code (draws.Played status) = code_of status
draw_code draws.TooGreat = 8

-- a script is drawn with the status of its playing, where there is not too much
abbrev pub EndsAlike : Shown → Status → Type 0
EndsAlike shown status = (draw_status shown ≡ draws.TooGreat) ⊎ (draw_status shown ≡ draws.Played status)

-- a machine of scripts that takes the same lines for events, refuses for the same causes and leaves the same states
abbrev pub rules_of : {State : Type 0} → Steps State → (State → ℕ → Event → List ℕ) → (State → ℕ → List ℕ) → Rules State Event
rules_of steps reply last = record { event = λ s line. event_of line; cause = steps.cause; reply = reply; next = steps.next; last = last }

-- ---- what a run answers and writes

-- a read or a write failed, or there was no memory
abbrev pub IsDrawFault : DrawStatus → Type 0
IsDrawFault status = (status ≡ draws.Played statuses.ReadFault) ⊎ ((status ≡ draws.Played statuses.WriteFault) ⊎ (status ≡ draws.Played statuses.NoMemory))

-- a picture of it is written whole; nothing is, where there is too much
abbrev pub IsWrittenAt : Ending → Shown → List ℕ → Option (List ℕ) → Type 0
IsWrittenAt TooGreat shown before taken = taken ≡ Some before
IsWrittenAt _ shown before taken = (text : List ℕ) × IsPictureOf (marks_of shown) text × HasWritten text before taken

abbrev pub IsDrawn : Shown → DrawStatus → List ℕ → Option (List ℕ) → Type 0
IsDrawn shown status before taken = (status ≡ draw_status shown) × IsWrittenAt shown.ending shown before taken

-- at a fault nothing was written, or a front of a picture of it
abbrev pub IsBroken : Shown → List ℕ → Option (List ℕ) → Type 0
IsBroken shown before taken = (taken ≡ Some before) ⊎ ((text : List ℕ) × IsPictureOf (marks_of shown) text × HasWrittenPart text before taken)

abbrev pub Draws : Shown → DrawStatus → List ℕ → Option (List ℕ) → Type 0
Draws shown status before taken = (IsDrawFault status × IsBroken shown before taken) ⊎ IsDrawn shown status before taken
