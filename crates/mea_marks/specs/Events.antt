-- what is told of the events of a script, and what its picture shows of each thing
use Rattle.std.specs.Prelude.{ℕ, ◌≡◌, ◌+◌, List, [], ◌∷◌, Option, Some, None, if◌then◌else◌}
use Rattle.mea_family.specs.declared.stop.Stop.{Stop}
use Rattle.mea_events.specs.declared.event.Event.{Event}
use Rattle.mea_lines.specs.Lines.{event_of}
use Rattle.mea_script.specs.Lines.{lines_of}
use Rattle.mea_marks.specs.declared.thing.Thing.{Thing}
use Rattle.mea_marks.specs.Laws.{Told, board_told, stage_of, stage_in}
use Rattle.mea_marks.specs.Script.{Steps, is_great, shown_of}

module _ {State : Type 0} (steps : Steps State) where
  -- event number n, as it is told
  abbrev pub told : State → ℕ → Event → Told
  told s n e = record { number = n; event = e; answer = (steps.reply s n e).0; wakes = (steps.reply s n e).1 }

  -- after the events that were told, the newest first: an event that is refused is not told, and behind one after which there is
  -- too much nothing is
  abbrev pub told_at : Option Stop → List Told → ℕ → Told → List Told → List Told
  told_at (Some stop) ts n t rest = ts
  told_at None ts n t rest = if is_great (board_told (t ∷ ts)) (n + 1) then t ∷ ts else rest

  -- line number n stands for no event, or for one after which the rest is told
  abbrev pub told_line : State → List Told → ℕ → Option Event → (State → List Told → List Told) → List Told
  told_line s ts n None rest = ts
  told_line s ts n (Some e) rest = told_at (steps.cause s e) ts n (told s n e) (rest (steps.next s n e) (told s n e ∷ ts))

  -- after the events that were told, those of these lines from this state on
  abbrev pub told_from : State → List Told → ℕ → List (List ℕ) → List Told
  told_from s ts n [] = ts
  told_from s ts n (line ∷ lines) = told_line s ts n (event_of line) (λ t us. told_from t us (n + 1) lines)

  -- the events of a script that are shown, the newest first
  unfoldable pub told_of : State → List ℕ → List Told
  told_of s script = told_from s [] 0 (lines_of script)

  -- the row of each thing shows how far it has come: where it waits, with which waker, and where it ended
  abbrev pub ShowsStages : State → List ℕ → Type 0
  ShowsStages s script = (x : Thing) → stage_in (shown_of steps s script).board.rows x ≡ stage_of (told_of s script) x
