-- the drawing of scripts on all families
use Rattle.std.specs.Prelude.{ℕ, List, [], ◌≡◌}
use Rattle.mea_events.specs.declared.event.Event.{Event}
use Rattle.mea_hall.specs.World.{World, empty_world, cause_of, step}
use Rattle.mea_text.specs.Reply.{reply_text}
use Rattle.mea_script.specs.declared.status.Status.{Status}
use Rattle.mea_script.specs.Rules.{Rules}
use Rattle.mea_script.specs.Told.{told_by}
use Rattle.mea_marks.specs.Script.{Steps, Shown, shown_of}
use Rattle.mea_picture.specs.Drawing.{rules_of}

-- what the halls make of each event: why it is refused, the world after it, and its reply with its wakes
unfoldable pub hall_steps : Steps World
hall_steps = record {
  cause = λ w e. cause_of w e;
  next = λ w n e. (step w n e).world;
  reply = λ w n e. (step w n e).reply;
}

-- what is shown of a script
abbrev pub drawing_of : List ℕ → Shown
drawing_of script = shown_of hall_steps empty_world script

-- the halls as the machine that `mea_play` plays scripts on: the same record as hall_rules of mea_run
abbrev pub hall_rules : Rules World Event
hall_rules = rules_of hall_steps (λ w n e. reply_text (step w n e).reply.0 (step w n e).reply.1) (λ w n. [])

-- the status with which a script is played
abbrev pub played_status : List ℕ → Status
played_status script = (told_by hall_rules empty_world script).status

-- there are no words
abbrev pub IsDraw : List (List ℕ) → Type 0
IsDraw words = words ≡ []
