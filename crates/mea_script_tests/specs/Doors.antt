-- doors that are opened and shut, and counted at the end
use Rattle.std.specs.Prelude.{◌≡◌, ℕ, ◌+◌, ◌-◌, ◌&&◌, List, [], ◌∷◌, Option, Some, None, nat_lt, codes, if◌then◌else◌}
use Rattle.std.specs.Str.{bytes_eq}
use Rattle.mea_script.specs.Rules.{Rules}
use Rattle.mea_script.specs.Told.{Told, told_by}
use Rattle.mea_text.specs.Text.{counted_line}
use Rattle.mea_script_tests.specs.declared.doors.DoorEvent.{DoorEvent}
use Rattle.mea_script_tests.specs.declared.doors.DoorEvent.TheVariants.{Open, Shut}

-- a door is shut only where one is open
abbrev pub event_of : ℕ → List ℕ → Option DoorEvent
event_of opened line = if bytes_eq line (codes "open") then Some Open else (if bytes_eq line (codes "shut") && nat_lt 0 opened then Some Shut else None)

-- how many are open after an event
abbrev pub after : ℕ → DoorEvent → ℕ
after opened Open = opened + 1
after opened Shut = opened - 1

-- no event is refused, each is replied to with the doors that are open after it, and those of the end are told once more
abbrev pub door_rules : Rules ℕ DoorEvent
door_rules = record {
  event = event_of;
  cause = λ opened e. None;
  reply = λ opened n e. counted_line (codes "open") (after opened e);
  next = λ opened n e. after opened e;
  last = λ opened n. counted_line (codes "left") opened;
}

-- what a script of doors is answered
abbrev pub doors_of : List ℕ → Told
doors_of script = told_by door_rules 0 script

-- the one word `doors`
abbrev pub IsDoors : List (List ℕ) → Type 0
IsDoors words = words ≡ codes "doors" ∷ []
