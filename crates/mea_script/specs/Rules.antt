-- what a machine makes of the lines of a script
use Rattle.std.specs.Prelude.{◌≡◌, ℕ, List, length, nat_lt, Option, Some, None, if◌then◌else◌}
use Rattle.mea_family.specs.declared.stop.Stop.{Stop}

-- in each state: the event that a line stands for, if it stands for one; why an event is refused; the text of the
-- reply to the event of this number, and the state after it; the text at the end of the input, after so many lines
pub record Rules (State Event : Type 0) : Type 0 where
  pub event : State → List ℕ → Option Event
  pub cause : State → Event → Option Stop
  pub reply : State → ℕ → Event → List ℕ
  pub next : State → ℕ → Event → State
  pub last : State → ℕ → List ℕ

-- the event of a line; one of more than 96 bytes has none
abbrev pub event_at : {State Event : Type 0} → Rules State Event → State → List ℕ → Option Event
event_at rules s line = if nat_lt 96 (length line) then None else rules.event s line

-- some line stands for this event in this state
abbrev pub IsEvent : {State Event : Type 0} → Rules State Event → State → Event → Type 0
IsEvent rules s e = (line : List ℕ) × (rules.event s line ≡ Some e)
