-- a list of events, played from an empty hall up to the first that has a cause for refusal
use Rattle.std.specs.Prelude.{ℕ, ◌≡◌, ◌+◌, ◌++◌, List, [], ◌∷◌, Option, Some, None}
use Rattle.mea_family.specs.declared.answer.Answer.{Answer}
use Rattle.mea_family.specs.declared.stop.Stop.{Stop}
use Rattle.mea_events.specs.declared.event.Event.{Event}
use Rattle.mea_hall.specs.World.{World, empty_world, cause_of, step}

-- the world after the events that were played, their replies with their wakes, and the cause of the next
-- one or none
pub record Front : Type 0 where
  pub world : World
  pub replies : List (Answer × List ℕ)
  pub cause : Option Stop

-- the front whose first event has this cause, or has this reply and goes on so
abbrev pub front_at : Option Stop → World → Answer × List ℕ → Front → Front
front_at (Some stop) w reply next = record { world = w; replies = []; cause = Some stop }
front_at None w reply next = record { world = next.world; replies = reply ∷ next.replies; cause = next.cause }

abbrev pub front_from : World → ℕ → List Event → Front
front_from w i [] = record { world = w; replies = []; cause = None }
front_from w i (e ∷ es) = front_at (cause_of w e) w (step w i e).reply (front_from (step w i e).world (i + 1) es)

-- event number i is played as step i
abbrev pub front_of : List Event → Front
front_of es = front_from empty_world 0 es

-- events of which none has a cause for refusal
abbrev pub IsLegal : List Event → Type 0
IsLegal es = (front_of es).cause ≡ None

-- a front after replies that were told before it
abbrev pub prepended : List (Answer × List ℕ) → Front → Front
prepended rs f = record { world = f.world; replies = rs ++ f.replies; cause = f.cause }
