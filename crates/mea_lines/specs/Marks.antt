-- which table of lines stands behind which mark
use Rattle.std.specs.Prelude.{ℕ, List, [], ◌∷◌, Option, Some, None, codes, if◌then◌else◌}
use Rattle.std.specs.Str.{bytes_eq}
use Rattle.mea_events.specs.declared.meet_event.MeetEvent.{MeetEvent}
use Rattle.mea_events.specs.declared.lock_event.LockEvent.{LockEvent}
use Rattle.mea_events.specs.declared.chan_event.ChanEvent.{ChanEvent}
use Rattle.mea_events.specs.declared.share_event.ShareEvent.{ShareEvent}
use Rattle.mea_events.specs.declared.once_event.OnceEvent.{OnceEvent}
use Rattle.mea_events.specs.declared.event.Event.{Event}
use Rattle.mea_events.specs.declared.event.Event.TheVariants.{Meet, Lock, Chan, Share, Once}
use Rattle.mea_text.specs.declared.numbers.Numbers.{Numbers}
use Rattle.mea_text.specs.Tables.{Line, of_table}
use Rattle.mea_text.specs.Words.{◌>>=◌}
use Rattle.mea_lines.specs.MeetLines.{barrier_lines, latch_lines, group_lines, shutdown_lines}
use Rattle.mea_lines.specs.LockLines.{mutex_lines, rw_lock_lines, condvar_lines}
use Rattle.mea_lines.specs.ChanLines.{bounded_lines, unbounded_lines, oneshot_lines, broadcast_lines, box_lines, option_box_lines}
use Rattle.mea_lines.specs.ShareLines.{admission_lines}
use Rattle.mea_lines.specs.OnceLines.{call_lines, cell_lines, map_lines, work_lines}

-- a table of the lines of one family
pub data Table : Type 0 where
  meet : List (Line MeetEvent) → Table
  lock : List (Line LockEvent) → Table
  chan : List (Line ChanEvent) → Table
  share : List (Line ShareEvent) → Table
  once : List (Line OnceEvent) → Table

-- the event that it has for a verb and numbers
abbrev pub of_family : Table → List ℕ → Numbers → Option Event
of_family (meet lines) verb numbers = of_table lines verb numbers >>= (λ event. Some (Meet event))
of_family (lock lines) verb numbers = of_table lines verb numbers >>= (λ event. Some (Lock event))
of_family (chan lines) verb numbers = of_table lines verb numbers >>= (λ event. Some (Chan event))
of_family (share lines) verb numbers = of_table lines verb numbers >>= (λ event. Some (Share event))
of_family (once lines) verb numbers = of_table lines verb numbers >>= (λ event. Some (Once event))

-- the tables by the mark that stands before the dot of a word
unfoldable pub marks : List (List ℕ × Table)
marks =
    (codes "bar", meet barrier_lines) ∷
    (codes "lat", meet latch_lines) ∷
    (codes "wg", meet group_lines) ∷
    (codes "sd", meet shutdown_lines) ∷
    (codes "mx", lock mutex_lines) ∷
    (codes "rw", lock rw_lock_lines) ∷
    (codes "cv", lock condvar_lines) ∷
    (codes "mb", chan bounded_lines) ∷
    (codes "mu", chan unbounded_lines) ∷
    (codes "os", chan oneshot_lines) ∷
    (codes "bc", chan broadcast_lines) ∷
    (codes "ab", chan box_lines) ∷
    (codes "ao", chan option_box_lines) ∷
    (codes "fs", share admission_lines) ∷
    (codes "on", once call_lines) ∷
    (codes "oc", once cell_lines) ∷
    (codes "om", once map_lines) ∷
    (codes "sf", once work_lines) ∷
    []

-- the event that the table of a mark has for a verb
abbrev pub of_marks : List (List ℕ × Table) → List ℕ → List ℕ → Numbers → Option Event
of_marks [] mark verb numbers = None
of_marks (m ∷ ms) mark verb numbers = if bytes_eq mark m.0 then of_family m.1 verb numbers else of_marks ms mark verb numbers
