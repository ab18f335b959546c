-- the wakes of a script, as its picture shows them
use Rattle.std.specs.Prelude.{ℕ, ◌≡◌, ◌==◌, ◌&&◌, Bool, true, false, List, [], ◌∷◌, Option, Some, None, if◌then◌else◌}
use Rattle.std.specs.List.{count_by}
use Rattle.mea_marks.specs.declared.mark.Mark.{Mark}
use Rattle.mea_marks.specs.declared.mark.Mark.TheVariants as marks
use Rattle.mea_marks.specs.declared.row.Stage.{Stage}
use Rattle.mea_marks.specs.declared.thing.Thing.{Thing}
use Rattle.mea_marks.specs.Deeds.{deed_of}
use Rattle.mea_marks.specs.Events.{told_of}
use Rattle.mea_marks.specs.Laws.{Told, stage_before, stage_of}
use Rattle.mea_marks.specs.Marks.{is_woken}
use Rattle.mea_marks.specs.Rows.{same, waits_at}
use Rattle.mea_marks.specs.Script.{Steps, shown_of, marks_of}

-- ---- what is drawn

-- an arrow of this event, for this waker, to this thing
abbrev pub is_arrow : ℕ → ℕ → Thing → Mark → Bool
is_arrow n w x (marks.Arrow m v y) = (v == w) && ((m == n) && same y x)
is_arrow n w x _ = false

-- a mark that this event makes this waker ready, with which nothing waits
abbrev pub is_stray : ℕ → ℕ → Mark → Bool
is_stray n w (marks.Stray m v) = (v == w) && (m == n)
is_stray n w _ = false

-- ---- what was told

-- it waits, and with this waker
abbrev pub waits_by : ℕ → Option Stage → Bool
waits_by w (Some g) = waits_at w g
waits_by w None = false

-- an event that was told after these older ones wakes a thing: it makes a waker ready, and the thing waits with that waker
abbrev pub wakes_by : Told → List Told → ℕ → Thing → Bool
wakes_by t older w x = is_woken w t.wakes && waits_by w (stage_before t.number (deed_of t.event) x (stage_of older x))

-- the event of this number does
abbrev pub wakes_told : List Told → ℕ → ℕ → Thing → Bool
wakes_told [] n w x = false
wakes_told (t ∷ older) n w x = if t.number == n then wakes_by t older w x else wakes_told older n w x

-- how often the event of this number makes a waker ready
abbrev pub times_told : List Told → ℕ → ℕ → ℕ
times_told [] n w = 0
times_told (t ∷ older) n w = if t.number == n then count_by (λ v. v == w) t.wakes else times_told older n w

-- ---- both are one

-- what a picture of a script shows of wakes
pub record ShowsWakes {State : Type 0} (steps : Steps State) (s : State) (script : List ℕ) : Type 0 where
  -- of each event, for each waker, to each thing: one arrow where that event wakes that thing by that waker, and else none
  pub arrows : (n w : ℕ) (x : Thing) → count_by (is_arrow n w x) (marks_of (shown_of steps s script)) ≡ (if wakes_told (told_of steps s script) n w x then 1 else 0)
  -- a waker by which an event wakes nothing is marked as often as it is made ready
  pub strays : (n w : ℕ) → ((x : Thing) → wakes_told (told_of steps s script) n w x ≡ false)
      → count_by (is_stray n w) (marks_of (shown_of steps s script)) ≡ times_told (told_of steps s script) n w
  -- and one by which it wakes a thing is not
  pub none : (n w : ℕ) (x : Thing) → wakes_told (told_of steps s script) n w x ≡ true → count_by (is_stray n w) (marks_of (shown_of steps s script)) ≡ 0
