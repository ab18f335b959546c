-- what is told of the events that are shown
use Rattle.std.proofs.Common.{◌≡◌, ℕ, ◌+◌, Bool, true, false, List, [], ◌∷◌, Option, Some, None, refl, ap, ◌∙◌, arith, if◌then◌else◌}
use Rattle.std.specs.List.{count_by}
use Rattle.mea_family.specs.declared.stop.Stop.{Stop}
use Rattle.mea_events.specs.declared.event.Event.{Event}
use Rattle.mea_lines.specs.Lines.{event_of}
use Rattle.mea_script.specs.Lines.{is_long, lines_of}
use Rattle.mea_marks.specs.declared.ending.Ending.TheVariants.{TooGreat}
use Rattle.mea_marks.specs.Events.{told, told_at, told_line, told_from, told_of, ShowsStages}
use Rattle.mea_marks.specs.Laws.{Told, board_told, stage_in}
use Rattle.mea_marks.specs.Marks.{Board}
use Rattle.mea_marks.specs.Script.{Steps, Shown, ended, is_great, shown_at, shown_line, shown_from, shown_of, marks_of}
use Rattle.mea_marks.specs.declared.mark.Mark.{Mark}
use Rattle.mea_marks.specs.Wakes.{is_arrow, is_stray, ShowsWakes}
use Rattle.mea_marks.proofs.Rows.{rows_tell}
use Rattle.mea_marks.proofs.Tallies.{how_many, counted, is_wake, in_whole}
use Rattle.mea_marks.proofs.Wakes.{AreBelow, no_arrow, no_stray, arrows_told, strays_marked, none_marked}

module _ {State : Type 0} (steps : Steps State) where
  on_told : (great : Bool) (ts rest : List Told) (n : ℕ) (shown : Shown) → shown.board ≡ board_told rest
      → (if great then ended (board_told ts) TooGreat n else shown).board ≡ board_told (if great then ts else rest)
  on_told true ts rest n shown is = refl
  on_told false ts rest n shown is = is

  at_told : (c : Option Stop) (ts rest : List Told) (n : ℕ) (t : Told) (shown : Shown) → shown.board ≡ board_told rest
      → (shown_at c (board_told ts) n (board_told (t ∷ ts)) shown).board ≡ board_told (told_at steps c ts n t rest)
  at_told (Some stop) ts rest n t shown is = refl
  at_told None ts rest n t shown is = on_told (is_great (board_told (t ∷ ts)) (n + 1)) (t ∷ ts) rest (n + 1) shown is

  of_line : (long : Bool) (lines : List (List ℕ)) (s : State) (ts : List Told) (n : ℕ) (e : Option Event)
      → ((t : State) (us : List Told) → (shown_from steps long t (board_told us) (n + 1) lines).board ≡ board_told (told_from steps t us (n + 1) lines))
      → (shown_line steps s (board_told ts) n e (λ t after. shown_from steps long t after (n + 1) lines)).board
      ≡ board_told (told_line steps s ts n e (λ t us. told_from steps t us (n + 1) lines))
  of_line long lines s ts n None later = refl
  of_line long lines s ts n (Some e) later =
      at_told (steps.cause s e) ts (told_from steps (steps.next s n e) (told steps s n e ∷ ts) (n + 1) lines) n (told steps s n e)
      (shown_from steps long (steps.next s n e) (board_told (told steps s n e ∷ ts)) (n + 1) lines)
      (later (steps.next s n e) (told steps s n e ∷ ts))

  board_from : (long : Bool) (lines : List (List ℕ)) (s : State) (ts : List Told) (n : ℕ)
      → (shown_from steps long s (board_told ts) n lines).board ≡ board_told (told_from steps s ts n lines)
  board_from long [] s ts n = refl
  board_from long (line ∷ lines) s ts n = of_line long lines s ts n (event_of line) (λ t us. board_from long lines t us (n + 1))

  -- the board of a script is that of the events that are told
  pub board_is_told : (s : State) (script : List ℕ) → (shown_of steps s script).board ≡ board_told (told_of steps s script)
  unfolding shown_of told_of
  board_is_told s script = board_from (is_long script) (lines_of script) s [] 0

  -- and its rows show how far each thing has come
  pub shows_stages : (s : State) (script : List ℕ) → ShowsStages steps s script
  shows_stages s script x = ap (λ (b : Board). stage_in b.rows x) (board_is_told s script) ∙ rows_tell (told_of steps s script) x

  -- ---- and its marks show whom each event wakes

  on_below : (great : Bool) (ts rest : List Told) (n : ℕ) → AreBelow n ts → (bound : ℕ) × AreBelow bound rest → (bound : ℕ) × AreBelow bound (if great then ts else rest)
  on_below true ts rest n below later = (n, below)
  on_below false ts rest n below later = later

  at_below : (c : Option Stop) (ts rest : List Told) (n : ℕ) (t : Told) → AreBelow n ts → AreBelow (n + 1) (t ∷ ts) → (bound : ℕ) × AreBelow bound rest
      → (bound : ℕ) × AreBelow bound (told_at steps c ts n t rest)
  at_below (Some stop) ts rest n t below more later = (n, below)
  at_below None ts rest n t below more later = on_below (is_great (board_told (t ∷ ts)) (n + 1)) (t ∷ ts) rest (n + 1) more later

  line_below : (lines : List (List ℕ)) (s : State) (ts : List Told) (n : ℕ) (e : Option Event) → AreBelow n ts
      → ((t : State) (us : List Told) → AreBelow (n + 1) us → (bound : ℕ) × AreBelow bound (told_from steps t us (n + 1) lines))
      → (bound : ℕ) × AreBelow bound (told_line steps s ts n e (λ t us. told_from steps t us (n + 1) lines))
  line_below lines s ts n None below later = (n, below)
  line_below lines s ts n (Some e) below later =
      let more : AreBelow (n + 1) (told steps s n e ∷ ts) = (omega arith, below) in
      at_below (steps.cause s e) ts (told_from steps (steps.next s n e) (told steps s n e ∷ ts) (n + 1) lines) n (told steps s n e) below more
      (later (steps.next s n e) (told steps s n e ∷ ts) more)

  below_from : (lines : List (List ℕ)) (s : State) (ts : List Told) (n : ℕ) → AreBelow n ts → (bound : ℕ) × AreBelow bound (told_from steps s ts n lines)
  below_from [] s ts n below = (n, below)
  below_from (line ∷ lines) s ts n below = line_below lines s ts n (event_of line) below (λ t us later. below_from lines t us (n + 1) later)

  told_below : (s : State) (script : List ℕ) → (bound : ℕ) × AreBelow bound (told_of steps s script)
  unfolding told_of
  told_below s script = below_from (lines_of script) s [] 0 tt

  -- what a test of marks finds that passes marks of wakes alone
  found : (s : State) (script : List ℕ) (p : Mark → Bool) → ((m : Mark) → is_wake m ≡ false → p m ≡ false)
      → count_by p (marks_of (shown_of steps s script)) ≡ how_many p (board_told (told_of steps s script)).marks
  found s script p others =
      counted p (marks_of (shown_of steps s script)) ∙ in_whole p others (shown_of steps s script) ∙ ap (λ (b : Board). how_many p b.marks) (board_is_told s script)

  pub shows_wakes : (s : State) (script : List ℕ) → ShowsWakes steps s script
  shows_wakes s script =
      let ts : List Told = told_of steps s script in
      let below = told_below s script in
      record {
        arrows = λ n w x. found s script (is_arrow n w x) (no_arrow n w x) ∙ arrows_told n w x below.0 ts below.1;
        strays = λ n w none. found s script (is_stray n w) (no_stray n w) ∙ strays_marked n w below.0 ts below.1 none;
        none = λ n w x is. found s script (is_stray n w) (no_stray n w) ∙ none_marked n w below.0 ts below.1 x is;
      }
