-- the drawing of a script ends as its playing does, where there is not too much
use Rattle.std.proofs.Common.{◌≡◌, inl, inr, ℕ, ◌+◌, Bool, true, false, cond, List, [], ◌∷◌, length, nat_lt, Option, Some, None, refl, subst}
use Rattle.std.proofs.lemmas.Bool.{ltb-true}
use Rattle.mea_family.specs.declared.stop.Stop.{Stop}
use Rattle.mea_events.specs.declared.event.Event.{Event}
use Rattle.mea_lines.specs.Lines.{event_of}
use Rattle.mea_lines.proofs.Lengths.{long_is_no_event}
use Rattle.mea_script.specs.Lines.{is_long, lines_of}
use Rattle.mea_script.specs.Rules.{Rules, event_at}
use Rattle.mea_script.specs.Told.{Told, with_text, told_at, told_line, told_from, told_by}
use Rattle.mea_marks.specs.declared.ending.Ending.TheVariants.{TooGreat}
use Rattle.mea_marks.specs.Marks.{Board, board_after, empty_board}
use Rattle.mea_marks.specs.Script.{Steps, Shown, ended, is_great, shown_at, shown_line, shown_from, shown_of}
use Rattle.mea_picture.specs.Drawing.{EndsAlike, rules_of}

limited : (is_long : Bool) (o : Option Event) → (is_long ≡ true → o ≡ None) → o ≡ cond is_long None o
limited true o none = none refl
limited false o none = refl

module _ {State : Type 0} (steps : Steps State) (reply : State → ℕ → Event → List ℕ) (last : State → ℕ → List ℕ) where
  abbrev rules : Rules State Event
  rules = rules_of steps reply last

  event_in_limit : (s : State) (line : List ℕ) → event_of line ≡ event_at rules s line
  event_in_limit s line = limited (nat_lt 96 (length line)) (event_of line) (λ is. long_is_no_event line (ltb-true 96 (length line) is))

  on_alike : (great : Bool) (b : Board) (n : ℕ) (text : List ℕ) (shown : Shown) (told : Told) → EndsAlike shown told.status
      → EndsAlike (cond great (ended b TooGreat n) shown) (with_text text told).status
  on_alike true b n text shown told is = inl refl
  on_alike false b n text shown told is = is

  at_alike : (c : Option Stop) (b after : Board) (n : ℕ) (text : List ℕ) (shown : Shown) (told : Told) → EndsAlike shown told.status
      → EndsAlike (shown_at c b n after shown) (told_at c n text told).status
  at_alike (Some stop) b after n text shown told is = inr refl
  at_alike None b after n text shown told is = on_alike (is_great after (n + 1)) after (n + 1) text shown told is

  line_alike : (long : Bool) (lines : List (List ℕ)) (s : State) (b : Board) (n : ℕ) (e : Option Event)
      → ((t : State) (c : Board) → EndsAlike (shown_from steps long t c (n + 1) lines) (told_from rules long t (n + 1) lines).status)
      → EndsAlike (shown_line steps s b n e (λ t c. shown_from steps long t c (n + 1) lines)) (told_line rules s n e (λ t. told_from rules long t (n + 1) lines)).status
  line_alike long lines s b n None later = inr refl
  line_alike long lines s b n (Some e) later =
      let after : Board = board_after b n e (steps.reply s n e).0 (steps.reply s n e).1 in
      at_alike (steps.cause s e) b after n (reply s n e) (shown_from steps long (steps.next s n e) after (n + 1) lines)
      (told_from rules long (steps.next s n e) (n + 1) lines) (later (steps.next s n e) after)

  from_alike : (long : Bool) (lines : List (List ℕ)) (s : State) (b : Board) (n : ℕ)
      → EndsAlike (shown_from steps long s b n lines) (told_from rules long s n lines).status
  from_alike true [] s b n = inr refl
  from_alike false [] s b n = inr refl
  from_alike long (line ∷ lines) s b n =
      subst (λ (e : Option Event). EndsAlike (shown_line steps s b n (event_of line) (λ t c. shown_from steps long t c (n + 1) lines)) (told_line rules s n e (λ t. told_from rules long t (n + 1) lines)).status)
      (event_in_limit s line)
      (line_alike long lines s b n (event_of line) (λ t c. from_alike long lines t c (n + 1)))

  pub ends_alike : (s : State) (script : List ℕ) → EndsAlike (shown_of steps s script) (told_by rules s script).status
  unfolding shown_of told_by
  ends_alike s script = from_alike (is_long script) (lines_of script) s empty_board 0
