-- what each event keeps holds of a script, and two machines that go together tell the same of it
use Rattle.std.proofs.Common.{◌≡◌, ℕ, ◌+◌, Bool, true, false, List, [], ◌∷◌, nat_lt, length, Option, Some, None, if◌then◌else◌, refl, ap, ◌∙◌}
use Rattle.mea_family.specs.declared.stop.Stop.{Stop}
use Rattle.mea_script.specs.Lines.{is_long, lines_of}
use Rattle.mea_script.specs.Rules.{Rules, event_at}
use Rattle.mea_script.specs.Told.{Told, ending, with_text, told_at, told_line, told_end, told_from, told_by}
use Rattle.mea_script.specs.Events.{WherePlayed, HoldsOfLine, HoldsOfLines, HoldsOfScript}

module _ {State Event : Type 0} (P : State → ℕ → Event → State → Type 0) (rules : Rules State Event) (Keeps : State → ℕ → Type 0)
    (holds : (s : State) (n : ℕ) (e : Event) → Keeps s n → P s n e (rules.next s n e)) (keeps : (s : State) (n : ℕ) (e : Event) → Keeps s n → Keeps (rules.next s n e) (n + 1)) where
  played : (o : Option Stop) (Holds : Type 0) → Holds → WherePlayed o Holds
  played None Holds h = h
  played (Some stop) Holds h = tt

  of_line : (s : State) (n : ℕ) (o : Option Event) (Rest : State → Type 0) → Keeps s n → ((after : State) → Keeps after (n + 1) → Rest after) → HoldsOfLine P rules s n o Rest
  of_line s n None Rest kept rest = tt
  of_line s n (Some e) Rest kept rest = played (rules.cause s e) _ (holds s n e kept, rest (rules.next s n e) (keeps s n e kept))

  of_lines : (lines : List (List ℕ)) (s : State) (n : ℕ) → Keeps s n → HoldsOfLines P rules s n lines
  of_lines [] s n kept = tt
  of_lines (line ∷ lines) s n kept = of_line s n (event_at rules s line) (λ after. HoldsOfLines P rules after (n + 1) lines) kept (λ after. of_lines lines after (n + 1))

  -- what holds of each event of a state that is kept holds of a script
  pub of_script : (s : State) → Keeps s 0 → (script : List ℕ) → HoldsOfScript P rules s script
  unfolding HoldsOfScript
  of_script s kept script = of_lines (lines_of script) s 0 kept

-- ---- a machine whose states stand for those of another
module _ {State Other Event : Type 0} (rules : Rules State Event) (others : Rules Other Event) (stands : State → Other) (Keeps : State → ℕ → Type 0) where
  -- what the one makes of a line, the other makes of it too
  pub record AreAlike : Type 0 where
    pub event : (s : State) (line : List ℕ) → rules.event s line ≡ others.event (stands s) line
    pub cause : (s : State) (e : Event) → rules.cause s e ≡ others.cause (stands s) e
    pub reply : (s : State) (n : ℕ) (e : Event) → Keeps s n → rules.reply s n e ≡ others.reply (stands s) n e
    pub next : (s : State) (n : ℕ) (e : Event) → Keeps s n → stands (rules.next s n e) ≡ others.next (stands s) n e
    pub last : (s : State) (n : ℕ) → rules.last s n ≡ others.last (stands s) n
    pub keeps : (s : State) (n : ℕ) (e : Event) → Keeps s n → Keeps (rules.next s n e) (n + 1)

  module _ (alike : AreAlike) where
    same_event : (s : State) (line : List ℕ) → event_at rules s line ≡ event_at others (stands s) line
    same_event s line = ap (λ o. if nat_lt 96 (length line) then None else o) (alike.event s line)

    same_end : (long : Bool) (s : State) (n : ℕ) → told_end rules long s n ≡ told_end others long (stands s) n
    same_end true s n = refl
    same_end false s n = ap (λ text. with_text text (ending None false false n)) (alike.last s n)

    same_line : (s : State) (n : ℕ) → Keeps s n → (o : Option Event) (rest : State → Told) (later : Other → Told) → ((after : State) → Keeps after (n + 1) → rest after ≡ later (stands after))
        → told_line rules s n o rest ≡ told_line others (stands s) n o later
    same_line s n kept None rest later same = refl
    same_line s n kept (Some e) rest later same =
        (λ i. told_at (alike.cause s e i) n (alike.reply s n e kept i) ((same (rules.next s n e) (alike.keeps s n e kept) ∙ ap later (alike.next s n e kept)) i))

    same_lines : (long : Bool) (lines : List (List ℕ)) (s : State) (n : ℕ) → Keeps s n → told_from rules long s n lines ≡ told_from others long (stands s) n lines
    same_lines long [] s n kept = same_end long s n
    same_lines long (line ∷ lines) s n kept =
        same_line s n kept (event_at rules s line) (λ after. told_from rules long after (n + 1) lines) (λ after. told_from others long after (n + 1) lines)
        (λ after. same_lines long lines after (n + 1))
        ∙ ap (λ o. told_line others (stands s) n o (λ after. told_from others long after (n + 1) lines)) (same_event s line)

    -- the two tell the same of a script
    pub same_told : (s : State) → Keeps s 0 → (script : List ℕ) → told_by rules s script ≡ told_by others (stands s) script
    unfolding told_by
    same_told s kept script = same_lines (is_long script) (lines_of script) s 0 kept
