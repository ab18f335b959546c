-- what holds of each event of a script
use Rattle.std.specs.Prelude.{ℕ, ◌+◌, List, [], ◌∷◌, Option, Some, None}
use Rattle.mea_family.specs.declared.stop.Stop.{Stop}
use Rattle.mea_script.specs.Lines.{lines_of}
use Rattle.mea_script.specs.Rules.{Rules, event_at}

-- an event that is refused is not played
abbrev pub WherePlayed : Option Stop → Type 0 → Type 0
WherePlayed (Some stop) Holds = Unit {0}
WherePlayed None Holds = Holds

module _ {State Event : Type 0} (P : State → ℕ → Event → State → Type 0) (rules : Rules State Event) where
  -- it holds of the event that line number n stands for, if it stands for one, and then of the rest after it
  abbrev pub HoldsOfLine : State → ℕ → Option Event → (State → Type 0) → Type 0
  HoldsOfLine s n None Rest = Unit {0}
  HoldsOfLine s n (Some e) Rest = WherePlayed (rules.cause s e) (P s n e (rules.next s n e) × Rest (rules.next s n e))

  -- so it holds of each event that is played of these lines, after n lines: of the state before it, its number, itself, and the
  -- state after it
  abbrev pub HoldsOfLines : State → ℕ → List (List ℕ) → Type 0
  HoldsOfLines s n [] = Unit {0}
  HoldsOfLines s n (line ∷ lines) = HoldsOfLine s n (event_at rules s line) (λ after. HoldsOfLines after (n + 1) lines)

  -- of each event of a script
  unfoldable pub HoldsOfScript : State → List ℕ → Type 0
  HoldsOfScript s script = HoldsOfLines s 0 (lines_of script)
