-- what a player has still to tell
use Rattle.std.specs.Prelude.{◌≡◌, ◌≢◌, ◌⊎◌, ◌++◌, ℕ, Bool, List, [], Option, Some, length, take, nat_lt}
use Rattle.mea_script.specs.declared.player.Player.{Player}
use Rattle.mea_script.specs.declared.status.Status.{Status}
use Rattle.mea_script.specs.declared.status.Status.TheVariants as statuses
use Rattle.mea_script.specs.Lines.{lines_in}
use Rattle.mea_script.specs.Rules.{Rules}
use Rattle.mea_script.specs.Runs.{IsFault}
use Rattle.mea_script.specs.Told.{Told, with_text, told_from}

-- what is left of a script, of whose bytes so many count, as lines
abbrev pub lines_left : ℕ → List ℕ → List (List ℕ)
lines_left room bytes = lines_in (nat_lt room (length bytes)) (take room bytes)

-- what is told of it from this state on, after n lines
unfoldable pub told_of : {State Event : Type 0} → Rules State Event → State → ℕ → ℕ → List ℕ → Told
told_of rules s n room bytes = told_from rules (nat_lt room (length bytes)) s n (lines_left room bytes)

-- what a player on a machine in this state has not yet written, and then what is told of the lines that are left
abbrev pub due_from : {State Event : Type 0} → Rules State Event → State → Player → Bool → List (List ℕ) → Told
due_from rules s player long lines = with_text player.text.items (told_from rules long s player.lines lines)

-- the same of bytes that are left, of which so many count
abbrev pub due : {State Event : Type 0} → Rules State Event → State → Player → ℕ → List ℕ → Told
due rules s player room bytes = with_text player.text.items (told_of rules s player.lines room bytes)

-- the statuses that no fault of a source or a sink gives
pub record IsNoTransfer (status : Status) : Type 0 where
  pub no_read_fault : status ≢ statuses.ReadFault
  pub no_write_fault : status ≢ statuses.WriteFault

-- ---- what was told and written meanwhile

-- a script that went on: what was to be told is what was written, and then what is to be told now
pub record GoesOn (old new : Told) (old_taken new_taken : Option (List ℕ)) : Type 0 where
  pub written : List ℕ
  pub taken : (before : List ℕ) → old_taken ≡ Some before → new_taken ≡ Some (before ++ written)
  pub told : old ≡ with_text written new

-- a script that ended: a text that is not yet written is what was to be told, or is a front of it at a fault
pub record Stops (status : Status) (told : Told) (text : List ℕ) : Type 0 where
  pub rest : List ℕ
  pub front : told.text ≡ text ++ rest
  pub ended : IsFault status ⊎ ((rest ≡ []) × (status ≡ told.status))

-- the same, where a sink that had taken `before` has taken some of the text
pub record Ends (status : Status) (whole before : List ℕ) (taken : Option (List ℕ)) (text : List ℕ) : Type 0 where
  pub written : List ℕ
  pub rest : List ℕ
  pub took : taken ≡ Some (before ++ written)
  pub front : whole ≡ written ++ (text ++ rest)
  pub ended : IsFault status ⊎ (rest ≡ [])
