-- what a run answers and writes
use Rattle.std.specs.Prelude.{◌≡◌, ◌⊎◌, ◌<◌, ◌≤◌, ◌^◌, ℕ, List, [], ◌∷◌, Option, codes}
use Rattle.std.specs.Fmt.{decimal}
use Rattle.mea_io.specs.Bytes.{HasWritten, HasWrittenPart}
use Rattle.mea_script.specs.declared.status.Status.{Status}
use Rattle.mea_script.specs.declared.status.Status.TheVariants as statuses
use Rattle.mea_run.specs.Script.{text_of, status_of}
use Rattle.mea_run.specs.Generated.{summary_of}
pub use Rattle.mea_script.specs.Runs.{IsFault, IsWriteFault, IsTakenTo, line_of}

-- the one word `play`
abbrev pub IsPlay : List (List ℕ) → Type 0
IsPlay words = words ≡ codes "play" ∷ []

-- the word `make` with a seed and a number of rounds in range, which are spelled as numbers of a line are
abbrev pub IsMake : List (List ℕ) → ℕ → ℕ → Type 0
IsMake words seed rounds = (words ≡ codes "make" ∷ decimal seed ∷ decimal rounds ∷ []) × (seed < 2 ^ 64) × (rounds ≤ 300000)

-- the words of one of the two commands
abbrev pub IsCommand : List (List ℕ) → Type 0
IsCommand words = IsPlay words ⊎ ((seed : ℕ) × (rounds : ℕ) × IsMake words seed rounds)

-- a script is answered its status and its whole text
abbrev pub IsAnswered : List ℕ → Status → List ℕ → Option (List ℕ) → Type 0
IsAnswered script status before taken = (status ≡ status_of script) × HasWritten (text_of script) before taken

-- a script is answered, or a fault is told after a front of its text
abbrev pub IsTold : List ℕ → Status → List ℕ → Option (List ℕ) → Type 0
IsTold script status before taken = (IsFault status × HasWrittenPart (text_of script) before taken) ⊎ IsAnswered script status before taken

-- a generated script is played, and its summary is written whole
abbrev pub IsSummarized : ℕ → ℕ → Status → List ℕ → Option (List ℕ) → Type 0
IsSummarized seed rounds status before taken = (status ≡ statuses.Done) × HasWritten (summary_of seed rounds) before taken

-- or a fault is told after a front of its summary
abbrev pub IsMade : ℕ → ℕ → Status → List ℕ → Option (List ℕ) → Type 0
IsMade seed rounds status before taken = (IsWriteFault status × HasWrittenPart (summary_of seed rounds) before taken) ⊎ IsSummarized seed rounds status before taken
