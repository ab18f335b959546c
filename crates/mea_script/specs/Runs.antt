-- what a run answers and writes
use Rattle.std.specs.Prelude.{◌≡◌, ◌≢◌, ◌⊎◌, ◌≤◌, ◌++◌, ℕ, List, Option, Some, None, length}
use Rattle.mea_io.specs.Bytes.{HasWritten, HasWrittenPart}
use Rattle.mea_family.specs.declared.stop.Stop.{Stop}
use Rattle.mea_family.specs.declared.stop.Stop.TheVariants as stops
use Rattle.mea_script.specs.declared.status.Status.{Status}
use Rattle.mea_script.specs.declared.status.Status.TheVariants as statuses
use Rattle.mea_script.specs.Lines.{lines_ended}
use Rattle.mea_script.specs.Rules.{Rules}
use Rattle.mea_script.specs.Told.{Told}

-- the status that a program ends with, as a number
abbrev pub code_of : Status → ℕ
code_of statuses.Done = 0
code_of (statuses.Stopped at cause) = 1
code_of (statuses.BadLine at) = 2
code_of statuses.TooLong = 3
code_of statuses.ReadFault = 4
code_of statuses.WriteFault = 5
code_of statuses.NoMemory = 6
code_of statuses.Usage = 7

-- a read or a write failed, or there was no memory
abbrev pub IsFault : Status → Type 0
IsFault status = (status ≡ statuses.ReadFault) ⊎ ((status ≡ statuses.WriteFault) ⊎ (status ≡ statuses.NoMemory))

-- a write failed, or there was no memory
abbrev pub IsWriteFault : Status → Type 0
IsWriteFault status = (status ≡ statuses.WriteFault) ⊎ (status ≡ statuses.NoMemory)

-- an event has this cause for refusal in some state
abbrev pub IsCause : {State Event : Type 0} → Rules State Event → Stop → Type 0
IsCause {State} {Event} rules stop = (s : State) × (e : Event) × (rules.cause s e ≡ Some stop)

-- what is told is answered whole, with its status
abbrev pub Answers : Told → Status → List ℕ → Option (List ℕ) → Type 0
Answers told status before taken = (status ≡ told.status) × HasWritten told.text before taken

-- or a fault is told after a front of the text
abbrev pub Tells : Told → Status → List ℕ → Option (List ℕ) → Type 0
Tells told status before taken = (IsFault status × HasWrittenPart told.text before taken) ⊎ Answers told status before taken

-- a run that ends so with a text writes it whole, or tells a fault after a front of it
abbrev pub IsClosed : List ℕ → Status → Status → List ℕ → Option (List ℕ) → Type 0
IsClosed text status result before taken = (IsWriteFault result × HasWrittenPart text before taken) ⊎ ((result ≡ status) × HasWritten text before taken)

-- the number of the line that ended a text as refused or bad
abbrev pub line_of : Status → Option ℕ
line_of statuses.Done = None
line_of (statuses.Stopped at cause) = Some at
line_of (statuses.BadLine at) = Some at
line_of statuses.TooLong = None
line_of statuses.ReadFault = None
line_of statuses.WriteFault = None
line_of statuses.NoMemory = None
line_of statuses.Usage = None

-- a script was taken up to what is left of it: line n had not ended before the last piece was taken
pub record IsTakenTo (n : ℕ) (script left : List ℕ) : Type 0 where
  pub before : List ℕ
  pub piece : List ℕ
  pub whole : script ≡ before ++ (piece ++ left)
  pub small : length piece ≤ 65536
  pub unended : lines_ended before ≤ n

-- the statuses of a script that is played: none is wrong use, and where a line was refused, an event has its cause, which
-- is not want of memory
pub record IsOfRules {State Event : Type 0} (rules : Rules State Event) (status : Status) : Type 0 where
  pub no_usage : status ≢ statuses.Usage
  pub memory : (at : ℕ) → status ≢ statuses.Stopped at stops.NoMemory
  pub caused : (at : ℕ) (stop : Stop) → status ≡ statuses.Stopped at stop → IsCause rules stop
