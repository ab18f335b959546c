-- what the program over a named semaphore reads and writes
use Rattle.std.specs.Prelude.{ℕ, ◌≡◌, ◌≤◌, ◌++◌, List, [], ◌∷◌, codes}
use Rattle.std.specs.Fmt.{decimal}
use Rattle.mea_text.specs.Text.{counted_line}
use Rattle.mea_named_run.specs.declared.counts.Counts.{Counts}
use Rattle.mea_named_run.specs.declared.status.NamedStatus.{NamedStatus}
use Rattle.mea_named_run.specs.declared.status.NamedStatus.TheVariants as statuses
use Rattle.mea_named_run.specs.declared.fault.Fault.{Fault}
use Rattle.mea_named_run.specs.declared.fault.Fault.TheVariants as faults

-- the code with which the program ends
abbrev pub code_of : NamedStatus → ℕ
code_of statuses.Done = 0
code_of statuses.WriteFault = 5
code_of statuses.NoMemory = 6
code_of statuses.Usage = 7
code_of (statuses.Missing m) = 8

-- the status that tells of a fault
abbrev pub status_of : Fault → NamedStatus
status_of faults.NoMemory = statuses.NoMemory
status_of (faults.Missing m) = statuses.Missing m

-- three lines: what was kept, what is held, and what is free
abbrev pub text_of : Counts → List ℕ
text_of c = counted_line (codes "kept") c.kept ++ counted_line (codes "held") c.held ++ counted_line (codes "free") c.free

-- the words are `named` and two numbers in range
abbrev pub IsNamed : List (List ℕ) → ℕ → ℕ → Type 0
IsNamed words workers rounds = (words ≡ codes "named" ∷ decimal workers ∷ decimal rounds ∷ []) × (1 ≤ workers) × (workers ≤ 8) × (rounds ≤ 10000)

abbrev pub IsCommand : List (List ℕ) → Type 0
IsCommand words = (workers : ℕ) × (rounds : ℕ) × IsNamed words workers rounds
