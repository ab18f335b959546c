-- what a source gives and a sink takes
use Rattle.std.specs.Prelude.{◌≡◌, ◌<◌, ◌≤◌, ◌⊎◌, ℕ, List, [], ◌++◌, Option, Some, None, length, take, drop}

-- a count of faults rose, or stands at its end
abbrev pub Rose : ℕ → ℕ → Type 0
Rose old new = (old < new) ⊎ (new ≡ 18446744073709551615)

-- the first k bytes of what was left are in the buffer now, and there are none only where nothing was left
abbrev pub Takes : Option (List ℕ) → Option (List ℕ) → List ℕ → ℕ → Type 0
Takes None new buffer k = Unit {0}
Takes (Some bytes) new buffer k = (new ≡ Some (drop k bytes)) × (take k buffer ≡ take k bytes) × (k ≤ length bytes) × (0 < length buffer → k ≡ 0 → bytes ≡ [])

-- the first k bytes of the piece were taken
abbrev pub Puts : Option (List ℕ) → Option (List ℕ) → List ℕ → ℕ → Type 0
Puts None new piece k = Unit {0}
Puts (Some before) new piece k = new ≡ Some (before ++ take k piece)

-- a sink that had taken `before` has taken all of a text now
abbrev pub HasWritten : List ℕ → List ℕ → Option (List ℕ) → Type 0
HasWritten text before taken = taken ≡ Some (before ++ text)

-- a sink that had taken `before` has taken the front of a text now
abbrev pub HasWrittenPart : List ℕ → List ℕ → Option (List ℕ) → Type 0
HasWrittenPart text before taken = (written : List ℕ) × (rest : List ℕ) × (text ≡ written ++ rest) × HasWritten written before taken
