-- the lines of a script
use Rattle.std.specs.Prelude.{ℕ, ◌==◌, ◌≤◌, Bool, true, false, List, [], ◌∷◌, length, take, nat_lt, sum_by, if◌then◌else◌}
use Rattle.std.specs.List.{slice_split, position_or_len}

-- how many bytes of a script count
abbrev pub limit : ℕ
limit = 16777216

-- a script has more
abbrev pub is_long : List ℕ → Bool
is_long bytes = nat_lt limit (length bytes)

-- the last piece is a line if it is not empty, unless the text was cut there
abbrev pub last_line : Bool → List ℕ → List (List ℕ)
last_line true piece = []
last_line false piece = if length piece == 0 then [] else piece ∷ []

-- the lines among the pieces between newlines
abbrev pub lines_among : Bool → List (List ℕ) → List (List ℕ)
lines_among was_cut [] = []
lines_among was_cut (piece ∷ []) = last_line was_cut piece
lines_among was_cut (piece ∷ next ∷ pieces) = piece ∷ lines_among was_cut (next ∷ pieces)

-- the lines of a text, whose last piece may have been cut
abbrev pub lines_in : Bool → List ℕ → List (List ℕ)
lines_in was_cut text = lines_among was_cut (slice_split (λ b. b == 10) text)

-- the lines of a script: those among its first bytes, as many as count
abbrev pub lines_of : List ℕ → List (List ℕ)
lines_of script = lines_in (is_long script) (take limit script)

-- no byte of a line is a newline
abbrev pub IsUnended : List ℕ → Type 0
IsUnended line = length line ≤ position_or_len (λ b. b == 10) line

-- how many lines end in these bytes
abbrev pub lines_ended : List ℕ → ℕ
lines_ended bytes = sum_by (λ b. if b == 10 then 1 else 0) bytes
