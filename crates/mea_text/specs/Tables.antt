-- tables of lines: which word with which numbers stands for which event
use Rattle.std.specs.Prelude.{ℕ, List, [], ◌∷◌, Option, Some, None, if◌then◌else◌}
use Rattle.std.specs.Str.{bytes_eq}
use Rattle.mea_text.specs.declared.numbers.Numbers.{Numbers}
use Rattle.mea_text.specs.declared.numbers.Numbers.TheVariants.{Bare, One, Two, Three}
use Rattle.mea_text.specs.Number.{count_of}
use Rattle.mea_text.specs.Words.{◌>>=◌}

-- a word, with no number after it or with so many, the last of which may be a count, and its event
pub data Line (E : Type 0) : Type 0 where
  alone : List ℕ → E → Line E
  one : List ℕ → (ℕ → E) → Line E
  two : List ℕ → (ℕ → ℕ → E) → Line E
  three : List ℕ → (ℕ → ℕ → ℕ → E) → Line E
  count : List ℕ → (ℕ → E) → Line E
  number_and_count : List ℕ → (ℕ → ℕ → E) → Line E

-- the event of a line where the word and the numbers are its own, and else what another gives
abbrev pub of_line : {E : Type 0} → Line E → List ℕ → Numbers → Option E → Option E
of_line (alone own event) word Bare other = if bytes_eq word own then Some event else other
of_line (one own event) word (One a) other = if bytes_eq word own then Some (event a) else other
of_line (two own event) word (Two a b) other = if bytes_eq word own then Some (event a b) else other
of_line (three own event) word (Three a b d) other = if bytes_eq word own then Some (event a b d) else other
of_line (count own event) word (One a) other = if bytes_eq word own then (count_of a >>= (λ n. Some (event n))) else other
of_line (number_and_count own event) word (Two a b) other = if bytes_eq word own then (count_of b >>= (λ n. Some (event a n))) else other
of_line _ word numbers other = other

-- the event of the line that has this word and so many numbers
abbrev pub of_table : {E : Type 0} → List (Line E) → List ℕ → Numbers → Option E
of_table [] word numbers = None
of_table (line ∷ lines) word numbers = of_line line word numbers (of_table lines word numbers)
