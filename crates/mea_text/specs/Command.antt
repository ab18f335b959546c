-- the words of a command: a name and its numbers
use Rattle.std.specs.Prelude.{◌≡◌, ◌<◌, ◌^◌, ℕ, List, [], ◌∷◌, Option, Some, None, map, if◌then◌else◌}
use Rattle.std.specs.Fmt.{decimal}
use Rattle.std.specs.Str.{bytes_eq}
use Rattle.mea_text.specs.declared.numbers.Numbers.{Numbers}
use Rattle.mea_text.specs.declared.numbers.Numbers.TheVariants.{Bare, One, Two, Three}
use Rattle.mea_text.specs.Number.{number_of, AreFit}
use Rattle.mea_text.specs.Words.{◌>>=◌, listed}

-- the words are this name and the spellings of these numbers, each of which fits its type
abbrev pub IsSpelled : List ℕ → List (List ℕ) → Numbers → Type 0
IsSpelled name words numbers = (words ≡ name ∷ map decimal (listed numbers)) × AreFit (listed numbers)

-- the words are this name and the spellings of two numbers that fit their type
abbrev pub IsCommand : List ℕ → List (List ℕ) → ℕ → ℕ → Type 0
IsCommand name words first second = (words ≡ name ∷ decimal first ∷ decimal second ∷ []) × (first < 2 ^ 64) × (second < 2 ^ 64)

-- the numbers that words spell, at most three
abbrev pub numbers_in : List (List ℕ) → Option Numbers
numbers_in [] = Some Bare
numbers_in (first ∷ []) = number_of first >>= (λ a. Some (One a))
numbers_in (first ∷ second ∷ []) = number_of first >>= (λ a. number_of second >>= (λ b. Some (Two a b)))
numbers_in (first ∷ second ∷ third ∷ []) = number_of first >>= (λ a. number_of second >>= (λ b. number_of third >>= (λ d. Some (Three a b d))))
numbers_in (first ∷ second ∷ third ∷ fourth ∷ words) = None

-- what the words after the first spell, where it is the name
abbrev pub numbers_after : List ℕ → List ℕ → List (List ℕ) → Option Numbers
numbers_after name word words = if bytes_eq word name then numbers_in words else None

-- the two numbers, where there are two
abbrev pub two_of : Option Numbers → Option (ℕ × ℕ)
two_of (Some (Two first second)) = Some (first, second)
two_of _ = None
