-- what a line is made of: a word and its numbers, with one space between
use Rattle.std.specs.Prelude.{ℕ, ◌==◌, List, [], ◌∷◌, length, Option, Some, None, nat_lt, if◌then◌else◌, option_and_then}
use Rattle.std.specs.Option.{option_map_or}
use Rattle.std.specs.List.{position_or_len, before_first, after_first}
use Rattle.mea_text.specs.declared.numbers.Numbers.{Numbers}
use Rattle.mea_text.specs.declared.numbers.Numbers.TheVariants.{Bare, One, Two, Three}
use Rattle.mea_text.specs.Number.{number_of}

infixl 10 ◌>>=◌
abbrev pub ◌>>=◌ : {A B : Type 0} → Option A → (A → Option B) → Option B
o >>= f = option_and_then f o

-- what stands before and after the first such byte, if there is one
abbrev pub cut : ℕ → List ℕ → Option (List ℕ × List ℕ)
cut byte bytes = if nat_lt (position_or_len (λ b. b == byte) bytes) (length bytes) then Some (before_first (λ b. b == byte) bytes, after_first (λ b. b == byte) bytes) else None

-- what stands before the first space, or all
abbrev pub before_space : List ℕ → List ℕ
before_space bytes = before_first (λ b. b == 32) bytes

-- where the first space stands, or how many bytes there are
abbrev pub place_of_space : List ℕ → ℕ
place_of_space bytes = position_or_len (λ b. b == 32) bytes

-- the number before the first space, with what stands after it, or the number that all bytes spell
abbrev pub first_number : List ℕ → Option (ℕ × Option (List ℕ))
first_number bytes = option_map_or (λ parts. number_of parts.0 >>= (λ n. Some (n, Some parts.1))) (cut 32 bytes) (number_of bytes >>= (λ n. Some (n, None)))

-- a number and those that bytes spell, one or two
abbrev pub two_or_three : ℕ → List ℕ → Option Numbers
two_or_three first bytes = option_map_or (λ parts. number_of parts.0 >>= (λ second. number_of parts.1 >>= (λ third. Some (Three first second third)))) (cut 32 bytes) (number_of bytes >>= (λ second. Some (Two first second)))

-- the numbers that bytes spell, with one space between each two: one, two or three
abbrev pub numbers_of : List ℕ → Option Numbers
numbers_of bytes = option_map_or (λ parts. number_of parts.0 >>= (λ first. two_or_three first parts.1)) (cut 32 bytes) (number_of bytes >>= (λ first. Some (One first)))

-- in their order
abbrev pub listed : Numbers → List ℕ
listed Bare = []
listed (One a) = a ∷ []
listed (Two a b) = a ∷ b ∷ []
listed (Three a b d) = a ∷ b ∷ d ∷ []
