-- a line is read as its word and its numbers
use Rattle.std.proofs.Common.{◌≡◌, ℕ, List, Option, Some, None, refl}
use Rattle.std.specs.Option.{option_map_or}
use Rattle.mea_text.specs.declared.numbers.Numbers.{Numbers}
use Rattle.mea_text.specs.declared.numbers.Numbers.TheVariants.{Bare}
use Rattle.mea_text.specs.Words.{◌>>=◌, cut, numbers_of}
use Rattle.mea_lines.specs.Lines.{event_of, event_of_word, word_and_numbers}

by_numbers : {A : Type 0} (f : List ℕ → Numbers → Option A) (word : List ℕ) (o : Option Numbers)
    → (o >>= f word) ≡ ((o >>= (λ numbers. Some (word, numbers))) >>= (λ (p : List ℕ × Numbers). f p.0 p.1))
by_numbers f word None = refl
by_numbers f word (Some numbers) = refl

by_cutting : {A : Type 0} (f : List ℕ → Numbers → Option A) (line : List ℕ) (c : Option (List ℕ × List ℕ))
    → option_map_or (λ (parts : List ℕ × List ℕ). numbers_of parts.1 >>= f parts.0) c (f line Bare)
    ≡ (option_map_or (λ (parts : List ℕ × List ℕ). numbers_of parts.1 >>= (λ numbers. Some (parts.0, numbers))) c (Some (line, Bare)) >>= (λ (p : List ℕ × Numbers). f p.0 p.1))
by_cutting f line None = refl
by_cutting f line (Some parts) = by_numbers f parts.0 (numbers_of parts.1)

-- the event of a line is that of its word and its numbers, if it has them
pub through_words : (line : List ℕ) → event_of line ≡ (word_and_numbers line >>= (λ (p : List ℕ × Numbers). event_of_word p.0 p.1))
through_words line = by_cutting event_of_word line (cut 32 line)
