-- the first number of some bytes, and what is made of it and of what stands after it
use Rattle.std.proofs.Common.{◌≡◌, ℕ, ◌^◌, ◌++◌, ◌==◌, ◌&&◌, ◌||◌, not, Bool, true, false, cond, List, [], ◌∷◌, length, slice_index, nat_lt, Option, Some, None, refl, ap, ◌∙◌}
use Rattle.std.specs.Char.{is_ascii_digit}
use Rattle.std.specs.Option.{option_map_or}
use Rattle.std.specs.Str.{all_ascii_digits}
use Rattle.std.specs.Str.Parse.{digits_value}
use Rattle.mea_text.specs.Number.{number_of}
use Rattle.mea_text.specs.Words.{◌>>=◌, cut, first_number}
use Rattle.mea_text.proofs.Cuts.{cut_only}

-- a number with what stands after it, or with nothing
abbrev with_rest : List ℕ → ℕ → Option (ℕ × Option (List ℕ))
with_rest rest n = Some (n, Some rest)

abbrev without_rest : ℕ → Option (ℕ × Option (List ℕ))
without_rest n = Some (n, None)

-- what is made of a number with what stands after it, or of a number alone
abbrev pub of_first : {A : Type 0} → (ℕ → List ℕ → Option A) → (ℕ → Option A) → ℕ × Option (List ℕ) → Option A
of_first f g p = option_map_or (f p.0) p.1 (g p.0)

by_rest : {A : Type 0} (f : ℕ → List ℕ → Option A) (g : ℕ → Option A) (rest : List ℕ) (o : Option ℕ)
    → (o >>= (λ n. f n rest)) ≡ ((o >>= with_rest rest) >>= of_first f g)
by_rest f g rest None = refl
by_rest f g rest (Some n) = refl

by_cutting : {A : Type 0} (f : ℕ → List ℕ → Option A) (g : ℕ → Option A) (c : Option (List ℕ × List ℕ)) (whole : Option ℕ)
    → option_map_or (λ (parts : List ℕ × List ℕ). number_of parts.0 >>= (λ n. f n parts.1)) c (whole >>= g)
    ≡ (option_map_or (λ (parts : List ℕ × List ℕ). number_of parts.0 >>= with_rest parts.1) c (whole >>= without_rest) >>= of_first f g)
by_cutting f g None None = refl
by_cutting f g None (Some n) = refl
by_cutting f g (Some parts) whole = by_rest f g parts.1 (number_of parts.0)

-- what is made of the number before a space and of the rest, or of the number that all bytes spell
pub through_first : {A : Type 0} (f : ℕ → List ℕ → Option A) (g : ℕ → Option A) (bytes : List ℕ)
    → option_map_or (λ (parts : List ℕ × List ℕ). number_of parts.0 >>= (λ n. f n parts.1)) (cut 32 bytes) (number_of bytes >>= g)
    ≡ (first_number bytes >>= of_first f g)
through_first f g bytes = by_cutting f g (cut 32 bytes) (number_of bytes)

-- ---- bytes with a space among them spell no number

and_false : (b : Bool) → (b && false) ≡ false
and_false true = refl
and_false false = refl

spaced : (w r : List ℕ) → all_ascii_digits (w ++ 32 ∷ r) ≡ false
spaced [] r = refl
spaced (x ∷ w) r = ap (λ t. is_ascii_digit x && t) (spaced w r) ∙ and_false (is_ascii_digit x)

no_number : (bytes : List ℕ) → all_ascii_digits bytes ≡ false → number_of bytes ≡ None
no_number bytes is =
    ap (λ t. cond (t && nat_lt 0 (length bytes) && (not (slice_index bytes 0 == 48) || length bytes == 1) && nat_lt (digits_value 10 bytes) (2 ^ 64)) (Some (digits_value 10 bytes)) None) is

-- the number, where nothing stands after it
abbrev pub if_whole : ℕ × Option (List ℕ) → Option ℕ
if_whole p = option_map_or (λ rest. None) p.1 (Some p.0)

whole_of : (o : Option ℕ) → o ≡ ((o >>= without_rest) >>= if_whole)
whole_of None = refl
whole_of (Some n) = refl

none_of : (rest : List ℕ) (o : Option ℕ) → None ≡ ((o >>= with_rest rest) >>= if_whole)
none_of rest None = refl
none_of rest (Some n) = refl

-- all bytes spell the first number, where nothing stands after it
pub number_is_whole : (bytes : List ℕ) → number_of bytes ≡ (first_number bytes >>= if_whole)
number_is_whole bytes = at (cut 32 bytes) refl
  where
    at : (c : Option (List ℕ × List ℕ)) → cut 32 bytes ≡ c
        → number_of bytes ≡ (option_map_or (λ (parts : List ℕ × List ℕ). number_of parts.0 >>= with_rest parts.1) c (number_of bytes >>= without_rest) >>= if_whole)
    at None cuts = whole_of (number_of bytes)
    at (Some parts) cuts =
        no_number bytes (ap all_ascii_digits (cut_only 32 bytes parts.0 parts.1 cuts) ∙ spaced parts.0 parts.1)
        ∙ none_of parts.1 (number_of parts.0)
