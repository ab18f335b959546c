-- lines in which no byte is a newline
use Rattle.std.proofs.Common.{◌≡◌, ℕ, suc, ◌+◌, ◌<◌, ◌≤◌, ◌==◌, Bool, true, false, cond, not, List, [], ◌∷◌, ◌++◌, length, get_or, Some, None, refl, ap, sym, subst, ◌∙◌, arith}
use Rattle.std.specs.List.{slice_split, onto_first, position_or_len, before_first}
use Rattle.std.proofs.lemmas.List.{length-take-le}
use Rattle.std.proofs.lemmas.List.Splits.{length-slice_split}
use Rattle.std.proofs.lemmas.List.Sums.{position_or_len_is, fails_before_first, passes_at_first, split_at_first}
use Rattle.std.proofs.lemmas.Bool.Decides.{nat_tests}
use Rattle.mea_text.specs.Words.{cut}
use Rattle.std.proofs.lemmas.List.{get_or-take}
use Rattle.mea_script.specs.Lines.{IsUnended}
use Rattle.mea_script.specs.Lines.{lines_among, lines_in}
use Rattle.mea_script.proofs.Lines.{keeps_first, cut_some, cut_none}

abbrev newline : ℕ → Bool
newline b = b == 10

pub unended_append : (line end : List ℕ) → IsUnended line → IsUnended end → IsUnended (line ++ end)
unended_append [] end h g = g
unended_append (c ∷ line) end h g =
    elim (c == 10) as (λ v. suc (length line) ≤ cond (not v) (1 + position_or_len newline line) 0
    → suc (length (line ++ end)) ≤ cond (not v) (1 + position_or_len newline (line ++ end)) 0) [
      | true ↦ λ e. absurd (omega arith)
      | false ↦ λ e. let rest = unended_append line end (omega arith) g in omega arith
    ] h

-- what stands before the first newline
pub unended_before : (bytes : List ℕ) → position_or_len newline bytes < length bytes → IsUnended (before_first newline bytes)
unended_before bytes there =
    let at : ℕ = position_or_len newline bytes in
    let size : length (before_first newline bytes) ≡ at = length-take-le at bytes (omega arith) in
    let none : position_or_len newline (before_first newline bytes) ≡ at =
    position_or_len_is newline (before_first newline bytes) at 0 (omega (arith, size))
    (λ k less. ap newline (get_or-take at bytes k 0 less) ∙ fails_before_first newline bytes k 0 less)
    (λ less. absurd (omega (arith, size))) in
    omega (arith, size, none)

split_here : (line rest : List ℕ) → IsUnended line → slice_split newline (line ++ 10 ∷ rest) ≡ line ∷ slice_split newline rest
split_here [] rest h = refl
split_here (c ∷ line) rest h =
    elim (c == 10) as (λ v. suc (length line) ≤ cond (not v) (1 + position_or_len newline line) 0
    → cond v ([] ∷ slice_split newline (line ++ 10 ∷ rest)) (onto_first c (slice_split newline (line ++ 10 ∷ rest))) ≡ (c ∷ line) ∷ slice_split newline rest) [
      | true ↦ λ e. absurd (omega arith)
      | false ↦ λ e. ap (onto_first c) (split_here line rest (omega arith))
    ] h

-- a line and its newline
pub lines_here : (was_cut : Bool) (line rest : List ℕ) → IsUnended line → lines_in was_cut (line ++ 10 ∷ rest) ≡ line ∷ lines_in was_cut rest
lines_here was_cut line rest h =
    ap (lines_among was_cut) (split_here line rest h)
    ∙ keeps_first was_cut line (slice_split newline rest) (omega (arith, length-slice_split newline rest))

-- what a cut at a newline found
same_byte : (b : ℕ) → newline b ≡ true → b ≡ 10
same_byte b is = grind (arith, nat_tests)

pub cut_joins : (bytes before after : List ℕ) → Some (before, after) ≡ cut 10 bytes → (bytes ≡ before ++ 10 ∷ after) × IsUnended before
cut_joins bytes before after is =
    let parts = cut_some 10 bytes before after is in
    let found : get_or bytes (position_or_len newline bytes) 0 ≡ 10 = same_byte _ (passes_at_first newline bytes 0 parts.0) in (
      split_at_first newline bytes 0 parts.0 ∙ (λ i. sym parts.1 i ++ found i ∷ sym parts.2 i),
      subst IsUnended (sym parts.1) (unended_before bytes parts.0),
    )

-- or did not find
pub cut_nothing : (bytes : List ℕ) → None ≡ cut 10 bytes → IsUnended bytes
cut_nothing bytes is = cut_none 10 bytes is
