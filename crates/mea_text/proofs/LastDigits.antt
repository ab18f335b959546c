-- a line that ends with a digit, in whose place another is put
use Rattle.std.proofs.Common.{◌≡◌, ℕ, ◌+◌, ◌-◌, ◌<◌, ◌++◌, List, ◌∷◌, codes, length, take, set, ap, sym, ◌∙◌, append_assoc, arith, length-append}
use Rattle.std.proofs.lemmas.Fmt.{decimal_digit}
use Rattle.std.proofs.lemmas.List.{set_at}
use Rattle.std.proofs.Math.Seq.{take-append_seam}
use Rattle.mea_text.specs.Text.{number_text}

-- the digit stands before the newline
pub with_digit : (old line word : List ℕ) (d : ℕ) → line ≡ word ++ codes " 0\n" → d < 10
    → set (old ++ line) (length (old ++ line) - 2) (48 + d) ≡ old ++ (word ++ (number_text d ++ codes "\n"))
with_digit old line word d is low =
    let front : List ℕ = old ++ (word ++ codes " ") in
    let same : old ++ line ≡ front ++ 48 ∷ codes "\n" =
    ap (λ l. old ++ l) is ∙ ap (λ l. old ++ l) (sym (append_assoc word (codes " ") (48 ∷ codes "\n"))) ∙ sym (append_assoc old (word ++ codes " ") (48 ∷ codes "\n")) in
    let place : length front ≡ length (old ++ line) - 2 = omega (arith, ap length same, length-append front (48 ∷ codes "\n")) in
    ap (λ l. set l (length (old ++ line) - 2) (48 + d)) same
    ∙ set_at front 48 (codes "\n") (48 + d) (length (old ++ line) - 2) place
    ∙ append_assoc old (word ++ codes " ") ((48 + d) ∷ codes "\n")
    ∙ ap (λ l. old ++ l) (append_assoc word (codes " ") ((48 + d) ∷ codes "\n"))
    ∙ ap (λ ds. old ++ (word ++ (32 ∷ (ds ++ codes "\n")))) (sym (decimal_digit d low))

-- a word is what stands before the end of its line
pub before_end : (line word end : List ℕ) → line ≡ word ++ end → take (length line - length end) line ≡ word
before_end line word end is =
    let size : length line - length end ≡ length word = omega (arith, ap length is, length-append word end) in
    (λ i. take (size i) (is i)) ∙ take-append_seam word end
