-- five texts that are put one after another
use Rattle.std.proofs.Common.{◌≡◌, ℕ, ◌++◌, List, ap, ◌∙◌, append_assoc}

joined : (t a b c d e : List ℕ) → ((((t ++ a) ++ b) ++ c) ++ d) ++ e ≡ t ++ (a ++ b ++ c ++ d ++ e)
joined t a b c d e = simp append_assoc

pub puts_five : (t t1 t2 t3 t4 t5 a b c d e : List ℕ) → t1 ≡ t ++ a → t2 ≡ t1 ++ b → t3 ≡ t2 ++ c → t4 ≡ t3 ++ d → t5 ≡ t4 ++ e
    → t5 ≡ t ++ (a ++ b ++ c ++ d ++ e)
puts_five t t1 t2 t3 t4 t5 a b c d e first second third fourth fifth =
    fifth
    ∙ ap (λ x. x ++ e) (fourth ∙ ap (λ x. x ++ d) (third ∙ ap (λ x. x ++ c) (second ∙ ap (λ x. x ++ b) first)))
    ∙ joined t a b c d e
