-- where a line is cut
use Rattle.std.proofs.Common.{◌≡◌, ℕ, suc, ◌+◌, ◌<◌, ◌++◌, ◌==◌, ◌&&◌, not, Bool, true, false, cond, List, [], ◌∷◌, length, take, drop, Option, Some, None, nat_lt, refl, ap, sym, ◌∙◌, arith, length-append}
use Rattle.std.specs.Char.{is_ascii_digit}
use Rattle.std.specs.List.{position_or_len}
use Rattle.std.specs.Str.{all_ascii_digits}
use Rattle.std.proofs.lemmas.Bool.{ltb-true, eqb-true}
use Rattle.std.proofs.lemmas.Bool.Decides.{nat_tests}
use Rattle.std.proofs.lemmas.Option.{cond_some}
use Rattle.std.proofs.Math.Seq.{take-append_seam, drop-append-add}
use Rattle.mea_text.specs.Words.{cut}
use Rattle.mea_text.proofs.Digits.{first_of_two, second_of_two}
use Rattle.mea_text.proofs.Numerals.{lt_test, same_test, some_if}

-- such a byte is not there
abbrev pub lacks_byte : ℕ → List ℕ → Bool
lacks_byte b [] = true
lacks_byte b (x ∷ xs) = not (x == b) && lacks_byte b xs

both_hold : (s t : Bool) → s ≡ true → t ≡ true → (s && t) ≡ true
both_hold true t h k = k
both_hold false t h k = absurd (cc)

is_not : (t : Bool) → not t ≡ true → t ≡ false
is_not true h = absurd (cc)
is_not false h = refl

pub no_space_in_digits : (ds : List ℕ) → all_ascii_digits ds ≡ true → lacks_byte 32 ds ≡ true
no_space_in_digits [] h = refl
no_space_in_digits (d ∷ ds) h = both_hold _ _ (no_space d (first_of_two _ _ h)) (no_space_in_digits ds (second_of_two _ _ h))
  where
    no_space : (c : ℕ) → is_ascii_digit c ≡ true → not (c == 32) ≡ true
    no_space c e = grind (arith, nat_tests)

position_at : (b : ℕ) (w r : List ℕ) → lacks_byte b w ≡ true → position_or_len (λ x. x == b) (w ++ b ∷ r) ≡ length w
position_at b [] r h = ap (λ t. cond (not t) (1 + position_or_len (λ x. x == b) r) 0) (same_test b)
position_at b (x ∷ w) r h =
    ap (λ t. cond (not t) (1 + position_or_len (λ y. y == b) (w ++ b ∷ r)) 0) (is_not _ (first_of_two _ _ h))
    ∙ ap (λ n. 1 + n) (position_at b w r (second_of_two _ _ h))
    ∙ omega arith

pub cut_at : (b : ℕ) (w r : List ℕ) → lacks_byte b w ≡ true → cut b (w ++ b ∷ r) ≡ Some (w, r)
cut_at b w r h =
    ap (λ k. cond (nat_lt k (length (w ++ b ∷ r))) (Some (take k (w ++ b ∷ r), drop (k + 1) (w ++ b ∷ r))) None) (position_at b w r h)
    ∙ some_if (nat_lt (length w) (length (w ++ b ∷ r))) (take (length w) (w ++ b ∷ r), drop (length w + 1) (w ++ b ∷ r)) (w, r)
    (lt_test _ _ (omega (arith, length-append w (b ∷ r))))
    (λ i. (take-append_seam w (b ∷ r) i, drop-append-add w (b ∷ r) 1 i))

past_all : (b : ℕ) (w : List ℕ) → lacks_byte b w ≡ true → position_or_len (λ x. x == b) w ≡ length w
past_all b [] h = refl
past_all b (x ∷ w) h =
    ap (λ t. cond (not t) (1 + position_or_len (λ y. y == b) w) 0) (is_not _ (first_of_two _ _ h))
    ∙ ap (λ n. 1 + n) (past_all b w (second_of_two _ _ h))
    ∙ omega arith

none_if : {A : Type 0} (t : Bool) (x : A) → t ≡ false → ◌≡◌ {A = Option A} (cond t (Some x) None) None
none_if true x h = absurd (cc)
none_if false x h = refl

pub cut_nowhere : (b : ℕ) (w : List ℕ) → lacks_byte b w ≡ true → cut b w ≡ None
cut_nowhere b w h =
    let whole = past_all b w h in
    none_if (nat_lt (position_or_len (λ x. x == b) w) (length w))
    (take (position_or_len (λ x. x == b) w) w, drop (position_or_len (λ x. x == b) w + 1) w) (grind (arith, nat_tests))

moved : (b x : ℕ) (xs : List ℕ) (p : ℕ) → take (1 + p) (x ∷ xs) ++ b ∷ drop (1 + p + 1) (x ∷ xs) ≡ x ∷ (take p xs ++ b ∷ drop (p + 1) xs)
moved b x xs p = let once : 1 + p ≡ suc p = omega arith in let twice : 1 + p + 1 ≡ suc (p + 1) = omega arith in
    λ i. take (once i) (x ∷ xs) ++ b ∷ drop (twice i) (x ∷ xs)

joined_by : (b x : ℕ) (xs : List ℕ) →
    (position_or_len (λ y. y == b) xs < length xs → xs ≡ take (position_or_len (λ y. y == b) xs) xs ++ b ∷ drop (position_or_len (λ y. y == b) xs + 1) xs)
    → (t : Bool) → (x == b) ≡ t → cond (not t) (1 + position_or_len (λ y. y == b) xs) 0 < length (x ∷ xs)
    → x ∷ xs ≡ take (cond (not t) (1 + position_or_len (λ y. y == b) xs) 0) (x ∷ xs) ++ b ∷ drop
    (cond (not t) (1 + position_or_len (λ y. y == b) xs) 0 + 1) (x ∷ xs)
joined_by b x xs later true is less = ap (λ y. y ∷ xs) (eqb-true x b is)
joined_by b x xs later false is less = ap (λ ys. x ∷ ys) (later (omega arith)) ∙ sym (moved b x xs (position_or_len (λ y. y == b) xs))

joined : (b : ℕ) (line : List ℕ) → position_or_len (λ x. x == b) line < length line
    → line ≡ take (position_or_len (λ x. x == b) line) line ++ b ∷ drop (position_or_len (λ x. x == b) line + 1) line
joined b [] h = absurd (omega arith)
joined b (x ∷ xs) h = joined_by b x xs (joined b xs) (x == b) refl h

pub cut_only : (b : ℕ) (line before after : List ℕ) → cut b line ≡ Some (before, after) → line ≡ before ++ b ∷ after
cut_only b line before after is =
    let parts = cond_some (nat_lt (position_or_len (λ x. x == b) line) (length line))
    (take (position_or_len (λ x. x == b) line) line, drop (position_or_len (λ x. x == b) line + 1) line) (before, after) is in
    joined b line (ltb-true _ _ parts.0) ∙ (λ i. (parts.1 i).0 ++ b ∷ (parts.1 i).1)
