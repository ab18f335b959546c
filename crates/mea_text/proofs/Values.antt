-- the value of the digits before the first space, one by one
use Rattle.std.proofs.Common.{◌≡◌, ℕ, suc, ◌+◌, ◌-◌, ◌*◌, ◌<◌, ◌≤◌, ◌==◌, true, false, ◌&&◌, not, cond, List, [], ◌∷◌, length, take, drop, get_or, ap, sym, ◌∙◌, arith}
use Rattle.std.proofs.Math.Seq.{drop-cons}
use Rattle.std.proofs.lemmas.Bool.Decides.{nat_tests}
use Rattle.std.specs.Char.{is_ascii_digit, digit_value}
use Rattle.std.specs.Str.{all_ascii_digits}
use Rattle.std.specs.Str.Parse.{digits_value_after}
use Rattle.mea_text.specs.Words.{before_space, place_of_space}

next_of : (bs : List ℕ) (i : ℕ) → i < length bs → drop i bs ≡ get_or bs i 0 ∷ drop (i + 1) bs
next_of bs i more = let e : suc i ≡ i + 1 = omega arith in drop-cons bs i 0 more ∙ ap (λ k. get_or bs i 0 ∷ drop k bs) e

digit_is : (c : ℕ) → is_ascii_digit c ≡ true → digit_value c ≡ c - 48
digit_is c is = grind (arith, nat_tests)

-- a digit is no space
pub apart_of : (c : ℕ) → is_ascii_digit c ≡ true → (c == 32) ≡ false
apart_of c is = grind (arith, nat_tests)

pub value_grows : (m : ℕ) (ds : List ℕ) → m ≤ digits_value_after 10 m ds
value_grows m [] = omega arith
value_grows m (d ∷ ds) = let later = value_grows (m * 10 + digit_value d) ds in omega (arith, later)

-- ---- a list whose first byte is no space
front_more : (x : ℕ) (xs : List ℕ) → (x == 32) ≡ false → before_space (x ∷ xs) ≡ x ∷ before_space xs
front_more x xs apart =
    let once : 1 + place_of_space xs ≡ suc (place_of_space xs) = omega arith in
    ap (λ t. take (cond (not t) (1 + place_of_space xs) 0) (x ∷ xs)) apart ∙ ap (λ k. take k (x ∷ xs)) once

place_more : (x : ℕ) (xs : List ℕ) → (x == 32) ≡ false → place_of_space (x ∷ xs) ≡ 1 + place_of_space xs
place_more x xs apart = ap (λ t. cond (not t) (1 + place_of_space xs) 0) apart

module _ (bs : List ℕ) (i : ℕ) (more : i < length bs) where
  pub place_goes : (get_or bs i 0 == 32) ≡ false → place_of_space (drop i bs) ≡ 1 + place_of_space (drop (i + 1) bs)
  place_goes apart = ap place_of_space (next_of bs i more) ∙ place_more (get_or bs i 0) (drop (i + 1) bs) apart

  front_goes : (get_or bs i 0 == 32) ≡ false → before_space (drop i bs) ≡ get_or bs i 0 ∷ before_space (drop (i + 1) bs)
  front_goes apart = ap before_space (next_of bs i more) ∙ front_more (get_or bs i 0) (drop (i + 1) bs) apart

  pub all_more : (get_or bs i 0 == 32) ≡ false → is_ascii_digit (get_or bs i 0) ≡ true
      → all_ascii_digits (before_space (drop (i + 1) bs)) ≡ all_ascii_digits (before_space (drop i bs))
  all_more apart is = sym (ap all_ascii_digits (front_goes apart) ∙ ap (λ b. b && all_ascii_digits (before_space (drop (i + 1) bs))) is)

  pub not_all : (get_or bs i 0 == 32) ≡ false → is_ascii_digit (get_or bs i 0) ≡ false → all_ascii_digits (before_space (drop i bs)) ≡ false
  not_all apart is = ap all_ascii_digits (front_goes apart) ∙ ap (λ b. b && all_ascii_digits (before_space (drop (i + 1) bs))) is

  pub value_more : (m : ℕ) → (get_or bs i 0 == 32) ≡ false → is_ascii_digit (get_or bs i 0) ≡ true
      → digits_value_after 10 (m * 10 + (get_or bs i 0 - 48)) (before_space (drop (i + 1) bs)) ≡ digits_value_after 10 m (before_space (drop i bs))
  value_more m apart is =
      ap (λ d. digits_value_after 10 (m * 10 + d) (before_space (drop (i + 1) bs))) (sym (digit_is (get_or bs i 0) is))
      ∙ sym (ap (digits_value_after 10 m) (front_goes apart))
