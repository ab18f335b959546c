-- a number has one spelling
use Rattle.std.proofs.Common.{◌≡◌, ℕ, ◌<◌, ◌^◌, ◌==◌, ◌&&◌, ◌||◌, not, Bool, true, false, cond, List, length, get_or, Option, Some, None, nat_lt, refl, ap, sym, subst, ◌∙◌, arith}
use Rattle.std.specs.Fmt.{decimal}
use Rattle.std.specs.Str.Parse.{digits_value}
use Rattle.std.proofs.lemmas.Fmt.{decimal_is_IsNumeral, decimal-digits_value, first_decimal, decimal_digit}
use Rattle.std.proofs.lemmas.Bool.{ltb-true, eqb-true}
use Rattle.std.proofs.lemmas.Bool.Decides.{nat_tests}
use Rattle.std.proofs.lemmas.Option.{cond_some}
use Rattle.mea_text.specs.Number.{is_number, number_of, count_of}
use Rattle.mea_text.proofs.Digits.{own, first_of_two, second_of_two}

-- ---- tests

pub lt_test : (a b : ℕ) → a < b → nat_lt a b ≡ true
lt_test a b h = grind (arith, nat_tests)

pub same_test : (a : ℕ) → (a == a) ≡ true
same_test a = grind (arith, nat_tests)

pub some_if : {A : Type 0} (b : Bool) (x y : A) → b ≡ true → x ≡ y → ◌≡◌ {A = Option A} (cond b (Some x) None) (Some y)
some_if true x y h is = ap (λ z. Some z) is
some_if false x y h is = absurd (cc)

all_of_four : (a b c d : Bool) → a ≡ true → b ≡ true → c ≡ true → d ≡ true → (a && b && c && d) ≡ true
all_of_four true true true true p q r s = refl
all_of_four true true true false p q r s = absurd (cc)
all_of_four true true false d p q r s = absurd (cc)
all_of_four true false c d p q r s = absurd (cc)
all_of_four false b c d p q r s = absurd (cc)

-- ---- numbers

not_zero_first : (d : ℕ) (b : Bool) → 48 < d → (not (d == 48) || b) ≡ true
not_zero_first d b h = grind (arith, nat_tests)

one_digit : (d k : ℕ) → (not (d == 48) || k == 1) ≡ true → d ≡ 48 → k ≡ 1
one_digit d k h is = grind (arith, nat_tests)

no_leading_zero : (n : ℕ) → n < 2 ^ 64 → (not (get_or (decimal n) 0 0 == 48) || length (decimal n) == 1) ≡ true
no_leading_zero n fits = by_size (n == 0) refl
  where
    by_size : (b : Bool) → (n == 0) ≡ b → (not (get_or (decimal n) 0 0 == 48) || length (decimal n) == 1) ≡ true
    by_size true is = ap (λ k. not (get_or (decimal k) 0 0 == 48) || length (decimal k) == 1) (eqb-true n 0 is)
        ∙ ap (λ ds. not (get_or ds 0 0 == 48) || length ds == 1) (decimal_digit 0 (omega arith))
    by_size false is = not_zero_first _ _ (first_decimal n (grind (arith, nat_tests)) fits)

pub number_of-decimal : (n : ℕ) → n < 2 ^ 64 → number_of (decimal n) ≡ Some n
number_of-decimal n fits =
    let numeral = decimal_is_IsNumeral n fits in
    some_if (is_number (decimal n)) (digits_value 10 (decimal n)) n
    (all_of_four _ _ _ _ (own.from (decimal n) numeral.0.1) (lt_test _ _ numeral.0.0) (no_leading_zero n fits)
    (lt_test _ _ (subst (λ k. k < 2 ^ 64) (sym numeral.1) fits)))
    numeral.1

-- what is a number is spelled as it
pub number_only : (bytes : List ℕ) (n : ℕ) → number_of bytes ≡ Some n → (bytes ≡ decimal n) × (n < 2 ^ 64)
number_only bytes n is =
    let parts = cond_some (is_number bytes) (digits_value 10 bytes) n is in
    let three = first_of_two _ _ parts.0 in
    let two = first_of_two _ _ three in
    let value : digits_value 10 bytes < 2 ^ 64 = ltb-true _ _ (second_of_two _ _ parts.0) in
    let spelled = decimal-digits_value own bytes (first_of_two _ _ two) (ltb-true _ _ (second_of_two _ _ two))
    (one_digit _ _ (second_of_two _ _ three)) value in
    (sym spelled ∙ ap decimal parts.1, subst (λ k. k < 2 ^ 64) parts.1 value)

-- ---- counts

pub count_of-count : (n : ℕ) → n < 2 ^ 32 → count_of n ≡ Some n
count_of-count n fits = some_if (nat_lt n (2 ^ 32)) n n (lt_test _ _ fits) refl

pub count_only : (n m : ℕ) → count_of n ≡ Some m → (n ≡ m) × (n < 2 ^ 32)
count_only n m is = let parts = cond_some (nat_lt n (2 ^ 32)) n m is in (parts.1, ltb-true _ _ parts.0)
