-- how the numbers of a line are read back
use Rattle.std.proofs.Common.{◌≡◌, ℕ, ◌<◌, ◌^◌, ◌++◌, true, List, ◌∷◌, Option, Some, None, refl, ap, sym, subst, ◌∙◌, append-nil, option_and_then}
use Rattle.std.specs.Fmt.{decimal}
use Rattle.std.specs.Option.{option_map_or}
use Rattle.std.proofs.lemmas.Fmt.{decimal_is_IsNumeral}
use Rattle.std.proofs.lemmas.Option.{option_and_then_some}
use Rattle.mea_text.specs.declared.numbers.Numbers.{Numbers}
use Rattle.mea_text.specs.declared.numbers.Numbers.TheVariants.{Bare, One, Two, Three}
use Rattle.mea_text.specs.Number.{number_of, AreFit}
use Rattle.mea_text.specs.Text.{numbers_text}
use Rattle.mea_text.specs.Words.{cut, numbers_of, two_or_three, listed}
use Rattle.mea_text.proofs.Digits.{own}
use Rattle.mea_text.proofs.Numerals.{number_of-decimal, number_only}
use Rattle.mea_text.proofs.Cuts.{lacks_byte, no_space_in_digits, cut_at, cut_nowhere, cut_only}

pub some_same : {A : Type 0} (x y : A) → ◌≡◌ {A = Option A} (Some x) (Some y) → x ≡ y
some_same x y h = cc

no_space : (n : ℕ) → n < 2 ^ 64 → lacks_byte 32 (decimal n) ≡ true
no_space n fits = no_space_in_digits (decimal n) (own.from (decimal n) (decimal_is_IsNumeral n fits).0.1)

-- ---- what is cut, or is not

-- an option that is there, or is not, made of what is cut
pub by_cut : {A P : Type 0} (b : ℕ) (f : List ℕ × List ℕ → Option A) (bytes : List ℕ) (whole : Option A) (x : A) → option_map_or f (cut b bytes) whole ≡ Some x
    → (whole ≡ Some x → P) → ((parts : List ℕ × List ℕ) → bytes ≡ parts.0 ++ b ∷ parts.1 → f parts ≡ Some x → P) → P
by_cut {A} {P} b f bytes whole x is uncut parted = at (cut b bytes) refl is
  where
    at : (o : Option (List ℕ × List ℕ)) → cut b bytes ≡ o → option_map_or f o whole ≡ Some x → P
    at None cuts is = uncut is
    at (Some parts) cuts is = parted parts (cut_only b bytes parts.0 parts.1 cuts) is

-- ---- from numbers to their text and back

-- numbers that are read from what stands after a word
pub record AreRead (numbers : Numbers) : Type 0 where
  pub rest : List ℕ
  pub spelled : numbers_text (listed numbers) ≡ 32 ∷ rest
  pub back : numbers_of rest ≡ Some numbers

one_read : (a : ℕ) → a < 2 ^ 64 → AreRead (One a)
one_read a fits = record {
  rest = decimal a;
  spelled = ap (λ r. 32 ∷ r) (append-nil (decimal a));
  back = rw (cut_nowhere 32 (decimal a) (no_space a fits), number_of-decimal a fits) refl;
}

two_read : (a b : ℕ) → a < 2 ^ 64 → b < 2 ^ 64 → AreRead (Two a b)
two_read a b first second = record {
  rest = decimal a ++ 32 ∷ decimal b;
  spelled = ap (λ r. 32 ∷ (decimal a ++ 32 ∷ r)) (append-nil (decimal b));
  back = rw (cut_at 32 (decimal a) (decimal b) (no_space a first), number_of-decimal a first, cut_nowhere 32 (decimal b) (no_space b second), number_of-decimal b second) refl;
}

three_read : (a b d : ℕ) → a < 2 ^ 64 → b < 2 ^ 64 → d < 2 ^ 64 → AreRead (Three a b d)
three_read a b d first second third = record {
  rest = decimal a ++ 32 ∷ (decimal b ++ 32 ∷ decimal d);
  spelled = ap (λ r. 32 ∷ (decimal a ++ 32 ∷ (decimal b ++ 32 ∷ r))) (append-nil (decimal d));
  back = rw (cut_at 32 (decimal a) (decimal b ++ 32 ∷ decimal d) (no_space a first), number_of-decimal a first, cut_at 32 (decimal b) (decimal d) (no_space b second), number_of-decimal b second, number_of-decimal d third) refl;
}

-- ---- from a text to its numbers

abbrev pub AreSpelled : List ℕ → Numbers → Type 0
AreSpelled rest numbers = (32 ∷ rest ≡ numbers_text (listed numbers)) × AreFit (listed numbers)

one_only : (rest : List ℕ) (numbers : Numbers) → option_and_then (λ a. Some (One a)) (number_of rest) ≡ Some numbers → AreSpelled rest numbers
one_only rest numbers is = option_and_then_some (λ a. Some (One a)) (number_of rest) numbers is (λ a read made.
    let found = number_only rest a read in
    subst (AreSpelled rest) (some_same _ _ made) (ap (λ r. 32 ∷ r) (found.0 ∙ sym (append-nil (decimal a))), (found.1, tt)))

two_only : (bytes first rest : List ℕ) (a : ℕ) (numbers : Numbers) → bytes ≡ first ++ 32 ∷ rest → (first ≡ decimal a) × (a < 2 ^ 64)
    → option_and_then (λ b. Some (Two a b)) (number_of rest) ≡ Some numbers → AreSpelled bytes numbers
two_only bytes first rest a numbers parts low is = option_and_then_some (λ b. Some (Two a b)) (number_of rest) numbers is (λ b read made.
    let high = number_only rest b read in
    subst (AreSpelled bytes) (some_same _ _ made)
    (ap (λ r. 32 ∷ r) (parts ∙ (λ i. low.0 i ++ 32 ∷ (high.0 ∙ sym (append-nil (decimal b))) i)), (low.1, (high.1, tt))))

three_only : (bytes first rest second last : List ℕ) (a : ℕ) (numbers : Numbers) → bytes ≡ first ++ 32 ∷ rest → (first ≡ decimal a) × (a < 2 ^ 64)
    → rest ≡ second ++ 32 ∷ last
    → option_and_then (λ b. option_and_then (λ d. Some (Three a b d)) (number_of last)) (number_of second) ≡ Some numbers → AreSpelled bytes numbers
three_only bytes first rest second last a numbers parts low further is =
    option_and_then_some (λ b. option_and_then (λ d. Some (Three a b d)) (number_of last)) (number_of second) numbers is (λ b read left.
    option_and_then_some (λ d. Some (Three a b d)) (number_of last) numbers left (λ d read_last made.
    let middle = number_only second b read in
    let high = number_only last d read_last in
    subst (AreSpelled bytes) (some_same _ _ made) (
      ap (λ r. 32 ∷ r) (parts ∙ (λ i. low.0 i ++ 32 ∷ (further ∙ (λ j. middle.0 j ++ 32 ∷ (high.0 ∙ sym (append-nil (decimal d))) j)) i)),
      (low.1, (middle.1, (high.1, tt))),
    )))

pub numbers_only : (rest : List ℕ) (numbers : Numbers) → numbers_of rest ≡ Some numbers → AreSpelled rest numbers
numbers_only rest numbers is =
    by_cut 32 (λ parts. option_and_then (λ a. two_or_three a parts.1) (number_of parts.0)) rest (option_and_then (λ a. Some (One a)) (number_of rest)) numbers is
    (one_only rest numbers)
    (λ parts joined read. option_and_then_some (λ a. two_or_three a parts.1) (number_of parts.0) numbers read (λ a found left.
    by_cut 32 (λ ends. option_and_then (λ b. option_and_then (λ d. Some (Three a b d)) (number_of ends.1)) (number_of ends.0)) parts.1
    (option_and_then (λ b. Some (Two a b)) (number_of parts.1)) numbers left
    (two_only rest parts.0 parts.1 a numbers joined (number_only parts.0 a found))
    (λ ends further. three_only rest parts.0 parts.1 ends.0 ends.1 a numbers joined (number_only parts.0 a found) further)))

-- ---- a line

through : {E : Type 0} (event : List ℕ → Numbers → Option E) (word : List ℕ) (numbers : Numbers) → lacks_byte 32 word ≡ true → AreRead numbers
    → option_map_or (λ parts. option_and_then (event parts.0) (numbers_of parts.1)) (cut 32 (word ++ numbers_text (listed numbers))) (event (word ++ numbers_text (listed numbers)) Bare) ≡ event word numbers
through event word numbers spaceless read = rw (read.spelled, cut_at 32 word read.rest spaceless, read.back) refl

-- a word and its numbers are read back
pub reads_back : {E : Type 0} (event : List ℕ → Numbers → Option E) (word : List ℕ) (numbers : Numbers) → lacks_byte 32 word ≡ true → AreFit (listed numbers)
    → option_map_or (λ parts. option_and_then (event parts.0) (numbers_of parts.1)) (cut 32 (word ++ numbers_text (listed numbers))) (event (word ++ numbers_text (listed numbers)) Bare) ≡ event word numbers
reads_back {E} event word Bare spaceless fits = ap (λ w. option_map_or (λ parts. option_and_then (event parts.0) (numbers_of parts.1)) (cut 32 w) (event w Bare)) (append-nil word)
    ∙ rw (cut_nowhere 32 word spaceless) refl
reads_back event word (One a) spaceless fits = through event word (One a) spaceless (one_read a fits.0)
reads_back event word (Two a b) spaceless fits = through event word (Two a b) spaceless (two_read a b fits.0 fits.1.0)
reads_back event word (Three a b d) spaceless fits = through event word (Three a b d) spaceless (three_read a b d fits.0 fits.1.0 fits.1.1.0)
