-- what is found in tables of lines
use Rattle.std.proofs.Common.{◌≡◌, ◌≢◌, ℕ, ◌<◌, ◌^◌, Bool, true, false, cond, List, [], ◌∷◌, length, get_or, ext_get_or, Option, Some, refl, ap, sym, subst, ◌∙◌, option_and_then}
use Rattle.std.specs.Str.{bytes_eq}
use Rattle.std.proofs.lemmas.Bool.{false_from_ne_true}
use Rattle.std.proofs.lemmas.Option.{option_and_then_some}
use Rattle.std.proofs.lemmas.Slice.Eq.{bytes_eq-Decides}
use Rattle.mea_text.specs.declared.numbers.Numbers.{Numbers}
use Rattle.mea_text.specs.declared.numbers.Numbers.TheVariants.{Bare, One, Two, Three}
use Rattle.mea_text.specs.Number.{count_of, AreFit}
use Rattle.mea_text.specs.Tables.{Line, alone, one, two, three, count, number_and_count, of_line, of_table}
use Rattle.mea_text.specs.Words.{listed}
use Rattle.mea_text.proofs.Numerals.{count_only}
use Rattle.mea_text.proofs.Readings.{some_same}

pub same_bytes : (xs ys : List ℕ) → bytes_eq xs ys ≡ true → xs ≡ ys
same_bytes xs ys h = (bytes_eq-Decides xs ys).0 h

-- bytes of other lengths, or of which one is another, are not the same
pub of_other_length : (xs ys : List ℕ) → length xs ≢ length ys → bytes_eq xs ys ≡ false
of_other_length xs ys other = false_from_ne_true (bytes_eq xs ys) (λ same. other (ap length (same_bytes xs ys same)))

pub of_other_byte : (xs ys : List ℕ) (i : ℕ) → get_or xs i 0 ≢ get_or ys i 0 → bytes_eq xs ys ≡ false
of_other_byte xs ys i other = false_from_ne_true (bytes_eq xs ys) (λ same. other (ap (λ bs. get_or bs i 0) (same_bytes xs ys same)))

-- as many bytes, of which each is the other's, are the same
pub of_each_byte : (xs ys : List ℕ) → length xs ≡ length ys → ((i : ℕ) → i < length xs → get_or xs i 0 ≡ get_or ys i 0) → bytes_eq xs ys ≡ true
of_each_byte xs ys long each = (bytes_eq-Decides xs ys).1 (ext_get_or 0 xs ys long each)

-- what is chosen by a test, or else
pub if_some : {E P : Type 0} (b : Bool) (x y : Option E) (e : E) → cond b x y ≡ Some e → (b ≡ true → x ≡ Some e → P) → (y ≡ Some e → P) → P
if_some true x y e is here later = here refl is
if_some false x y e is here later = later is

-- what the events of a family say, and where their numbers fit
module _ {E : Type 0} (said : E → List ℕ × Numbers) (Fits : E → Type 0) where
  -- an event says a word and numbers, and fits where they hold something
  abbrev pub Says : List ℕ → Numbers → Type 0 → E → Type 0
  Says word numbers Holds event = (said event ≡ (word, numbers)) × (Holds → Fits event)

  -- the events of a line say its word, of which a part stands in the table, and their numbers
  abbrev pub IsSaid : (List ℕ → List ℕ) → Line E → Type 0
  IsSaid whole (alone own event) = Says (whole own) Bare (Unit {0}) event
  IsSaid whole (one own event) = (a : ℕ) → Says (whole own) (One a) (AreFit (a ∷ [])) (event a)
  IsSaid whole (two own event) = (a b : ℕ) → Says (whole own) (Two a b) (AreFit (a ∷ b ∷ [])) (event a b)
  IsSaid whole (three own event) = (a b d : ℕ) → Says (whole own) (Three a b d) (AreFit (a ∷ b ∷ d ∷ [])) (event a b d)
  IsSaid whole (count own event) = (a : ℕ) → Says (whole own) (One a) (a < 2 ^ 32) (event a)
  IsSaid whole (number_and_count own event) = (a b : ℕ) → Says (whole own) (Two a b) ((a < 2 ^ 64) × (b < 2 ^ 32)) (event a b)

  abbrev pub AreSaid : (List ℕ → List ℕ) → List (Line E) → Type 0
  AreSaid whole [] = Unit {0}
  AreSaid whole (l ∷ ls) = IsSaid whole l × AreSaid whole ls

  -- what was found for a word and its numbers
  abbrev pub IsFound : List ℕ → Numbers → E → Type 0
  IsFound word numbers event = Says word numbers (AreFit (listed numbers)) event

  -- the event of the line's own word
  here : (whole : List ℕ → List ℕ) (word own : List ℕ) (numbers : Numbers) (made e : E) → bytes_eq word own ≡ true
      → Says (whole own) numbers (AreFit (listed numbers)) made → made ≡ e → IsFound (whole word) numbers e
  here whole word own numbers made e same says is =
      subst (IsFound (whole word) numbers) is (subst (λ w. IsFound (whole w) numbers made) (sym (same_bytes word own same)) says)

  line_only : {P : Type 0} (whole : List ℕ → List ℕ) (l : Line E) (word : List ℕ) (numbers : Numbers) (other : Option E) (e : E) → IsSaid whole l
      → of_line l word numbers other ≡ Some e → (IsFound (whole word) numbers e → P) → (other ≡ Some e → P) → P
  line_only whole (alone own made) word Bare other e h is found later =
      if_some (bytes_eq word own) (Some made) other e is (λ same given. found (here whole word own Bare made e same h (some_same _ _ given))) later
  line_only whole (one own make) word (One a) other e h is found later =
      if_some (bytes_eq word own) (Some (make a)) other e is (λ same given. found (here whole word own (One a) (make a) e same (h a) (some_same _ _ given))) later
  line_only whole (two own make) word (Two a b) other e h is found later =
      if_some (bytes_eq word own) (Some (make a b)) other e is (λ same given. found (here whole word own (Two a b) (make a b) e same (h a b) (some_same _ _ given))) later
  line_only whole (three own make) word (Three a b d) other e h is found later =
      if_some (bytes_eq word own) (Some (make a b d)) other e is
      (λ same given. found (here whole word own (Three a b d) (make a b d) e same (h a b d) (some_same _ _ given))) later
  line_only whole (count own make) word (One a) other e h is found later =
      if_some (bytes_eq word own) (option_and_then (λ n. Some (make n)) (count_of a)) other e is
      (λ same given. option_and_then_some (λ n. Some (make n)) (count_of a) e given (λ n counts made.
      let fits = count_only a n counts in
      found (here whole word own (One a) (make a) e same ((h a).0, λ holds. (h a).1 fits.1) (ap make fits.0 ∙ some_same _ _ made)))) later
  line_only whole (number_and_count own make) word (Two a b) other e h is found later =
      if_some (bytes_eq word own) (option_and_then (λ n. Some (make a n)) (count_of b)) other e is
      (λ same given. option_and_then_some (λ n. Some (make a n)) (count_of b) e given (λ n counts made.
      let fits = count_only b n counts in
      found (here whole word own (Two a b) (make a b) e same ((h a b).0, λ holds. (h a b).1 (holds.0, fits.1)) (ap (make a) fits.0 ∙ some_same _ _ made)))) later
  line_only whole _ word _ other e h is found later = later is

  pub table_only : (whole : List ℕ → List ℕ) (ls : List (Line E)) (word : List ℕ) (numbers : Numbers) (e : E) → AreSaid whole ls
      → of_table ls word numbers ≡ Some e → IsFound (whole word) numbers e
  table_only whole [] word numbers e h is = absurd (cc)
  table_only whole (l ∷ ls) word numbers e h is =
      line_only whole l word numbers (of_table ls word numbers) e h.0 is (λ found. found) (table_only whole ls word numbers e h.1)
