-- the words of the command line
use Rattle.std.proofs.Common.{◌≡◌, ℕ, suc, ◌-◌, ◌≤◌, Bool, true, false, cond, List, [], ◌∷◌, map, length, take, drop, get_or, Option, Some, None, refl, ap, sym, subst, ◌∙◌, arith}
use Rattle.std.specs.Fmt.{decimal}
use Rattle.std.specs.Str.{bytes_eq}
use Rattle.std.proofs.lemmas.Slice.Eq.{bytes_eq-Decides}
use Rattle.std.proofs.lemmas.List.{take_all}
use Rattle.mea_base.proofs.Maps.{inside}
use Rattle.mea_text.specs.declared.numbers.Numbers.{Numbers}
use Rattle.mea_text.specs.declared.numbers.Numbers.TheVariants.{Bare, One, Two, Three}
use Rattle.mea_text.specs.Number.{number_of, AreFit}
use Rattle.mea_text.specs.Words.{◌>>=◌, listed}
use Rattle.mea_text.specs.Command.{IsCommand, IsSpelled, numbers_in, numbers_after, two_of}
use Rattle.mea_text.proofs.Numerals.{number_of-decimal, number_only}
use Rattle.mea_text.proofs.Tables.{same_bytes}

-- a first word and those after it
pub first_word : {A B : Type 0} (f : A → B) (xs : List A) (x : A) → 1 ≤ length xs → x ≡ get_or xs 0 x → map f xs ≡ f x ∷ map f (take (length xs - 1) (drop 1 xs))
first_word f [] x some is = absurd (omega arith)
first_word f (u ∷ us) x some is = (λ i. f (sym is i) ∷ map f (sym (take_all (suc (length us) - 1) us (omega arith)) i))

-- ---- what they spell
if_some : {A : Type 0} (b : Bool) (o : Option A) (x : A) → cond b o None ≡ Some x → (b ≡ true) × (o ≡ Some x)
if_some true o x is = (refl, is)
if_some false o x is = absurd (cc)

then_some : {A B : Type 0} (o : Option A) (f : A → Option B) (y : B) → (o >>= f) ≡ Some y → (x : A) × (o ≡ Some x) × (f x ≡ Some y)
then_some None f y is = absurd (cc)
then_some (Some x) f y is = (x, refl, is)

-- words that spell numbers are their spellings
abbrev AreThe : List (List ℕ) → Numbers → Type 0
AreThe words numbers = (words ≡ map decimal (listed numbers)) × AreFit (listed numbers)

spelled : (words : List (List ℕ)) (numbers : Numbers) → numbers_in words ≡ Some numbers → AreThe words numbers
spelled [] numbers is = subst (AreThe []) (inside is) (refl, tt)
spelled (first ∷ []) numbers is =
    let one = then_some (number_of first) _ numbers is in
    let a = number_only first one.0 one.1 in
    subst (AreThe (first ∷ [])) (inside one.2) ((λ i. a.0 i ∷ []), (a.1, tt))
spelled (first ∷ second ∷ []) numbers is =
    let one = then_some (number_of first) _ numbers is in
    let two = then_some (number_of second) _ numbers one.2 in
    let a = number_only first one.0 one.1 in
    let b = number_only second two.0 two.1 in
    subst (AreThe (first ∷ second ∷ [])) (inside two.2) ((λ i. a.0 i ∷ b.0 i ∷ []), (a.1, (b.1, tt)))
spelled (first ∷ second ∷ third ∷ []) numbers is =
    let one = then_some (number_of first) _ numbers is in
    let two = then_some (number_of second) _ numbers one.2 in
    let three = then_some (number_of third) _ numbers two.2 in
    let a = number_only first one.0 one.1 in
    let b = number_only second two.0 two.1 in
    let d = number_only third three.0 three.1 in
    subst (AreThe (first ∷ second ∷ third ∷ [])) (inside three.2) ((λ i. a.0 i ∷ b.0 i ∷ d.0 i ∷ []), (a.1, (b.1, (d.1, tt))))
spelled (first ∷ second ∷ third ∷ fourth ∷ words) numbers is = absurd (cc)

-- and the spellings of numbers spell them
spells : (numbers : Numbers) → AreFit (listed numbers) → numbers_in (map decimal (listed numbers)) ≡ Some numbers
spells Bare fit = refl
spells (One a) fit = ap (λ o. o >>= (λ x. Some (One x))) (number_of-decimal a fit.0)
spells (Two a b) fit =
    ap (λ o. o >>= (λ x. number_of (decimal b) >>= (λ y. Some (Two x y)))) (number_of-decimal a fit.0)
    ∙ ap (λ o. o >>= (λ y. Some (Two a y))) (number_of-decimal b fit.1.0)
spells (Three a b d) fit =
    ap (λ o. o >>= (λ x. number_of (decimal b) >>= (λ y. number_of (decimal d) >>= (λ z. Some (Three x y z))))) (number_of-decimal a fit.0)
    ∙ ap (λ o. o >>= (λ y. number_of (decimal d) >>= (λ z. Some (Three a y z)))) (number_of-decimal b fit.1.0)
    ∙ ap (λ o. o >>= (λ z. Some (Three a b z))) (number_of-decimal d fit.1.1.0)

-- ---- a name, and numbers after it
pub numbers_only : (name word : List ℕ) (words : List (List ℕ)) (numbers : Numbers) → numbers_after name word words ≡ Some numbers → IsSpelled name (word ∷ words) numbers
numbers_only name word words numbers is =
    let named = if_some (bytes_eq word name) (numbers_in words) numbers is in
    let are = spelled words numbers named.1 in
    ((λ i. same_bytes word name named.0 i ∷ are.0 i), are.1)

pub numbers_back : (name word : List ℕ) (words : List (List ℕ)) (numbers : Numbers) → IsSpelled name (word ∷ words) numbers → numbers_after name word words ≡ Some numbers
numbers_back name word words numbers command =
    let same : word ≡ name = ap (λ (ws : List (List ℕ)). get_or ws 0 []) command.0 in
    let rest : words ≡ map decimal (listed numbers) = ap tail command.0 in
    (λ i. numbers_after name (same i) (rest i))
    ∙ ap (λ t. cond t (numbers_in (map decimal (listed numbers))) None) ((bytes_eq-Decides name name).1 refl)
    ∙ spells numbers command.1
  where
    tail : List (List ℕ) → List (List ℕ)
    tail [] = []
    tail (w ∷ ws) = ws

-- two numbers
pub two_only : (name : List ℕ) (words : List (List ℕ)) (first second : ℕ) → IsSpelled name words (Two first second) → IsCommand name words first second
two_only name words first second is = (is.0, is.1.0, is.1.1.0)

pub two_back : (name : List ℕ) (words : List (List ℕ)) (first second : ℕ) → IsCommand name words first second → IsSpelled name words (Two first second)
two_back name words first second is = (is.0, (is.1, (is.2, tt)))

pub two_some : (o : Option Numbers) (first second : ℕ) → two_of o ≡ Some (first, second) → o ≡ Some (Two first second)
two_some None first second is = absurd (cc)
two_some (Some Bare) first second is = absurd (cc)
two_some (Some (One a)) first second is = absurd (cc)
two_some (Some (Two a b)) first second is =
    let same : ◌≡◌ {A = ℕ × ℕ} (a, b) (first, second) = inside is in
    λ i. Some (Two (same i).0 (same i).1)
two_some (Some (Three a b d)) first second is = absurd (cc)
