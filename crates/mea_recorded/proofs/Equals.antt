-- values of an enum that its derived comparison says are equal
use Rattle.std.proofs.Common.{◌≡◌, ℕ, Bool, true, false, ◌&&◌, ◌==◌, List, [], ◌∷◌, ap, refl, inl, inr}
use Rattle.std.proofs.lemmas.Bool.{eqb-true, and_parts}
use Rattle.mea_family.specs.declared.ledger.Ledger.{Ledger}
use denote.Struct.Field.{Field}
use denote.Struct.Values.{Values}
use denote.Enum.Compared.{Each, by}
use denote.Enum.Declared.{Record, Choice, values_one}

-- the test of each variant tells that all fields are equal
abbrev pub Tells : (Fss : List (List Field)) → Each Bool Fss → Type 0
Tells [] each = Unit {0}
Tells (Fs ∷ Fss) each = ((x y : Values Fs) → each.0 x y ≡ true → x ≡ y) × Tells Fss each.1

choices_one : (Fss : List (List Field)) (each : Each Bool Fss) → Tells Fss each → (c d : Choice Fss) → by false false Fss each c d ≡ true → c ≡ d
choices_one [] each all c d e = absurd c
choices_one (Fs ∷ Fss) each all (inl x) (inl y) e = ap inl (all.0 x y e)
choices_one (Fs ∷ Fss) each all (inl x) (inr y) e = absurd (cc)
choices_one (Fs ∷ Fss) each all (inr x) (inl y) e = absurd (cc)
choices_one (Fs ∷ Fss) each all (inr x) (inr y) e = ap inr (choices_one Fss each.1 all.1 x y e)

pub values_of_one : (N : Record) (each : Each Bool N.parts) → Tells N.parts each → (x y : N.D) → by false false N.parts each (N.as_values x) (N.as_values y) ≡ true → x ≡ y
values_of_one N each all x y e = values_one N x y (choices_one N.parts each all (N.as_values x) (N.as_values y) e)

-- ---- a variant with no field, with one number, with two
pub bare : (x y : Unit {0}) → true ≡ true → x ≡ y
bare x y e = refl

pub number : (x y : ℕ × Unit {0}) → (x.0 == y.0) ≡ true → x ≡ y
number x y e = λ i. (eqb-true x.0 y.0 e i, tt)

pub numbers : (x y : ℕ × (ℕ × Unit {0})) → (x.0 == y.0 && x.1.0 == y.1.0) ≡ true → x ≡ y
numbers x y e = λ i. (eqb-true x.0 y.0 (and_parts (x.0 == y.0) (x.1.0 == y.1.0) e).0 i, (eqb-true x.1.0 y.1.0 (and_parts (x.0 == y.0) (x.1.0 == y.1.0) e).1 i, tt))

-- two accounts that are equal in each number
pub account : (x y : Ledger × Unit {0})
    → (x.0.made == y.0.made && (x.0.released == y.0.released && (x.0.owed == y.0.owed && (x.0.free == y.0.free && (x.0.held == y.0.held && (x.0.paid == y.0.paid && x.0.forgotten == y.0.forgotten)))))) ≡ true
    → x ≡ y
account x y e =
    let one = and_parts (x.0.made == y.0.made) _ e in
    let two = and_parts (x.0.released == y.0.released) _ one.1 in
    let three = and_parts (x.0.owed == y.0.owed) _ two.1 in
    let four = and_parts (x.0.free == y.0.free) _ three.1 in
    let five = and_parts (x.0.held == y.0.held) _ four.1 in
    let six = and_parts (x.0.paid == y.0.paid) _ five.1 in
    λ i. (
      record {
        made = eqb-true x.0.made y.0.made one.0 i;
        released = eqb-true x.0.released y.0.released two.0 i;
        owed = eqb-true x.0.owed y.0.owed three.0 i;
        free = eqb-true x.0.free y.0.free four.0 i;
        held = eqb-true x.0.held y.0.held five.0 i;
        paid = eqb-true x.0.paid y.0.paid six.0 i;
        forgotten = eqb-true x.0.forgotten y.0.forgotten six.1 i;
      },
      tt,
    )
