-- who is admitted first is an order, as weights are above 0
use Rattle.std.proofs.Common.{◌≡◌, ℕ, zero, ◌*◌, ◌<◌, ◌≤◌, ◌==◌, ◌&&◌, ◌||◌, ◌⊎◌, inl, inr, Bool, true, false, cond, Option, Some, None, refl, ap, nat_lt, arith}
use mathlib.Core.HLevel.{is_prop→PathP}
use native.Mathlib.Bridge.{le_prop}
use Rattle.std.specs.Option.{option_eq}
use Rattle.std.proofs.lemmas.Bool.{eqb-true}
use Rattle.std.proofs.Math.Nat.{mul_right_comm, mul-le-mul_right, le_of_mul-le-mul_right}
use Rattle.std.proofs.lemmas.Bool.Decides.{nat_tests}
use Rattle.mea_share_core.specs.declared.rank.Rank.{Rank}
use Rattle.mea_share_core.specs.Rank.{is_before, lesser, NotBefore}

-- fractions that are not less chain
chains : (ah aw bh bw ch cw : ℕ) → zero < bw → bh * aw ≤ ah * bw → ch * bw ≤ bh * cw → ch * aw ≤ ah * cw
chains ah aw bh bw ch cw some first second =
    let e1 : ch * aw * bw ≡ ch * bw * aw = mul_right_comm ch aw bw in
    let l1 : ch * bw * aw ≤ bh * cw * aw = mul-le-mul_right aw second in
    let e2 : bh * cw * aw ≡ bh * aw * cw = mul_right_comm bh cw aw in
    let l2 : bh * aw * cw ≤ ah * bw * cw = mul-le-mul_right cw first in
    let e3 : ah * bw * cw ≡ ah * cw * bw = mul_right_comm ah bw cw in
    le_of_mul-le-mul_right (omega (arith, e1, l1, e2, l2, e3)) some

-- what the test says where it fails
pub reads : (x y s t : ℕ) → nat_lt x y || ((x == y) && nat_lt s t) ≡ false → (y ≤ x) × (x ≡ y → t ≤ s)
reads x y s t is = (grind (arith, nat_tests), λ same. grind (arith, nat_tests))

tells : (x y s t : ℕ) → y ≤ x → (x ≡ y → t ≤ s) → nat_lt x y || ((x == y) && nat_lt s t) ≡ false
tells x y s t le same = grind (arith, nat_tests)

passes : (a b c : Rank) → is_before a b ≡ false → is_before b c ≡ false → is_before a c ≡ false
passes a b c p q =
    let ab = reads (a.held * b.weight) (b.held * a.weight) a.sequence b.sequence p in
    let bc = reads (b.held * c.weight) (c.held * b.weight) b.sequence c.sequence q in
    let ac : c.held * a.weight ≤ a.held * c.weight = chains a.held a.weight b.held b.weight c.held c.weight b.positive ab.0 bc.0 in
    tells (a.held * c.weight) (c.held * a.weight) a.sequence c.sequence ac (λ same.
    let ba : a.held * b.weight ≤ b.held * a.weight = chains b.held b.weight c.held c.weight a.held a.weight c.positive bc.0 (omega (arith, same)) in
    let cb : b.held * c.weight ≤ c.held * b.weight = chains c.held c.weight a.held a.weight b.held b.weight a.positive (omega (arith, same)) ab.0 in
    let first : b.sequence ≤ a.sequence = ab.1 (omega (arith, ba, ab.0)) in
    let second : c.sequence ≤ b.sequence = bc.1 (omega (arith, cb, bc.0)) in
    omega (arith, first, second))

itself : (a : Rank) → is_before a a ≡ false
itself a = tells (a.held * a.weight) (a.held * a.weight) a.sequence a.sequence (omega arith) (λ _. omega arith)

-- of two at most one is before the other
turns : (a b : Rank) → is_before b a ≡ true → is_before a b ≡ false
turns a b is = grind (arith, nat_tests)

pub not_itself : (a : Option Rank) → NotBefore a a
not_itself None = tt
not_itself (Some a) = itself a

pub chain : (a b c : Option Rank) → NotBefore a b → NotBefore b c → NotBefore a c
chain None b c p q = tt
chain (Some a) None c p q = absurd (cc)
chain (Some a) (Some b) None p q = absurd (cc)
chain (Some a) (Some b) (Some c) p q = passes a b c p q

-- neither of two is before the lesser, which is one of them
pub not_left : (a b : Option Rank) → NotBefore a (lesser a b)
not_left None b = tt
not_left (Some a) None = itself a
not_left (Some a) (Some b) = by_test (is_before b a) refl
  where
    by_test : (t : Bool) → is_before b a ≡ t → NotBefore (Some a) (cond t (Some b) (Some a))
    by_test true is = turns a b is
    by_test false is = itself a

pub not_right : (a b : Option Rank) → NotBefore b (lesser a b)
not_right None b = not_itself b
not_right (Some a) None = tt
not_right (Some a) (Some b) = by_test (is_before b a) refl
  where
    by_test : (t : Bool) → is_before b a ≡ t → NotBefore (Some b) (cond t (Some b) (Some a))
    by_test true is = itself b
    by_test false is = is

pub one_of : (a b : Option Rank) → (lesser a b ≡ a) ⊎ (lesser a b ≡ b)
one_of None b = inr refl
one_of (Some a) None = inl refl
one_of (Some a) (Some b) = by_test (is_before b a)
  where
    by_test : (t : Bool) → (cond t (Some b) (Some a) ≡ Some a) ⊎ (cond t (Some b) (Some a) ≡ Some b)
    by_test true = inr refl
    by_test false = inl refl

-- ranks of the same numbers are the same
same : (a b : Rank) → a.held ≡ b.held → a.weight ≡ b.weight → a.sequence ≡ b.sequence → a.group ≡ b.group → a ≡ b
same a b held weight sequence group = λ i. record {
  held = held i;
  weight = weight i;
  sequence = sequence i;
  group = group i;
  positive = is_prop→PathP (λ j. zero < weight j) (λ j. le_prop) a.positive b.positive i;
}

abbrev alike : Rank → Rank → Bool
alike a b = (a.held == b.held) && ((a.weight == b.weight) && ((a.sequence == b.sequence) && (a.group == b.group)))

both : (p q : Bool) → p && q ≡ true → (p ≡ true) × (q ≡ true)
both true q is = (refl, is)
both false q is = absurd (cc)

-- what the test of two ranks says where it passes
pub same_ranks : (a b : Option Rank) → option_eq alike a b ≡ true → a ≡ b
same_ranks None None is = refl
same_ranks None (Some b) is = absurd (cc)
same_ranks (Some a) None is = absurd (cc)
same_ranks (Some a) (Some b) is =
    let held = both (a.held == b.held) ((a.weight == b.weight) && ((a.sequence == b.sequence) && (a.group == b.group))) is in
    let weight = both (a.weight == b.weight) ((a.sequence == b.sequence) && (a.group == b.group)) held.1 in
    let sequence = both (a.sequence == b.sequence) (a.group == b.group) weight.1 in
    ap (λ r. Some r) (same a b (eqb-true a.held b.held held.0) (eqb-true a.weight b.weight weight.0) (eqb-true a.sequence b.sequence sequence.0) (eqb-true a.group b.group sequence.1))
