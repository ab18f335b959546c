-- tests of names, and what is chosen by them
use Rattle.std.proofs.Common.{◌≡◌, ◌≢◌, ℕ, ◌==◌, Bool, true, false, cond, eqb, refl, ap, ◌∙◌, arith, Result, Ok, Err, OnErr, not, ◌&&◌}
use Rattle.std.specs.Ordering.{nat_cmp, eq_by_cmp}
use Rattle.std.specs.Cmp.{unsigned_tied}
use Rattle.std.proofs.lemmas.Bool.{eqb-true, eqb-false, eq-eqb, ne_eqb}
use Rattle.std.proofs.lemmas.Bool.Decides.{nat_tests}

-- ---- whether two names are one, as each test of them says it
pub test_same : (m n : ℕ) → m ≡ n → eqb m n ≡ true
test_same m n same = grind (arith, nat_tests)

pub test_differs : (m n : ℕ) → m ≢ n → eqb m n ≡ false
test_differs m n differs = grind (arith, nat_tests)

pub same_test : (a b : ℕ) → eq_by_cmp nat_cmp a b ≡ (b == a)
same_test a b = grind (arith, nat_tests)

pub tied_same : (q n : ℕ) → q ≡ n → eq_by_cmp nat_cmp q n ≡ true
tied_same q n same = unsigned_tied q n ∙ grind (arith, nat_tests)

pub tied_differs : (q n : ℕ) → q ≢ n → eq_by_cmp nat_cmp q n ≡ false
tied_differs q n differs = unsigned_tied q n ∙ grind (arith, nat_tests)

-- ---- what is chosen by a test of names
pub at_same : {X : Type 0} (m n : ℕ) (x y : X) → m ≡ n → cond (m == n) x y ≡ x
at_same m n x y e = ap (λ b. cond b x y) (eq-eqb m n e)

pub at_apart : {X : Type 0} (m n : ℕ) (x y : X) → (m ≡ n → ⊥) → cond (m == n) x y ≡ y
at_apart m n x y e = ap (λ b. cond b x y) (ne_eqb m n e)

-- two names are one or apart
pub by_name : {Z : Type 0} (m n : ℕ) → (m ≡ n → Z) → ((m ≡ n → ⊥) → Z) → Z
by_name {Z} m n one apart = by_test (m == n) refl
  where
    by_test : (t : Bool) → (m == n) ≡ t → Z
    by_test true h = one (eqb-true m n h)
    by_test false h = apart (eqb-false m n h)

-- what is chosen last stays
pub last_stays : {X : Type 0} (t : Bool) (u v w : X) → cond t u (cond t v w) ≡ cond t u w
last_stays true u v w = refl
last_stays false u v w = refl

-- ---- what counts where a test holds, and nothing else
pub on_true : (b : Bool) (n : ℕ) → b ≡ true → cond b n 0 ≡ n
on_true true n h = refl
on_true false n h = absurd (cc)

pub on_false : (b : Bool) (n : ℕ) → b ≡ false → cond b n 0 ≡ 0
on_false true n h = absurd (cc)
on_false false n h = refl

-- ---- what holds anyway holds where there is an error
pub on_err : {A E : Type 0} (r : Result A E) (P : Type 0) → P → OnErr r P
on_err (Ok a) P p = tt
on_err (Err e) P p = p

-- ---- what is not named any more and of which nothing is left
pub over_is : (named : Bool) (n : ℕ) → (not named && n == 0) ≡ true → (named ≡ false) × (n ≡ 0)
over_is true n is = absurd (cc)
over_is false n is = (refl, eqb-true n 0 is)

-- ---- what counts where two tests hold, of which the first does not
pub on_first_false : (b c : Bool) → b ≡ false → ◌≡◌ {A = ℕ} (cond (b && c) 1 0) 0
on_first_false true c is = absurd (cc)
on_first_false false c is = refl
