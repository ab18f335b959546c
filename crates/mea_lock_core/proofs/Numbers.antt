-- numbers in an order
use Rattle.std.proofs.Common.{◌≡◌, ◌≢◌, ℕ, List, [], ◌∷◌, ◌++◌, Bool, true, false, not, ◌||◌, eqb, refl, sym, ap, ◌∙◌, inl, inr}
use Rattle.std.proofs.lemmas.Bool.{cases_eq}
use Rattle.std.specs.List.{list_any}
use Rattle.mea_base.specs.WaitList.{without}
use Rattle.mea_base.proofs.Tests.{test_same, test_differs}

pub any_cons : (m k : ℕ) (ks : List ℕ) → k ≢ m → list_any (λ j. eqb j m) (k ∷ ks) ≡ list_any (λ j. eqb j m) ks
any_cons m k ks differs = rw (test_differs k m differs) refl

-- at the head, and behind it
pub any_here : (n : ℕ) (ns : List ℕ) → list_any (λ k. eqb k n) (n ∷ ns) ≡ true
any_here n ns = rw (test_same n n refl) refl

pub any_behind : (m n : ℕ) (ns : List ℕ) → list_any (λ k. eqb k m) ns ≡ true → list_any (λ k. eqb k m) (n ∷ ns) ≡ true
any_behind m n ns linked = by_test (eqb n m) linked
  where
    by_test : (b : Bool) → list_any (λ k. eqb k m) ns ≡ true → (b || list_any (λ k. eqb k m) ns) ≡ true
    by_test true linked = refl
    by_test false linked = linked

-- at the end
pub any_end : (m n : ℕ) (ns : List ℕ) → n ≢ m → list_any (λ k. eqb k m) (ns ++ n ∷ []) ≡ list_any (λ k. eqb k m) ns
any_end m n [] differs = rw (test_differs n m differs) refl
any_end m n (k ∷ ks) differs = ap (λ b. eqb k m || b) (any_end m n ks differs)

pub any_end_here : (n : ℕ) (ns : List ℕ) → list_any (λ k. eqb k n) (ns ++ n ∷ []) ≡ true
any_end_here n [] = rw (test_same n n refl) refl
any_end_here n (k ∷ ks) = by_test (eqb k n) (any_end_here n ks)
  where
    by_test : (b : Bool) → list_any (λ j. eqb j n) (ks ++ n ∷ []) ≡ true → (b || list_any (λ j. eqb j n) (ks ++ n ∷ [])) ≡ true
    by_test true here = refl
    by_test false here = here

-- without one
pub any_without : (m n : ℕ) (ns : List ℕ) → m ≢ n → list_any (λ k. eqb k m) (without n ns) ≡ list_any (λ k. eqb k m) ns
any_without m n [] differs = refl
any_without m n (k ∷ ks) differs =
    let rest = any_without m n ks differs in
    elim (cases_eq k n) [
      | inl same ↦ rw (ap not (test_same k n same), test_differs k m (λ e. differs (sym e ∙ same))) rest
      | inr stays ↦ rw (ap not (test_differs k n stays)) (ap (λ b. eqb k m || b) rest)
    ]
