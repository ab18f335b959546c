-- what stands under each number of a queue after one has left it
use Rattle.std.proofs.Common.{◌≡◌, ℕ, ◌==◌, true, false, cond, List, [], ◌∷◌, Some, refl, ap, sym, ◌∙◌}
use Rattle.std.proofs.lemmas.Bool.{eqb-true, eqb-false, ne_eqb}
use Rattle.mea_sem_core.specs.Core.{Waiter, Acquires, Owes, waiting, AreApart}
use Rattle.mea_sem_core.specs.Calls.{without_acquire}

module _ {W : Type 0} where
  -- all others wait as they did
  pub waiting-without : (q : List (Waiter W × ℕ)) (n m : ℕ) → (n ≡ m → ⊥) → waiting (without_acquire q n) m ≡ waiting q m
  waiting-without [] n m apart = refl
  waiting-without ((Acquires k d v, l) ∷ q) n m apart = elim (k == n)
      as (λ b. (k == n) ≡ b → waiting (cond b (without_acquire q n) ((Acquires k d v, l) ∷ without_acquire q n)) m ≡ cond (k == m) (Some (d, l)) (waiting q m)) [
        | true ↦ λ e. waiting-without q n m apart ∙ sym (ap (λ b. cond b (Some (d, l)) (waiting q m)) (ne_eqb k m (λ same. apart (sym (eqb-true k n e) ∙ same))))
        | false ↦ λ e. ap (cond (k == m) (Some (d, l))) (waiting-without q n m apart)
      ] refl
  waiting-without ((Owes, l) ∷ q) n m apart = waiting-without q n m apart

  -- numbers that stood once stand once still
  pub AreApart-without : (q : List (Waiter W × ℕ)) (n : ℕ) → AreApart q → AreApart (without_acquire q n)
  AreApart-without [] n apart = tt
  AreApart-without ((Acquires k d v, l) ∷ q) n apart = elim (k == n) as (λ b. (k == n) ≡ b → AreApart (cond b (without_acquire q n) ((Acquires k d v, l) ∷ without_acquire q n))) [
    | true ↦ λ is. AreApart-without q n apart.1
    | false ↦ λ is. (waiting-without q n k (λ same. eqb-false k n is (sym same)) ∙ apart.0, AreApart-without q n apart.1)
  ] refl
  AreApart-without ((Owes, l) ∷ q) n apart = AreApart-without q n apart
