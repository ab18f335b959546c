-- how many calls wait, after one entry has changed
use Rattle.std.proofs.Common.{◌≡◌, ◌≢◌, ◌∙◌, ℕ, suc, zero, ◌+◌, ◌≤◌, ◌⊎◌, inl, inr, List, [], ◌∷◌, Option, Some, refl, ap, sym, arith}
use Rattle.std.proofs.lemmas.Bool.{cases_eq}
use Rattle.std.proofs.lemmas.List.Sums.{sum_by-cons}
use Rattle.std.specs.Option.{option_map}
use Rattle.mea_once_core.specs.Links.{Shown, shown, shown_at, Changes}
use Rattle.mea_once_core.specs.Waiting.{waiting_at, waiting_in, AreQuiet}
use Rattle.mea_once_core.specs.declared.entry.Entry.{Entry}

module _ {V W : Type 0} where
  w_of : Option (Entry V W) → ℕ
  w_of o = waiting_at (option_map shown o)

  cons : (x : Option (Entry V W)) (xs : List (Option (Entry V W))) → waiting_in (x ∷ xs) ≡ waiting_at (option_map shown x) + waiting_in xs
  cons x xs = sum_by-cons {X = Option (Entry V W)} (λ o. waiting_at (option_map shown o)) x xs

  -- equal look-ups are equal sums
  pub same-waiting : (xs ys : List (Option (Entry V W))) → ((m : ℕ) → waiting_at (shown_at ys m) ≡ waiting_at (shown_at xs m)) → waiting_in ys ≡ waiting_in xs
  same-waiting [] [] h = refl
  same-waiting [] (y ∷ ys) h =
      let here : waiting_at (option_map shown y) ≡ 0 = h 0 in
      let rest : waiting_in ys ≡ waiting_in {V = V} {W = W} [] = same-waiting [] ys (λ m. h (suc m)) in
      let none : waiting_in {V = V} {W = W} [] ≡ 0 = refl in
      cons y ys ∙ (omega arith)
  same-waiting (x ∷ xs) [] h =
      let here : 0 ≡ waiting_at (option_map shown x) = h 0 in
      let rest : waiting_in {V = V} {W = W} [] ≡ waiting_in xs = same-waiting xs [] (λ m. h (suc m)) in
      let none : waiting_in {V = V} {W = W} [] ≡ 0 = refl in
      let all : waiting_in (x ∷ xs) ≡ waiting_at (option_map shown x) + waiting_in xs = cons x xs in
      omega arith
  same-waiting (x ∷ xs) (y ∷ ys) h =
      let here : waiting_at (option_map shown y) ≡ waiting_at (option_map shown x) = h 0 in
      let rest : waiting_in ys ≡ waiting_in xs = same-waiting xs ys (λ m. h (suc m)) in
      cons y ys ∙ (omega arith) ∙ sym (cons x xs)

  pub changed-waiting : (xs ys : List (Option (Entry V W))) (n : ℕ) → ((m : ℕ) → m ≢ n → waiting_at (shown_at ys m) ≡ waiting_at (shown_at xs m))
      → waiting_in ys + waiting_at (shown_at xs n) ≡ waiting_in xs + waiting_at (shown_at ys n)
  changed-waiting [] [] n h = refl
  changed-waiting [] (y ∷ ys) zero h =
      let rest : waiting_in ys ≡ waiting_in {V = V} {W = W} [] = same-waiting [] ys (λ m. h (suc m) (λ e. absurd (omega arith))) in
      let none : waiting_in {V = V} {W = W} [] ≡ 0 = refl in
      let all : waiting_in (y ∷ ys) ≡ waiting_at (option_map shown y) + waiting_in ys = cons y ys in
      omega arith
  changed-waiting [] (y ∷ ys) (suc n) h =
      let here : waiting_at (option_map shown y) ≡ 0 = h 0 (λ e. absurd (omega arith)) in
      let rest : waiting_in ys + 0 ≡ waiting_in {V = V} {W = W} [] + waiting_at (shown_at ys n) = changed-waiting [] ys n (λ m differs. h (suc m) (λ e. differs (omega arith))) in
      let all : waiting_in (y ∷ ys) ≡ waiting_at (option_map shown y) + waiting_in ys = cons y ys in
      omega arith
  changed-waiting (x ∷ xs) [] zero h =
      let rest : waiting_in {V = V} {W = W} [] ≡ waiting_in xs = same-waiting xs [] (λ m. h (suc m) (λ e. absurd (omega arith))) in
      let none : waiting_in {V = V} {W = W} [] ≡ 0 = refl in
      let all : waiting_in (x ∷ xs) ≡ waiting_at (option_map shown x) + waiting_in xs = cons x xs in
      omega arith
  changed-waiting (x ∷ xs) [] (suc n) h =
      let here : 0 ≡ waiting_at (option_map shown x) = h 0 (λ e. absurd (omega arith)) in
      let rest : waiting_in {V = V} {W = W} [] + waiting_at (shown_at xs n) ≡ waiting_in xs + 0 = changed-waiting xs [] n (λ m differs. h (suc m) (λ e. differs (omega arith))) in
      let all : waiting_in (x ∷ xs) ≡ waiting_at (option_map shown x) + waiting_in xs = cons x xs in
      omega arith
  changed-waiting (x ∷ xs) (y ∷ ys) zero h =
      let rest : waiting_in ys ≡ waiting_in xs = same-waiting xs ys (λ m. h (suc m) (λ e. absurd (omega arith))) in
      let before : waiting_in (x ∷ xs) ≡ waiting_at (option_map shown x) + waiting_in xs = cons x xs in
      let after : waiting_in (y ∷ ys) ≡ waiting_at (option_map shown y) + waiting_in ys = cons y ys in
      omega arith
  changed-waiting (x ∷ xs) (y ∷ ys) (suc n) h =
      let here : waiting_at (option_map shown y) ≡ waiting_at (option_map shown x) = h 0 (λ e. absurd (omega arith)) in
      let rest : waiting_in ys + waiting_at (shown_at xs n) ≡ waiting_in xs + waiting_at (shown_at ys n) = changed-waiting xs ys n (λ m differs. h (suc m) (λ e. differs (omega arith))) in
      let before : waiting_in (x ∷ xs) ≡ waiting_at (option_map shown x) + waiting_in xs = cons x xs in
      let after : waiting_in (y ∷ ys) ≡ waiting_at (option_map shown y) + waiting_in ys = cons y ys in
      omega arith

  pub at-most : (xs : List (Option (Entry V W))) (n : ℕ) → waiting_at (shown_at xs n) ≤ waiting_in xs
  at-most [] n = omega arith
  at-most (x ∷ xs) zero = let all : waiting_in (x ∷ xs) ≡ waiting_at (option_map shown x) + waiting_in xs = cons x xs in omega arith
  at-most (x ∷ xs) (suc n) = let all : waiting_in (x ∷ xs) ≡ waiting_at (option_map shown x) + waiting_in xs = cons x xs in let rest = at-most xs n in omega arith

  pub waiting-changes : (xs ys : List (Option (Entry V W))) (n : ℕ) (o p : Option (Shown V W)) → shown_at xs n ≡ o → Changes xs ys n p → waiting_in ys + waiting_at o ≡ waiting_in xs + waiting_at p
  waiting-changes xs ys n o p is c =
      let sum : waiting_in ys + waiting_at (shown_at xs n) ≡ waiting_in xs + waiting_at (shown_at ys n) = changed-waiting xs ys n (λ m differs. ap waiting_at (c.others m differs)) in
      let before : waiting_at (shown_at xs n) ≡ waiting_at o = ap waiting_at is in
      let after : waiting_at (shown_at ys n) ≡ waiting_at p = ap waiting_at c.changed in
      omega arith

  pub quiet-changes : (xs ys : List (Option (Entry V W))) (n : ℕ) (p : Option (Shown V W)) → ((e : Shown V W) → p ≡ Some e → e.cell.permit.wakes ≡ []) → Changes xs ys n p → AreQuiet xs → AreQuiet ys
  quiet-changes xs ys n p rests c quiet = λ m e there. by_number m e there (cases_eq m n)
    where
      by_number : (m : ℕ) (e : Shown V W) → shown_at ys m ≡ Some e → (m ≡ n) ⊎ (m ≡ n → ⊥) → e.cell.permit.wakes ≡ []
      by_number m e there (inl same) = rests e (sym c.changed ∙ ap (shown_at ys) (sym same) ∙ there)
      by_number m e there (inr other) = quiet m e (sym (c.others m other) ∙ there)
