-- what stands at each name of a finite map after a change, and what its sums are then
use Rattle.std.proofs.Common.{◌≡◌, ℕ, ◌+◌, ◌≤◌, ◌==◌, Bool, true, false, cond, Option, Some, None, unwrap_or, refl, ap, sym, subst, ◌∙◌, arith, is_some}
use Rattle.std.specs.Option.{IsSome, option_copied_mut}
use Rattle.std.specs.Ordering.{nat_cmp}
use Rattle.std.specs.FinMap.{FinMap, get, insert, remove, empty, get-empty}
use Rattle.std.proofs.lemmas.Bool.{eqb-true, eqb-false, eq-eqb, ne_eqb}
use Rattle.mea_base.specs.Totals.{total, weight}
use Rattle.mea_base.proofs.Totals.{get_inserted, get_removed, total-insert, total-remove}
use Rattle.std.specs.Borrow.{MutBor}

pub nothing_at : (X : Type 0) (k : ℕ) (x : X) → get (empty {X = X} {R = nat_cmp}) k ≡ Some x → ⊥
nothing_at X k x is = let none : get (empty {X = X} {R = nat_cmp}) k ≡ None = get-empty nat_cmp k in absurd (cc)

pub nothing_there : (X : Type 0) (k : ℕ) → IsSome (get (empty {X = X} {R = nat_cmp}) k) → ⊥
nothing_there X k some = let none : get (empty {X = X} {R = nat_cmp}) k ≡ None = get-empty nat_cmp k in absurd (cc)

module _ {X : Type 0} where
  -- what holds of a value put, and of each other name as it was
  pub by_put : (m : FinMap nat_cmp X) (k : ℕ) (x : X) (P : ℕ → Option X → Type 0) → P k (Some x) → ((f : ℕ) → (k ≡ f → ⊥) → P f (get m f)) → (f : ℕ)
      → P f (get (insert m k x) f)
  by_put m k x P here others f = subst (P f) (sym (get_inserted m k f x)) (at_test (k == f) refl)
    where
      at_test : (b : Bool) → (k == f) ≡ b → P f (cond b (Some x) (get m f))
      at_test true e = subst (λ j. P j (Some x)) (eqb-true k f e) here
      at_test false e = others f (eqb-false k f e)

  pub by_gone : (m : FinMap nat_cmp X) (k : ℕ) (P : ℕ → Option X → Type 0) → P k None → ((f : ℕ) → (k ≡ f → ⊥) → P f (get m f)) → (f : ℕ)
      → P f (get (remove m k) f)
  by_gone m k P here others f = subst (P f) (sym (get_removed m k f)) (at_test (k == f) refl)
    where
      at_test : (b : Bool) → (k == f) ≡ b → P f (cond b None (get m f))
      at_test true e = subst (λ j. P j None) (eqb-true k f e) here
      at_test false e = others f (eqb-false k f e)

  pub inside : {x y : X} → Some x ≡ Some y → x ≡ y
  inside {x} e = ap (λ o. unwrap_or o x) e

  -- the value of an option that has one
  pub value_in : (o : Option X) → IsSome o → (x : X) × (o ≡ Some x)
  value_in None some = absurd (cc)
  value_in (Some x) some = (x, refl)

  -- an option is not both
  pub not_both : (o : Option X) (x : X) → o ≡ None → o ≡ Some x → ⊥
  not_both o x none some = absurd (cc)

  pub is_there : (o : Option X) (x : X) → o ≡ Some x → IsSome o
  is_there o x is = ap is_some is

  pub is_absent : (o : Option X) → (IsSome o → ⊥) → o ≡ None
  is_absent None none = refl
  is_absent (Some x) none = absurd (none refl)

  -- what nothing can be is none
  pub none_if : (o : Option X) → ((x : X) → o ≡ Some x → ⊥) → o ≡ None
  none_if None nothing = refl
  none_if (Some x) nothing = absurd (nothing x refl)

  -- what is there is not none
  pub not_none : (o : Option X) → IsSome o → o ≡ None → ⊥
  not_none None there none = absurd (cc)
  not_none (Some x) there none = absurd (cc)

  -- what is lent of something is there
  pub lent_some : (o : Option (MutBor X)) → IsSome (option_copied_mut o) → IsSome o
  lent_some None some = absurd (cc)
  lent_some (Some x) some = refl

  pub is_some_of : (o p : Option X) → o ≡ p → IsSome o → IsSome p
  is_some_of o p is some = rw (← is) some

  pub get-there : (m : FinMap nat_cmp X) (k : ℕ) (x : X) → get (insert m k x) k ≡ Some x
  get-there m k x = get_inserted m k k x ∙ ap (λ b. cond b (Some x) (get m k)) (eq-eqb k k refl)

  pub get-other : (m : FinMap nat_cmp X) (k q : ℕ) (x : X) → (k ≡ q → ⊥) → get (insert m k x) q ≡ get m q
  get-other m k q x apart = get_inserted m k q x ∙ ap (λ b. cond b (Some x) (get m q)) (ne_eqb k q apart)

  pub get-removed_other : (m : FinMap nat_cmp X) (k q : ℕ) → (k ≡ q → ⊥) → get (remove m k) q ≡ get m q
  get-removed_other m k q apart = get_removed m k q ∙ ap (λ b. cond b None (get m q)) (ne_eqb k q apart)

  pub get-gone : (m : FinMap nat_cmp X) (k : ℕ) → get (remove m k) k ≡ None
  get-gone m k = get_removed m k k ∙ ap (λ b. cond b None (get m k)) (eq-eqb k k refl)

  -- who is there after a removal was there before, the same
  pub removed_there : (m : FinMap nat_cmp X) (k f : ℕ) (x : X) → get (remove m k) f ≡ Some x → get m f ≡ Some x
  removed_there m k f x = by_gone m k (λ j o. o ≡ Some x → get m j ≡ Some x) (λ e. absurd (cc)) (λ j apart e. e) f

  -- who was not there is not there after a removal
  pub removed_none : (m : FinMap nat_cmp X) (k f : ℕ) → get m f ≡ None → get (remove m k) f ≡ None
  removed_none m k f = by_gone m k (λ j o. get m j ≡ None → o ≡ None) (λ none. refl) (λ j apart none. none) f

  -- ---- a map with a value for the names that are not there
  module _ (d : X) where
    abbrev pub at_or : FinMap nat_cmp X → ℕ → X
    at_or m k = unwrap_or (get m k) d

    -- what holds of the value put, and at each other name as it was
    pub by_at_put : (m : FinMap nat_cmp X) (k : ℕ) (x : X) (P : ℕ → X → Type 0) → P k x → ((f : ℕ) → (k ≡ f → ⊥) → P f (at_or m f)) → (f : ℕ)
        → P f (at_or (insert m k x) f)
    by_at_put m k x P here others = by_put m k x (λ f o. P f (unwrap_or o d)) here others

    pub by_at_gone : (m : FinMap nat_cmp X) (k : ℕ) (P : ℕ → X → Type 0) → P k d → ((f : ℕ) → (k ≡ f → ⊥) → P f (at_or m f)) → (f : ℕ)
        → P f (at_or (remove m k) f)
    by_at_gone m k P here others = by_gone m k (λ f o. P f (unwrap_or o d)) here others

    pub at-there : (m : FinMap nat_cmp X) (k : ℕ) (x : X) → at_or (insert m k x) k ≡ x
    at-there m k x = ap (λ o. unwrap_or o d) (get-there m k x)

    pub at-other : (m : FinMap nat_cmp X) (k q : ℕ) (x : X) → (k ≡ q → ⊥) → at_or (insert m k x) q ≡ at_or m q
    at-other m k q x apart = ap (λ o. unwrap_or o d) (get-other m k q x apart)

    pub at-removed_other : (m : FinMap nat_cmp X) (k q : ℕ) → (k ≡ q → ⊥) → at_or (remove m k) q ≡ at_or m q
    at-removed_other m k q apart = ap (λ o. unwrap_or o d) (get-removed_other m k q apart)

    pub at-empty : (k : ℕ) → at_or (empty {X = X} {R = nat_cmp}) k ≡ d
    at-empty k = ap (λ o. unwrap_or o d) (get-empty nat_cmp k)

    -- ---- sums of sizes, where what is not there has none
    module _ (size : X → ℕ) (none : size d ≡ 0) where
      weighs : (k : ℕ) (o : Option X) → weight (λ j x. size x) k o ≡ size (unwrap_or o d)
      weighs k None = sym none
      weighs k (Some x) = refl

      pub sizes-put : (m : FinMap nat_cmp X) (k : ℕ) (x : X) → total (λ j y. size y) (insert m k x) + size (at_or m k) ≡ total (λ j y. size y) m + size x
      sizes-put m k x = omega (arith, weighs k (get m k), total-insert (λ j y. size y) m k x)

  pub total-gone : (f : ℕ → X → ℕ) (m : FinMap nat_cmp X) (k : ℕ) → total f (remove m k) ≤ total f m
  total-gone f m k = omega (arith, total-remove f m k)

  -- what is there counts
  pub total-has : (f : ℕ → X → ℕ) (m : FinMap nat_cmp X) (k : ℕ) (x : X) → get m k ≡ Some x → f k x ≤ total f m
  total-has f m k x is =
      let here : weight f k (get m k) ≡ f k x = ap (weight f k) is in
      omega (arith, here, total-remove f m k)
