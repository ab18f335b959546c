-- Slots up to the last value: same look-ups, same list.
use Rattle.std.proofs.Common.{◌≡◌, ℕ, zero, suc, List, [], ◌∷◌, get_or, set, Option, Some, None, IsSome, refl, sym, ap, ap₂, ◌∙◌}
use Rattle.mea_base.specs.WaitList.{cons_slot, trim, AllInUse}

module _ {T : Type 0} where
  get_or-cons_slot : (s : Option T) (ss : List (Option T)) (k : ℕ) → get_or (cons_slot s ss) k None ≡ get_or (s ∷ ss) k None
  get_or-cons_slot None [] zero = refl
  get_or-cons_slot None [] (suc k) = refl
  get_or-cons_slot None (s ∷ ss) k = refl
  get_or-cons_slot (Some v) ss k = refl

  pub get_or-trim : (ss : List (Option T)) (k : ℕ) → get_or (trim ss) k None ≡ get_or ss k None
  get_or-trim [] k = refl
  get_or-trim (s ∷ ss) zero = get_or-cons_slot s (trim ss) zero
  get_or-trim (s ∷ ss) (suc k) = get_or-cons_slot s (trim ss) (suc k) ∙ get_or-trim ss k

  trim-none : (ss : List (Option T)) → ((k : ℕ) → get_or ss k None ≡ None) → trim ss ≡ []
  trim-none [] none = refl
  trim-none (s ∷ ss) none = ap₂ cons_slot (none 0) (trim-none ss (λ k. none (suc k)))

  -- the same look-ups give the same trimmed list
  pub trim-same : (xs ys : List (Option T)) → ((k : ℕ) → get_or xs k None ≡ get_or ys k None) → trim xs ≡ trim ys
  trim-same [] ys same = sym (trim-none ys (λ k. sym (same k)))
  trim-same (x ∷ xs) [] same = trim-none (x ∷ xs) same
  trim-same (x ∷ xs) (y ∷ ys) same = ap₂ cons_slot (same 0) (trim-same xs ys (λ k. same (suc k)))

  -- a write of a value where there is one
  pub trim-set : (xs : List (Option T)) (n : ℕ) (w : T) → IsSome (get_or xs n None) → trim (set xs n (Some w)) ≡ set (trim xs) n (Some w)
  trim-set [] n w some = absurd (cc)
  trim-set (None ∷ xs) zero w some = absurd (cc)
  trim-set (Some v ∷ xs) zero w some = refl
  trim-set (x ∷ xs) (suc n) w some =
      ap (cons_slot x) (trim-set xs n w some) ∙ past x (trim xs) (rw (get_or-trim xs n) some)
    where
      past : (x : Option T) (ss : List (Option T)) → IsSome (get_or ss n None) → cons_slot x (set ss n (Some w)) ≡ set (cons_slot x ss) (suc n) (Some w)
      past None [] some = absurd (cc)
      past None (s ∷ ss) some = past_none n s ss
        where
          past_none : (k : ℕ) (s : Option T) (ss : List (Option T)) → cons_slot None (set (s ∷ ss) k (Some w)) ≡ None ∷ set (s ∷ ss) k (Some w)
          past_none zero s ss = refl
          past_none (suc k) s ss = refl
      past (Some v) ss some = refl

module _ {T : Type 0} where
  pub AllInUse-trim : (ss : List (Option T)) (ns : List ℕ) → AllInUse ss ns → AllInUse (trim ss) ns
  AllInUse-trim ss [] used = tt
  AllInUse-trim ss (n ∷ ns) used = (rw (get_or-trim ss n) used.0, AllInUse-trim ss ns used.1)
