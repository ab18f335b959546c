-- what stands at each place of a list
use Rattle.std.proofs.Common.{◌≡◌, ℕ, zero, suc, Bool, true, false, cond, List, [], ◌∷◌, take, slice_get, nat_lt, Option, Some, None, refl, ap, sym, ◌∙◌, arith}
use Rattle.std.proofs.lemmas.Bool.{le-ltb, lt-ltb}
use Rattle.std.proofs.lemmas.Bool.Decides.{nat_tests}

module _ {X : Type 0} where
  gone : (b : Bool) → ◌≡◌ {A = Option X} None (cond b None None)
  gone true = refl
  gone false = refl

  -- of the first so many
  pub get-take : (n : ℕ) (xs : List X) (q : ℕ) → slice_get (take n xs) q ≡ cond (nat_lt q n) (slice_get xs q) None
  get-take zero xs q = sym (ap (λ b. cond b (slice_get xs q) None) (le-ltb q 0 (omega arith)))
  get-take (suc n) [] q = gone (nat_lt q (suc n))
  get-take (suc n) (x ∷ xs) zero = sym (ap (λ b. cond b (Some x) None) (lt-ltb 0 (suc n) (omega arith)))
  get-take (suc n) (x ∷ xs) (suc q) = get-take n xs q ∙ ap (λ b. cond b (slice_get xs q) None) (grind (arith, nat_tests))
