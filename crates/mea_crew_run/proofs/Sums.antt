-- sums that take in one more
use Rattle.std.proofs.Common.{◌≡◌, ℕ, ◌+◌, ◌*◌, ◌≤◌, ap, ◌∙◌, suc-mul, arith, List, ◌∷◌, ◌++◌, [], sum_by, add-one}
use Rattle.std.proofs.lemmas.List.Sums.{sum_by-append}

turn : (m k r : ℕ) → m ≡ k + 1 → m * r ≡ k * r + r
turn m k r e = ap (λ (x : ℕ). x * r) (e ∙ add-one k) ∙ suc-mul k r

module _ {X : Type 0} (f : X → ℕ) (xs ys : List X) (x : X) (is : ys ≡ xs ++ x ∷ []) (m k : ℕ) (one : m ≡ k + 1) where
  more : sum_by f ys ≡ sum_by f xs + f x
  more = ap (λ zs. sum_by f zs) is ∙ omega (arith, sum_by-append f xs (x ∷ []))

  pub exactly : (n : ℕ) → sum_by f xs + m ≡ n → f x ≡ 1 → sum_by f ys + k ≡ n
  exactly n h e = omega (arith, more, one, h, e)

  pub at_least : (r n : ℕ) → n ≤ sum_by f xs + m * r → r ≤ f x → n ≤ sum_by f ys + k * r
  at_least r n h low =
      let t : m * r ≡ k * r + r = turn m k r one in
      let y : ℕ = m * r in let z : ℕ = k * r in let t' : y ≡ z + r = t in let h' : n ≤ sum_by f xs + y = h in
      let goal' : n ≤ sum_by f ys + z = omega (arith, more, t', h', low) in goal'

  pub at_most : (r n : ℕ) → sum_by f xs + m * r ≤ n → f x ≤ r → sum_by f ys + k * r ≤ n
  at_most r n h high =
      let t : m * r ≡ k * r + r = turn m k r one in
      let y : ℕ = m * r in let z : ℕ = k * r in let t' : y ≡ z + r = t in let h' : sum_by f xs + y ≤ n = h in
      let goal' : sum_by f ys + z ≤ n = omega (arith, more, t', h', high) in goal'
