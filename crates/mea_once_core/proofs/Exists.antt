-- an entry that is there, and what holds of it
use Rattle.std.proofs.Common.{◌≡◌, ◌↔◌, ◌<◌, ◌≤◌, ℕ, Bool, Option, Some, None, IsSome, IfSome, IsTrue, refl, ap, arith}

module _ {X : Type 0} where
  -- a test tells that something is there of which two facts hold
  pub there_iff : (o : Option X) (P Q : X → Type 0) (b : Bool) → (e : X) × (o ≡ Some e) × P e → ((e : X) → o ≡ Some e → IsTrue b → Q e)
      → ((e : X) → o ≡ Some e → Q e → IsTrue b) → IsTrue b ↔ ((e : X) × (o ≡ Some e) × P e × Q e)
  there_iff o P Q b is forth back = ((λ yes. (is.0, is.1, is.2, forth is.0 is.1 yes)), (λ h. back h.0 h.1 h.3))

  -- a test tells that something is there whose count is not 0
  pub counts_iff : (o : Option X) (count : X → ℕ) (n : ℕ) (b : Bool) → IsSome o → IfSome o (λ e. n ≡ count e) → (IsTrue b → 1 ≤ n) → (1 ≤ n → IsTrue b)
      → IsTrue b ↔ ((e : X) × (o ≡ Some e) × (1 ≤ count e))
  counts_iff None count n b used is forth back = absurd (cc)
  counts_iff (Some e) count n b used is forth back = (
    (λ yes. (e, refl, (let some = forth yes in omega (arith, some, is)))),
    (λ h. back (let there = h.1 in let same : e ≡ h.0 = cc in let more = h.2 in let alike = ap count same in omega (arith, is, more, alike))),
  )

  -- a test tells that whatever is there has a count below a limit
  pub below_iff : (o : Option X) (count : X → ℕ) (n limit : ℕ) (b : Bool) → IsSome o → IfSome o (λ e. n ≡ count e) → (IsTrue b → n < limit) → (n < limit → IsTrue b)
      → IsTrue b ↔ ((e : X) → o ≡ Some e → count e < limit)
  below_iff None count n limit b used is forth back = absurd (cc)
  below_iff (Some e) count n limit b used is forth back = (
    (λ yes f there. let less = forth yes in let same : e ≡ f = cc in let alike = ap count same in omega (arith, less, is, alike)),
    (λ room. back (let less = room e refl in omega (arith, less, is))),
  )
