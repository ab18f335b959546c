-- why an event is refused, and where it is not
use Rattle.std.proofs.Common.{◌≡◌, ◌==◌, ℕ, Bool, true, false, inl, inr, Option, Some, None, refl, ap, sym, ◌∙◌, arith, if◌then◌else◌}
use Rattle.std.proofs.lemmas.Bool.Decides.{nat_tests}
use Rattle.mea_family.specs.Causes.{borrowed_by, unknown_unless}
use Rattle.mea_family.specs.declared.stop.Stop.{Stop}
use Rattle.mea_family.specs.declared.stop.Stop.TheVariants as stops
use Rattle.mea_family.specs.Acts.{Refuses}

-- what is not known
pub unknown : (cause : Option Stop) (free : Type 0) → cause ≡ Some stops.Unknown → Refuses cause free stops.Unknown
unknown cause free is = inl (is, λ no. absurd (cc))

-- what something borrows
pub borrowed : (cause : Option Stop) (free : Type 0) → cause ≡ Some stops.Borrowed → Refuses cause free stops.Borrowed
borrowed cause free is = inl (is, λ no. absurd (cc))

-- as a call told it, which is never want of memory
pub as_told : (told cause : Option Stop) (free : Type 0) (stop : Stop) → told ≡ cause → (told ≡ Some stops.NoMemory → ⊥) → told ≡ Some stop → Refuses cause free stop
as_told told cause free stop is tells some = inl (sym is ∙ some, λ no. tells (some ∙ ap Some no))

-- what has no cause, for want of memory
pub lacking : (cause : Option Stop) (free : Type 0) → cause ≡ None → (free → ⊥) → Refuses cause free stops.NoMemory
lacking cause free none takes = inr (none, refl, takes)

-- ---- where there is no cause
-- what is known is not refused
pub is_known : (b : Bool) → b ≡ true → unknown_unless b ≡ None
is_known b is = ap unknown_unless is

-- what nothing borrows is known
pub borrowed_none : (known : Bool) (n : ℕ) → borrowed_by known n ≡ None → (known ≡ true) × (n ≡ 0)
borrowed_none true n is = (refl, grind (arith, nat_tests))
borrowed_none false n is = absurd (cc)

-- and nothing borrows it
pub not_borrowed : (known : Bool) (n : ℕ) → borrowed_by known n ≡ None → n ≡ 0
not_borrowed known n is = (borrowed_none known n is).1

-- an object of some permits or places is made
pub some_room : (n : ℕ) → (n ≡ 0 → ⊥) → (if n == 0 then Some stops.Zero else None) ≡ None
some_room n some = grind (arith, nat_tests)
