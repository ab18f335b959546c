-- what a contract sees of an `Outbox`
use Rattle.std.specs.Prelude.{ℕ, List, refl}
use Rattle.std.specs.Coded.{Coded, code_by, coded×, coded_ℕ, coded_list}

-- the wakers from the first to the last, and how many more can be pushed with no memory taken
pub record Wakes (W : Type 0) : Type 0 where
  pub wakers : List W
  pub spare : ℕ

-- what lets a `Wakes` be the value of a model
abbrev pub wakes_code : {W : Type 0} → Coded W → Coded (Wakes W)
wakes_code {W} code =
    code_by
    (List W × ℕ)
    (coded× (coded_list code) coded_ℕ)
    (λ w. (w.wakers, w.spare))
    (λ p. record { wakers = p.0; spare = p.1 })
    (λ _. refl)
