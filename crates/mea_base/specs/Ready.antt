-- what a contract sees of a `Ready`
use Rattle.std.specs.Prelude.{ℕ, List, refl}
use Rattle.std.specs.Coded.{Coded, code_by, coded×, coded_ℕ, coded_list}

-- the wakers that are ready, and how many are registered, which can be made ready with no memory taken
pub record Waking (W : Type 0) : Type 0 where
  pub wakers : List W
  pub registered : ℕ

-- what lets a `Waking` be the value of a model
abbrev pub waking_code : {W : Type 0} → Coded W → Coded (Waking W)
waking_code {W} code =
    code_by
    (List W × ℕ)
    (coded× (coded_list code) coded_ℕ)
    (λ w. (w.wakers, w.registered))
    (λ p. record { wakers = p.0; registered = p.1 })
    (λ _. refl)
