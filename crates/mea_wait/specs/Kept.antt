-- what a contract sees of a `Kept`
use Rattle.std.specs.Prelude.{refl}
use Rattle.std.specs.Coded.{Coded, code_by}

-- the value that is kept
pub record Kept (P : Type 0) : Type 0 where
  pub value : P

abbrev pub kept_code : {P : Type 0} → Coded P → Coded (Kept P)
kept_code {P} p = code_by P p (λ k. k.value) (λ v. record { value = v }) (λ _. refl)
