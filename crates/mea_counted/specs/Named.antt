-- what a contract sees of a named semaphore behind its lock, and why a try for permits is refused
use Rattle.std.specs.Prelude.{ℕ, ◌==◌, Option, Some, None, nat_lt, if◌then◌else◌, refl}
use Rattle.std.specs.Coded.{Coded, code_by, coded×, coded_ℕ}
use Rattle.mea_sem_core.specs.Core.{Core, core_code}
use Rattle.mea_counted.specs.declared.lack.Lack.{Lack}
use Rattle.mea_counted.specs.declared.lack.Lack.TheVariants as lacks

-- the core, and how many parts of the ledger no permit has
pub record State : Type 0 where
  pub core : Core ℕ
  pub parts : ℕ

-- why n permits are refused where so many are free and so many parts are left; None where they are not
abbrev pub lack_of : ℕ → ℕ → ℕ → Option Lack
lack_of free parts n = if nat_lt free n then Some lacks.Permits else if parts == 1 then Some lacks.Parts else None

-- ---- codes
abbrev pub state_code : Coded State
state_code = code_by (Core ℕ × ℕ) (coded× (core_code coded_ℕ) coded_ℕ) (λ s. (s.core, s.parts)) (λ p. record { core = p.0; parts = p.1 }) (λ s. refl)
