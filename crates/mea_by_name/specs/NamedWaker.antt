-- the waker of a future or a receiver, with its name
use Rattle.std.specs.Prelude.{ℕ, refl}
use Rattle.std.specs.Coded.{Coded, code_by, coded×, coded_ℕ}
use Rattle.mea_by_name.specs.declared.named_waker.NamedWaker.{NamedWaker}

-- by which a proof tells two of them apart
abbrev pub waker_code : Coded NamedWaker
waker_code = code_by (ℕ × ℕ) (coded× coded_ℕ coded_ℕ) (λ k. (k.name, k.waker)) (λ p. record { name = p.0; waker = p.1 }) (λ _. refl)
