-- the core of a map or a group as a hall uses it: what it is seen as, and what an initialiser of a script answers
use Rattle.std.specs.Prelude.{ℕ, ◌≡◌, Result}
use Rattle.mea_sets.specs.Poll.{Poll}
use Rattle.mea_by_name.specs.declared.named_waker.NamedWaker.{NamedWaker}
use Rattle.mea_once_core.specs.Keyed.{Keyed}
use Rattle.mea_once.specs.declared.scripted.Scripted.{Scripted}
use Rattle.mea_once.specs.Cores.{answer_of}

abbrev pub NamedKeyed : Type 0
NamedKeyed = Keyed ℕ ℕ NamedWaker

abbrev pub answers : Scripted → NamedWaker → Poll (Result ℕ ℕ) → Scripted → Type 0
answers i w answer i' = (answer ≡ answer_of i.outcome) × (i' ≡ i)
