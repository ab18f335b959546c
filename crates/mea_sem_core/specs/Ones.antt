-- queues in which each asks for one permit
use Rattle.std.specs.Prelude.{ℕ, ◌≡◌, List, [], ◌∷◌}
use Rattle.mea_sem_core.specs.Core.{Waiter, Acquires, Owes}

-- each that waits asks for one permit and lacks it, and nobody owes one
abbrev pub AskForOne : {W : Type 0} → List (Waiter W × ℕ) → Type 0
AskForOne [] = Unit {0}
AskForOne ((Acquires number demand waker, lack) ∷ q) = (demand ≡ 1) × (lack ≡ 1) × AskForOne q
AskForOne ((Owes, lack) ∷ q) = ⊥
