-- what a contract sees of a run queue
use Rattle.std.specs.Prelude.{ℕ, Bool, true, false, List, [], ◌∷◌, refl}
use Rattle.std.specs.Coded.{Coded, code_by, coded×, coded_ℕ, coded_list}

-- the tasks in their order, and how many have room with no memory taken
pub record TaskOrder : Type 0 where
  pub tasks : List ℕ
  pub room : ℕ

-- no task is due
abbrev pub is_empty : List ℕ → Bool
is_empty [] = true
is_empty (t ∷ ts) = false

-- what lets a `TaskOrder` be the value of a model
abbrev pub order_code : Coded TaskOrder
order_code = code_by (List ℕ × ℕ) (coded× (coded_list coded_ℕ) coded_ℕ) (λ o. (o.tasks, o.room)) (λ p. record { tasks = p.0; room = p.1 }) (λ _. refl)
