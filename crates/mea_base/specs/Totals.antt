-- sums over a finite map by name
use Rattle.std.specs.Prelude.{ℕ, Option, Some, None}
use Rattle.std.specs.List.{sum_by}
use Rattle.std.specs.Ordering.{nat_cmp}
use Rattle.std.specs.FinMap.{FinMap, entries}

-- what all names and values of a map weigh together
abbrev pub total : {X : Type 0} → (ℕ → X → ℕ) → FinMap nat_cmp X → ℕ
total {X} f m = sum_by {X = ℕ × X} (λ e. f e.0 e.1) (entries m)

-- what a name weighs, with its value or with none
abbrev pub weight : {X : Type 0} → (ℕ → X → ℕ) → ℕ → Option X → ℕ
weight f k None = 0
weight f k (Some v) = f k v
