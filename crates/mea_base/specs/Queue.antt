-- permits that are poured into a queue of waiters, each with what it lacks
use Rattle.std.specs.Prelude.{ℕ, ◌+◌, ◌-◌, ◌==◌, List, [], ◌∷◌, filter, min, nat_lt, map}
use Rattle.std.specs.List.{sum_by}

module _ {A : Type 0} where
  -- what all waiters lack together
  abbrev pub lacks : List (A × ℕ) → ℕ
  lacks q = sum_by {X = A × ℕ} (λ e. e.1) q

  -- each waiter with its new lack, where those before lack `before` together and n are poured: the
  -- lesser of its lack and what the sum up to it exceeds n by
  abbrev pub lacks_after : ℕ → List (A × ℕ) → ℕ → List (A × ℕ)
  lacks_after before [] n = []
  lacks_after before (e ∷ es) n = (e.0, min e.1 (before + e.1 - n)) ∷ lacks_after (before + e.1) es n

  -- those who still lack something
  abbrev pub waiting_after : List (A × ℕ) → ℕ → List (A × ℕ)
  waiting_after q n = filter {X = A × ℕ} (λ e. nat_lt 0 e.1) (lacks_after 0 q n)

  -- those who lack nothing any more, in queue order
  abbrev pub granted_in : List (A × ℕ) → ℕ → List A
  granted_in q n = map {A = A × ℕ} (λ e. e.0) (filter {X = A × ℕ} (λ e. e.1 == 0) (lacks_after 0 q n))

  -- what no waiter took
  abbrev pub left_over : List (A × ℕ) → ℕ → ℕ
  left_over q n = n - lacks q
