-- what a contract sees of `Replies`
use Rattle.std.specs.Prelude.{ℕ, ◌++◌, List, [], ◌∷◌}
use Rattle.mea_family.specs.declared.answer.Answer.{Answer}

-- answers with their wakes, the places for more answers, and those for more wakes
pub record ReplyList : Type 0 where
  pub replies : List (Answer × List ℕ)
  pub room : ℕ
  pub spare : ℕ

-- the last answer has one wake more
abbrev pub with_wake : List (Answer × List ℕ) → ℕ → List (Answer × List ℕ)
with_wake [] w = []
with_wake (r ∷ []) w = (r.0, r.1 ++ w ∷ []) ∷ []
with_wake (r ∷ next ∷ rs) w = r ∷ with_wake (next ∷ rs) w

-- the last answer has these wakes more
abbrev pub with_wakes : List (Answer × List ℕ) → List ℕ → List (Answer × List ℕ)
with_wakes rs [] = rs
with_wakes rs (w ∷ ws) = with_wakes (with_wake rs w) ws
