-- the reading of a script
use Rattle.std.specs.Prelude.{ℕ, ◌≡◌, ◌++◌, Bool, false, List, [], Option, Some}

-- of what was left, these bytes were appended; where there were none, nothing was left
pub record TookPiece (left : Option (List ℕ)) (rest : List ℕ) (more : Bool) (old new : List ℕ) : Type 0 where
  pub piece : List ℕ
  pub next : List ℕ
  pub here : rest ≡ piece ++ next
  pub left_now : left ≡ Some next
  pub put : new ≡ old ++ piece
  pub end : more ≡ false → (piece ≡ []) × (next ≡ [])
