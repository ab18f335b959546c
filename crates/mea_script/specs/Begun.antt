-- what is kept of a line that has begun
use Rattle.std.specs.Prelude.{◌≡◌, ℕ, List, length, take, nat_lt}
use Rattle.mea_script.specs.declared.begun.Begun.{Begun}

-- its first bytes, and whether it has more
pub record Keeps (begun : Begun) (line : List ℕ) : Type 0 where
  pub first : begun.kept.items ≡ take 96 line
  pub more : begun.is_long ≡ nat_lt 96 (length line)
