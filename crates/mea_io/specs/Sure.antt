-- what a contract sees of the sources and sinks that never fail
use Rattle.std.specs.Prelude.{ℕ, List}

-- the bytes that are left, and how many a call gives at most
pub record Sure : Type 0 where
  pub left : List ℕ
  pub most : ℕ

-- the bytes that were taken, and how many a call takes at most
pub record Kept : Type 0 where
  pub bytes : List ℕ
  pub most : ℕ
