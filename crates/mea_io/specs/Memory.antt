-- what a contract sees of the sources and sinks that fail as they are told
use Rattle.std.specs.Prelude.{ℕ, ◌+◌, ◌==◌, ◌++◌, Bool, List, take, drop, min}
use Rattle.std.specs.List.{list_any}

-- a count that stands still at its greatest value
abbrev pub one_more : ℕ → ℕ
one_more n = min (n + 1) 18446744073709551615

-- the bytes that are left, how many a call gives at most, the numbers of the calls that fail, how many
-- calls there were, and how many of them failed
pub record Given : Type 0 where
  pub left : List ℕ
  pub most : ℕ
  pub fails : List ℕ
  pub calls : ℕ
  pub faults : ℕ

-- the bytes that were taken, how many a call takes at most, and the rest as of a source
pub record Taken : Type 0 where
  pub bytes : List ℕ
  pub most : ℕ
  pub fails : List ℕ
  pub calls : ℕ
  pub faults : ℕ

-- whether the call of this number fails
abbrev pub fails_at : List ℕ → ℕ → Bool
fails_at fails call = list_any (λ n. n == call) fails

abbrev pub failed_read : Given → Given
failed_read g = record g { calls = one_more g.calls; faults = one_more g.faults }

-- k bytes were given
abbrev pub given : Given → ℕ → Given
given g k = record g { left = drop k g.left; calls = one_more g.calls }

abbrev pub failed_write : Taken → Taken
failed_write t = record t { calls = one_more t.calls; faults = one_more t.faults }

-- the first k bytes of a piece were taken
abbrev pub taken : Taken → List ℕ → ℕ → Taken
taken t piece k = record t { bytes = t.bytes ++ take k piece; calls = one_more t.calls }
