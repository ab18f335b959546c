-- what is counted once the workers of a named semaphore are joined
use Rattle.std.specs.Prelude.{ℕ, ◌≡◌, ◌<◌, ◌≤◌}
use Rattle.mea_named_run.specs.declared.counts.Counts.{Counts}
use Rattle.mea_named_run.specs.declared.fault.Fault.{Fault}
use Rattle.mea_named_run.specs.declared.fault.Fault.TheVariants as faults
use Rattle.mea_counted.specs.declared.missing.Missing.{Missing}

-- what was kept is what is held, and no worker kept more than one permit
pub record IsGathered (workers : ℕ) (c : Counts) : Type 0 where
  pub same : c.kept ≡ c.held
  pub few : c.kept ≤ workers

-- not all parts of the ledger are there
pub record IsMissing (m : Missing) : Type 0 where
  pub of : m.of ≡ 1000000
  pub fewer : m.parts < m.of

-- of a fault, that what is missing is so
abbrev pub IsFault : Fault → Type 0
IsFault faults.NoMemory = Unit {0}
IsFault (faults.Missing m) = IsMissing m
