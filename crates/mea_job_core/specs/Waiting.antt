-- a job that waits for a permit, as the core keeps it
use Rattle.std.specs.Prelude.{ℕ}
use Rattle.mea_share_core.specs.declared.share_acquire.ShareStage.{ShareStage}

-- its key, how far its acquire is, and its value
pub record Waiting : Type 0 where
  pub key : ℕ
  pub stage : ShareStage
  pub value : ℕ
