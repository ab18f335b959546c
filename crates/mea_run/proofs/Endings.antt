-- a summary that was asked for is no wrong use
use Rattle.std.proofs.Common.{◌≡◌, ◌⊎◌, inl, inr}
use Rattle.mea_script.specs.declared.status.Status.{Status}
use Rattle.mea_script.specs.declared.status.Status.TheVariants.{Done, Usage}
use Rattle.mea_script.specs.Runs.{IsWriteFault}

pub no_usage : (status : Status) → IsWriteFault status ⊎ (status ≡ Done) → status ≡ Usage → ⊥
no_usage status (inl (inl fault)) usage = absurd (cc)
no_usage status (inl (inr memory)) usage = absurd (cc)
no_usage status (inr done) usage = absurd (cc)
