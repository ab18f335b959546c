-- what becomes of the permits that a future is granted
use Rattle.std.specs.Prelude.{Bool, true, false}
use Rattle.mea_sem.specs.declared.grant.Grant.{Grant}
use Rattle.mea_sem.specs.declared.grant.Grant.TheVariants as grants

-- whether they are taken away for ever
abbrev pub is_forgotten : Grant → Bool
is_forgotten grants.Held = false
is_forgotten grants.Forgotten = true
