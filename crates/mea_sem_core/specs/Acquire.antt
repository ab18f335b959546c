-- an acquire without its core
use Rattle.std.specs.Prelude.{ℕ}
use Rattle.mea_sem_core.specs.declared.acquire.Acquire.{Acquire}
use Rattle.mea_sem_core.specs.declared.acquire.Acquire.TheVariants.{New, Queued, Done, Refused}

abbrev pub demand_of : Acquire → ℕ
demand_of (New demand) = demand
demand_of (Queued demand _) = demand
demand_of (Done demand) = demand
demand_of (Refused demand) = demand

-- the acquire that was never polled
abbrev pub renewed : Acquire → Acquire
renewed a = New (demand_of a)
