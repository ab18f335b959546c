-- what contracts say of permits and of the waits for them
use Rattle.std.specs.Prelude.{ℕ}
use Rattle.mea_sync.specs.declared.semaphore.permit.Permit.{Permit}
use Rattle.mea_sync.specs.declared.semaphore.acquire.AcquireToHold.{AcquireToHold}
use Rattle.mea_sync.specs.declared.semaphore.acquire.AcquireToForget.{AcquireToForget}

-- how many permits are held
abbrev pub num_permits : {H W : Type 0} → Permit H W → ℕ
num_permits permit = permit.permits

-- how many permits a wait asks for
abbrev pub permits_wanted : {H W : Type 0} → AcquireToHold H W → ℕ
permits_wanted wait = wait.permits

-- how many permits a wait asks for that are then gone for ever
abbrev pub permits_to_forget : {H W : Type 0} → AcquireToForget H W → ℕ
permits_to_forget wait = wait.permits
