-- a wait for a lease, and the acquire of one place that stands for it
use Rattle.mea_sem_core.specs.declared.acquire.Acquire.{Acquire}
use Rattle.mea_sem_core.specs.declared.acquire.Acquire.TheVariants as acquire
use Rattle.mea_pool_core.specs.declared.lease_wait.LeaseWait.{LeaseWait}
use Rattle.mea_pool_core.specs.declared.lease_wait.LeaseWait.TheVariants.{New, Queued, Done, Refused}

-- the acquire that stands for a wait at this stage
abbrev pub acquire_of : LeaseWait → Acquire
acquire_of New = acquire.New 1
acquire_of (Queued number) = acquire.Queued 1 number
acquire_of Done = acquire.Done 1
acquire_of Refused = acquire.Refused 1

-- and back
abbrev pub wait_of : Acquire → LeaseWait
wait_of (acquire.New _) = New
wait_of (acquire.Queued _ number) = Queued number
wait_of (acquire.Done _) = Done
wait_of (acquire.Refused _) = Refused
