-- what polls make of a barrier, and which of their arrivals led
use Rattle.std.specs.Prelude.{◌≡◌, ◌∷◌, ◌++◌, Bool, true, false, List, [], Result, Ok, Err, ℕ, count_by}
use Rattle.mea_sets.specs.Poll.{Poll, Ready, Pending}
use Rattle.mea_meet_core.specs.declared.barrier_fault.BarrierFault.{BarrierFault}
use Rattle.mea_meet_core.specs.declared.barrier_wait.BarrierWait.{BarrierWait}
use Rattle.mea_meet_core.specs.declared.barrier_wait.BarrierWait.TheVariants.{New, Arrived, Done}
use Rattle.mea_meet_core.specs.Barrier.{Barrier, Polls, is_open}

module _ {W : Type 0} where
  -- the arrival that a first poll with this answer made, true where it led
  abbrev pub arrival_of : Result (Poll Bool) (BarrierFault W) → List Bool
  arrival_of (Ok (Ready leads)) = leads ∷ []
  arrival_of (Ok Pending) = false ∷ []
  arrival_of (Err fault) = []

  -- the arrival that a poll made: none but the first poll of a wait makes one
  abbrev pub arrival_by : BarrierWait → Result (Poll Bool) (BarrierFault W) → List Bool
  arrival_by New result = arrival_of result
  arrival_by (Arrived round slot) result = []
  arrival_by Done result = []

  -- polls and taken wakes lead from one barrier to another, with these arrivals, the last one first
  pub data BarrierRuns : Barrier W → List Bool → Barrier W → Type 0 where
    Starts : (b : Barrier W) → BarrierRuns b [] b
    Polled : (b c d : Barrier W) (arrivals : List Bool) (wait wait' : BarrierWait) (w : W) (result : Result (Poll Bool) (BarrierFault W)) → BarrierRuns b arrivals c → is_open c wait ≡ true → Polls c wait w result d wait' → BarrierRuns b (arrival_by wait result ++ arrivals) d
    Woken : (b c d : Barrier W) (arrivals : List Bool) (w : W) → BarrierRuns b arrivals c → c ≡ record d { wakes = w ∷ d.wakes } → BarrierRuns b arrivals d

-- how many of these arrivals led
abbrev pub leaders : List Bool → ℕ
leaders arrivals = count_by (λ leads. leads) arrivals
