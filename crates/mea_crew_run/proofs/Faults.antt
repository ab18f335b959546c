-- a crew's fault where its account is told
use Rattle.std.proofs.Common.{◌≡◌, ℕ, Bool, true, false, Some, inl, length, sym}
use Rattle.mea_family.specs.Causes.{unknown_unless}
use Rattle.mea_family.specs.declared.stop.Stop.{Stop}
use Rattle.mea_family.specs.declared.stop.Stop.TheVariants as stops
use Rattle.mea_events.specs.declared.sem_event.SemEvent.TheVariants.{Ledger}
use Rattle.mea_sem_model.specs.Cause.{cause_of, is_named}
use Rattle.mea_recorded.specs.History.{History, IsHistory, hall_after}
use Rattle.mea_crew_run.specs.Crew.{IsCrewFault}
use Rattle.mea_crew_run.specs.declared.fault.CrewFault.TheVariants as faults

-- what is refused for its name is not refused for want of memory
not_memory : (known : Bool) (stop : Stop) → unknown_unless known ≡ Some stop → stop ≡ stops.NoMemory → ⊥
not_memory true stop is lacks = absurd (cc)
not_memory false stop is lacks = absurd (cc)

-- an account is refused as a try for a permit would be
pub of_account : (h : History) (at : ℕ) (stop : Stop) → IsHistory h → at ≡ length h.events → cause_of (hall_after h.events) (Ledger 0) ≡ Some stop
    → (rounds : ℕ) → IsCrewFault rounds (faults.Refused (record { stop = stop; at = at }))
of_account h at stop is count refused rounds = (not_memory (is_named (hall_after h.events) 0) stop refused, inl (h, is, sym count, refused))
