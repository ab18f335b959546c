-- barriers as the hall keeps them: what is seen of them, and what they keep to
use Rattle.std.specs.Prelude.{ℕ, ◌≡◌, ◌≤◌, [], Option, Some, None}
use Rattle.std.specs.FinMap.{get, len}
use Rattle.mea_by_name.specs.declared.named_waker.NamedWaker.{NamedWaker}
use Rattle.mea_by_name.specs.ByName.{Names, seen, own}
use Rattle.mea_sets.specs.declared.place.Place.{Place}
use Rattle.mea_cores_by_name.specs.SetLinked.{SetLinked, set_names}
use Rattle.mea_meet_core.specs.Barrier as cores
use Rattle.mea_meet_core.specs.declared.barrier_wait.BarrierWait.{BarrierWait as Wait}
use Rattle.mea_meet_core.specs.declared.barrier_wait.BarrierWait.TheVariants as waits
use Rattle.mea_meet_model.specs.Barriers.{Barriers, Barrier, BarrierWait}
use Rattle.mea_meet_model.specs.Valid.{HasBarriers}
use Rattle.mea_meet.specs.declared.barrier_entry.BarrierEntry.{BarrierEntry}
use Rattle.mea_meet.specs.declared.barrier_entry.BarrierWaitEntry.{BarrierWaitEntry}

-- ---- what is seen of each thing
abbrev pub core_seen : cores.Barrier NamedWaker → Barrier
core_seen c = record { size = c.size; arrivals = c.arrivals; waiting = set_names c.waiting }

abbrev pub barrier_seen : BarrierEntry → Barrier
barrier_seen e = core_seen e.core

-- the number under which its waker was registered, and the round in which it arrived
abbrev pub slot_of : Wait → Option Place
slot_of waits.New = None
slot_of (waits.Arrived round slot) = slot
slot_of waits.Done = None

abbrev pub round_of : Wait → Option ℕ
round_of waits.New = None
round_of (waits.Arrived round slot) = Some round
round_of waits.Done = None

abbrev pub wait_seen : BarrierWaitEntry → BarrierWait
wait_seen x = record { barrier = x.barrier; round = round_of x.wait }

abbrev pub barriers_seen : Names BarrierEntry → Names BarrierWaitEntry → Barriers
barriers_seen bs ws = record { barriers = seen barrier_seen bs; waits = seen wait_seen ws }

-- ---- what is kept to
abbrev pub of_barrier : BarrierWaitEntry → ℕ
of_barrier x = x.barrier

-- the places of futures among those who wait
abbrev pub slots_of : Names BarrierWaitEntry → Names (Option Place)
slots_of ws = seen (λ (x : BarrierWaitEntry). slot_of x.wait) ws

-- it was not ready yet
abbrev pub IsUnfinished : Wait → Type 0
IsUnfinished waits.New = Unit {0}
IsUnfinished (waits.Arrived round slot) = Unit {0}
IsUnfinished waits.Done = ⊥

-- a barrier with its futures
pub record AreKept (e : BarrierEntry) (ws : Names BarrierWaitEntry) (n : ℕ) : Type 0 where
  pub linked : SetLinked e.core.waiting (slots_of ws) n
  pub unfinished : (f : ℕ) (x : BarrierWaitEntry) → get ws f ≡ Some x → IsUnfinished x.wait
  -- its wakers are handed on after each event
  pub quiet : e.core.wakes ≡ []
  pub counted : e.waits ≡ len ws
  pub few : e.waits ≤ n

pub record AreKeptBarriers (bs : Names BarrierEntry) (ws : Names BarrierWaitEntry) (next : ℕ) : Type 0 where
  pub valid : HasBarriers (barriers_seen bs ws) next
  pub each : (b : ℕ) (e : BarrierEntry) → get bs b ≡ Some e → AreKept e (own of_barrier b ws) next

-- the core that a hall lends, and the record that it stands for: the same numbers, and the same who wait, with the same
-- wakers in the same order
abbrev pub StandsForBarrier : Barriers → ℕ → cores.Barrier NamedWaker → Type 0
StandsForBarrier h b c = get h.barriers b ≡ Some (core_seen c)
