-- who leads a round of a barrier
use Rattle.std.specs.Prelude.{ℕ, zero, suc, ◌+◌, ◌==◌, Bool, true, false, cond, Option, Some, None}
use Rattle.std.specs.FinMap as map
use Rattle.mea_family.specs.declared.answer.Answer.{Answer}
use Rattle.mea_family.specs.declared.answer.Answer.TheVariants as answers
use Rattle.mea_events.specs.declared.meet_event.MeetEvent.{MeetEvent}
use Rattle.mea_meet_model.specs.Barriers.{Barriers, Barrier, BarrierWait, leads}
use Rattle.mea_meet_model.specs.BarrierActions.{Poll}
use Rattle.mea_meet_model.specs.Hall.{Hall}
use Rattle.mea_meet_model.specs.Meaning.{Meaning, OnBarriers, meaning_of}

-- whether the answer is that of the leader
abbrev pub is_leader : Answer → Bool
is_leader answers.Leader = true
is_leader _ = false

-- a future that has not arrived leads where the next arrival does
abbrev pub leads_new : Barrier → Option ℕ → Bool
leads_new r None = leads r
leads_new r (Some round) = false

-- the same at a barrier, which may be gone
abbrev pub leads_there : Option Barrier → Option ℕ → Bool
leads_there None round = false
leads_there (Some r) round = leads_new r round

-- the same of this future, if it is there
abbrev pub leads_wait : Barriers → Option BarrierWait → Bool
leads_wait h None = false
leads_wait h (Some x) = leads_there (map.get h.barriers x.barrier) x.round

-- the same of the future that a line polls by what it means
abbrev pub leads_meant : Hall → Meaning → Bool
leads_meant h (OnBarriers (Poll f w)) = leads_wait h.barriers (map.get h.barriers.waits f)
leads_meant h _ = false

-- an event leads: it polls a new future of a barrier whose arrivals it brings to a multiple of the size
abbrev pub leads_by : Hall → MeetEvent → Bool
leads_by h e = leads_meant h (meaning_of e)

-- a future arrives at its barrier once, by its first poll
abbrev pub arrivals_new : Option ℕ → ℕ
arrivals_new None = 1
arrivals_new (Some round) = 0

-- how often this future arrives at b by its next poll
abbrev pub arrivals_wait : Option BarrierWait → ℕ → ℕ
arrivals_wait None b = 0
arrivals_wait (Some x) b = cond (x.barrier == b) (arrivals_new x.round) 0

-- how many arrivals at b what a line means makes
abbrev pub arrivals_meant : Hall → Meaning → ℕ → ℕ
arrivals_meant h (OnBarriers (Poll f w)) b = arrivals_wait (map.get h.barriers.waits f) b
arrivals_meant h _ b = 0

-- how many arrivals at b an event makes
abbrev pub arrivals_by : Hall → MeetEvent → ℕ → ℕ
arrivals_by h e b = arrivals_meant h (meaning_of e) b

-- how many of the next k arrivals at r lead
abbrev pub leaders : Barrier → ℕ → ℕ
leaders r zero = 0
leaders r (suc k) = cond (leads r) 1 0 + leaders (record r { arrivals = r.arrivals + 1 }) k
