-- what an event does to meeting points, where it has no cause for refusal; a thing made by event i has the
-- name i
use Rattle.std.specs.Prelude.{ℕ, Bool}
use Rattle.mea_family.specs.Family.{Outcome}
use Rattle.mea_events.specs.declared.meet_event.MeetEvent.{MeetEvent}
use Rattle.mea_meet_model.specs.Barriers.{Barriers}
use Rattle.mea_meet_model.specs.Counts.{Counts}
use Rattle.mea_meet_model.specs.CountActions.{act_in, registers_in}
use Rattle.mea_meet_model.specs.BarrierActions.{act_at, registers_at}
use Rattle.mea_meet_model.specs.Hall.{Hall, Kind, part, with_part}
use Rattle.mea_meet_model.specs.Meaning.{Meaning, OnBarriers, OnCounts, meaning_of}

-- the hall after what was done to the points of one kind, which leaves the others as they are
abbrev pub on_barriers : Hall → Outcome Barriers → Outcome Hall
on_barriers h o = record { hall = record h { barriers = o.hall }; reply = o.reply; wakes = o.wakes }

-- the same of points that count, of a kind
abbrev pub on_counts : Hall → Kind → Outcome Counts → Outcome Hall
on_counts h k o = record { hall = with_part h k o.hall; reply = o.reply; wakes = o.wakes }

-- what is done under number i, by what a line means
abbrev pub step_by : Hall → ℕ → Meaning → Outcome Hall
step_by h i (OnBarriers a) = on_barriers h (act_at h.barriers i a)
step_by h i (OnCounts k a) = on_counts h k (act_in (part h k) i a)

-- what follows where line i is played
abbrev pub step : Hall → ℕ → MeetEvent → Outcome Hall
step h i e = step_by h i (meaning_of e)

-- whether what a line means can register a waker
abbrev pub registers_by : Meaning → Bool
registers_by (OnBarriers a) = registers_at a
registers_by (OnCounts k a) = registers_in a

-- the events that may register a waker
abbrev pub registers : MeetEvent → Bool
registers e = registers_by (meaning_of e)
