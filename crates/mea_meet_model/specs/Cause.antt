-- why an event on meeting points is refused: a name that is unknown, then a thing that is borrowed, then a
-- count at its end
use Rattle.std.specs.Prelude.{Option}
use Rattle.mea_family.specs.declared.stop.Stop.{Stop}
use Rattle.mea_events.specs.declared.meet_event.MeetEvent.{MeetEvent}
use Rattle.mea_meet_model.specs.CountActions.{cause_in}
use Rattle.mea_meet_model.specs.BarrierActions.{cause_at}
use Rattle.mea_meet_model.specs.Hall.{Hall, part}
use Rattle.mea_meet_model.specs.Meaning.{Meaning, OnBarriers, OnCounts, meaning_of}

-- why what a line means is refused
abbrev pub cause_by : Hall → Meaning → Option Stop
cause_by h (OnBarriers a) = cause_at h.barriers a
cause_by h (OnCounts k a) = cause_in (part h k) a

-- why a line is refused; none where it is not
abbrev pub cause_of : Hall → MeetEvent → Option Stop
cause_of h e = cause_by h (meaning_of e)
