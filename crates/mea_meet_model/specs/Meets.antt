-- the meeting points as one of the families
use Rattle.std.specs.Prelude.{ℕ, Bool, false, Option, None}
use Rattle.mea_family.specs.Family.{Family}
use Rattle.mea_events.specs.declared.meet_event.MeetEvent.{MeetEvent}
use Rattle.mea_meet_model.specs.Barriers as barriers
use Rattle.mea_meet_model.specs.Counts as counts
use Rattle.mea_meet_model.specs.CountActions.{polled_in, ends_in}
use Rattle.mea_meet_model.specs.BarrierActions.{polled_at, ends_at}
use Rattle.mea_meet_model.specs.Hall.{Hall, Kind, Latches, Groups, Shutdowns, empty_hall, part}
use Rattle.mea_meet_model.specs.Meaning.{Meaning, OnBarriers, OnCounts, meaning_of}
use Rattle.mea_meet_model.specs.Cause.{cause_of}
use Rattle.mea_meet_model.specs.Step.{step}

-- whose a future is: of a barrier, or of a point that counts, of a kind
pub data Sort : Type 0 where
  AtBarrier : Sort
  Of : Kind → Sort

-- a future, by its sort and its name
pub record Future : Type 0 where
  pub sort : Sort
  pub name : ℕ

-- the waker with which a future of this sort is polled by what a line means, if it is
abbrev pub polled_by : Meaning → Sort → ℕ → Option ℕ
polled_by (OnBarriers a) AtBarrier f = polled_at a f
polled_by (OnCounts Latches a) (Of Latches) f = polled_in a f
polled_by (OnCounts Groups a) (Of Groups) f = polled_in a f
polled_by (OnCounts Shutdowns a) (Of Shutdowns) f = polled_in a f
polled_by _ _ f = None

-- the waker with which an event polls a future, if it does
abbrev pub polled : MeetEvent → Future → Option ℕ
polled e f = polled_by (meaning_of e) f.sort f.name

-- whether a future of this sort ends by what a line means
abbrev pub ends_by : Meaning → Sort → ℕ → Bool
ends_by (OnBarriers a) AtBarrier f = ends_at a f
ends_by (OnCounts Latches a) (Of Latches) f = ends_in a f
ends_by (OnCounts Groups a) (Of Groups) f = ends_in a f
ends_by (OnCounts Shutdowns a) (Of Shutdowns) f = ends_in a f
ends_by _ _ f = false

-- an event abandons a future
abbrev pub ends : MeetEvent → Future → Bool
ends e f = ends_by (meaning_of e) f.sort f.name

-- its name, without its sort
abbrev pub name : Future → ℕ
name f = f.name

-- whether f is a future of this sort
abbrev pub lives_as : Hall → Sort → ℕ → Bool
lives_as h AtBarrier f = barriers.is_wait h.barriers f
lives_as h (Of k) f = counts.is_wait (part h k) f

-- whether a future is there
abbrev pub lives : Hall → Future → Bool
lives h f = lives_as h f.sort f.name

-- the waker that is registered for f, a future of this sort
abbrev pub placed_as : Hall → Sort → ℕ → Option ℕ
placed_as h AtBarrier f = barriers.placed h.barriers f
placed_as h (Of k) f = counts.placed (part h k) f

-- the waker that is registered for a future
abbrev pub placed : Hall → Future → Option ℕ
placed h f = placed_as h f.sort f.name

-- the family: what the laws of all families are told of meeting points
abbrev pub meets : Family
meets = record { Hall = Hall; Event = MeetEvent; Future = Future; empty = empty_hall; cause = cause_of; step = step; polled = polled; ends = ends; name = name; lives = lives; placed = placed }
