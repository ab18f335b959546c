-- fair admission as one of the families
use Rattle.std.specs.Prelude.{ℕ, Bool, Option}
use Rattle.mea_family.specs.Family.{Family}
use Rattle.mea_events.specs.declared.share_event.ShareEvent.{ShareEvent}
use Rattle.mea_share_model.specs.Admissions.{ShareHall, empty_hall, is_future, placed}
use Rattle.mea_share_model.specs.Actions.{polled_in, ends_in}
use Rattle.mea_share_model.specs.Meaning.{meaning_of, cause_of, step}

-- the waker with which an event polls f, if it does
abbrev pub polled : ShareEvent → ℕ → Option ℕ
polled e f = polled_in (meaning_of e) f

-- whether an event ends f
abbrev pub ends : ShareEvent → ℕ → Bool
ends e f = ends_in (meaning_of e) f

-- the family: what the laws of all families are told of fair admission
abbrev pub shares_family : Family
shares_family = record { Hall = ShareHall; Event = ShareEvent; Future = ℕ; empty = empty_hall; cause = cause_of; step = step; polled = polled; ends = ends; name = λ f. f; lives = is_future; placed = placed }
