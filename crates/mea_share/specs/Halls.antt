-- what becomes of an action on admissions, and which take no memory
use Rattle.std.specs.Prelude.{ℕ, Result}
use Rattle.mea_family.specs.declared.answer.Answer.{Answer}
use Rattle.mea_family.specs.declared.stop.Stop.{Stop}
use Rattle.mea_base.specs.Ready.{Waking}
use Rattle.mea_family.specs.Play.{Part}
use Rattle.mea_family.specs.Acts as acts
use Rattle.mea_events.specs.declared.share_event.ShareEvent.{ShareEvent}
use Rattle.mea_share_model.specs.Admissions.{ShareHall, registered}
use Rattle.mea_share_model.specs.Actions.{Action, Free, Waiters, Key, End, Drop, cause_in, act_in}
use Rattle.mea_share_model.specs.Meaning.{meaning_of}

-- the actions that take no memory
abbrev pub IsFree : Action → Type 0
IsFree (Free o) = Unit {0}
IsFree (Waiters o) = Unit {0}
IsFree (Key p) = Unit {0}
IsFree (End x) = Unit {0}
IsFree (Drop o) = Unit {0}
IsFree _ = ⊥

-- the events that take no memory
abbrev pub TakesNoMemory : ShareEvent → Type 0
TakesNoMemory e = IsFree (meaning_of e)

-- event number i asked this of admissions: it was done; or refused, and nothing has changed
abbrev pub Acts : Part ShareHall → ℕ → Action → Result Answer Stop → Part ShareHall → Waking ℕ → Waking ℕ → Type 0
Acts old i a = acts.Acts registered (cause_in old.hall a) (IsFree a) old i (act_in old.hall i a)

-- and no waker was made ready
abbrev pub ActsQuietly : Part ShareHall → ℕ → Action → Result Answer Stop → Part ShareHall → Type 0
ActsQuietly old i a = acts.ActsQuietly registered (cause_in old.hall a) (IsFree a) old i (act_in old.hall i a)
