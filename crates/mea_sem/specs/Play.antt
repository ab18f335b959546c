-- a hall in play: the wakers that are ready, and the least number that the next event may have
use Rattle.std.specs.Prelude.{ℕ}
use Rattle.std.specs.Coded.{Coded}
use Rattle.mea_family.specs.declared.answer.Answer.{Answer}
use Rattle.mea_family.specs.Play as plays
use Rattle.mea_base.specs.Ready.{Waking}
use Rattle.mea_events.specs.declared.sem_event.SemEvent.{SemEvent}
use Rattle.mea_events.specs.declared.sem_event.SemEvent.TheVariants as events
use Rattle.mea_sem_model.specs.Hall.{Hall, hall_code}
use Rattle.mea_sem_model.specs.Step.{step}
use Rattle.mea_sem_model.specs.Waiters.{waiters}

-- semaphores in play
abbrev pub Play : Type 0
Play = plays.Play Hall

abbrev pub play_code : Coded Play
play_code = plays.play_code hall_code

-- event number i is played with this reply
abbrev pub Plays : Play → ℕ → SemEvent → Answer → Play → Type 0
Plays old i event answer new = plays.Yields old i (step old.hall i event) answer new

-- the same of semaphores that are lent the list of ready wakers
abbrev pub PlaysIn : plays.Part Hall → ℕ → SemEvent → Answer → plays.Part Hall → Waking ℕ → Waking ℕ → Type 0
PlaysIn old i event answer new before after = plays.PartYields waiters old i (step old.hall i event) answer new before after

-- and of an event that wakes nobody
abbrev pub PlaysQuietly : plays.Part Hall → ℕ → SemEvent → Answer → plays.Part Hall → Type 0
PlaysQuietly old i event answer new = plays.PartRests waiters old i (step old.hall i event) answer new

-- the events that take no memory
abbrev pub TakesNoMemory : SemEvent → Type 0
TakesNoMemory (events.New n) = ⊥
TakesNoMemory (events.Forgetx s n) = ⊥
TakesNoMemory (events.Try s n) = ⊥
TakesNoMemory (events.Tryo s n) = ⊥
TakesNoMemory (events.Acq s n) = ⊥
TakesNoMemory (events.Acqo s n) = ⊥
TakesNoMemory (events.Acqf s n) = ⊥
TakesNoMemory (events.Acqof s n) = ⊥
TakesNoMemory (events.Poll f w) = ⊥
TakesNoMemory (events.Split p n) = ⊥
TakesNoMemory _ = Unit {0}
