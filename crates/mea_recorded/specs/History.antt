-- histories of semaphores: what was played, and what the queue model says of it
use Rattle.std.specs.Prelude.{ℕ, ◌≡◌, ◌+◌, ◌++◌, List, [], ◌∷◌, Option, Some, None, length, slice_get}
use Rattle.std.specs.Option.{option_map}
use Rattle.mea_family.specs.declared.answer.Answer.{Answer}
use Rattle.mea_family.specs.declared.stop.Stop.{Stop}
use Rattle.mea_family.specs.Family.{RunOf, start, goes_on}
use Rattle.mea_events.specs.declared.sem_event.SemEvent.{SemEvent}
use Rattle.mea_events.specs.declared.sem_event.SemEvent.TheVariants.{New}
use Rattle.mea_sem_model.specs.Hall.{Hall, empty_hall}
use Rattle.mea_sem_model.specs.Cause.{cause_of}
use Rattle.mea_sem_model.specs.Step.{step}
use Rattle.mea_sem_model.specs.Runs.{semaphores}

-- the events that were played, and what each was answered, with the wakers that it made ready
pub record History : Type 0 where
  pub events : List SemEvent
  pub replies : List (Answer × List ℕ)

-- the answer of the entry of this number
abbrev pub answer_at : History → ℕ → Option Answer
answer_at h n = option_map {T = Answer × List ℕ} (λ r. r.0) (slice_get h.replies n)

-- what the model replies to an event under its number
abbrev pub reply_of : Hall → ℕ → SemEvent → Answer × List ℕ
reply_of h i e = ((step h i e).reply, (step h i e).wakes)

-- the hall after these events, the first of which has the number i
abbrev pub hall_from : Hall → ℕ → List SemEvent → Hall
hall_from h i [] = h
hall_from h i (e ∷ es) = hall_from (step h i e).hall (i + 1) es

-- what the model replies to them
abbrev pub replies_from : Hall → ℕ → List SemEvent → List (Answer × List ℕ)
replies_from h i [] = []
replies_from h i (e ∷ es) = reply_of h i e ∷ replies_from (step h i e).hall (i + 1) es

-- none of them has a cause for refusal
abbrev pub AreAllowed : Hall → ℕ → List SemEvent → Type 0
AreAllowed h i [] = Unit {0}
AreAllowed h i (e ∷ es) = (cause_of h e ≡ None) × AreAllowed (step h i e).hall (i + 1) es

-- the hall after these events, from a hall with nothing
abbrev pub hall_after : List SemEvent → Hall
hall_after es = hall_from empty_hall 0 es

-- the first event makes a semaphore
abbrev pub BeginsWithNew : List SemEvent → Type 0
BeginsWithNew [] = ⊥
BeginsWithNew (e ∷ es) = (n : ℕ) × (e ≡ New n)

-- a history replays: no event has a cause for refusal, and the replies are the model's
pub record IsHistory (h : History) : Type 0 where
  pub begins : BeginsWithNew h.events
  pub allowed : AreAllowed empty_hall 0 h.events
  pub replied : h.replies ≡ replies_from empty_hall 0 h.events

-- the history with one more entry, as the model replies to it
abbrev pub with_event : History → SemEvent → History
with_event h e = record { events = h.events ++ e ∷ []; replies = h.replies ++ reply_of (hall_after h.events) (length h.events) e ∷ [] }

-- some history of so many entries answers an event so
abbrev pub IsAnsweredAfter : ℕ → SemEvent → Answer → Type 0
IsAnsweredAfter entries e answer =
    (h : History)
    × IsHistory h
    × (length h.events ≡ entries)
    × (cause_of (hall_after h.events) e ≡ None)
    × ((step (hall_after h.events) entries e).reply ≡ answer)

-- some history of so many entries refuses an event for this cause
abbrev pub IsRefusedAfter : ℕ → SemEvent → Stop → Type 0
IsRefusedAfter entries e stop =
    (h : History)
    × IsHistory h
    × (length h.events ≡ entries)
    × (cause_of (hall_after h.events) e ≡ Some stop)

-- a run of the model goes on with these events, the first of which has the number i
abbrev pub run_from : RunOf semaphores → ℕ → List SemEvent → RunOf semaphores
run_from r i [] = r
run_from r i (e ∷ es) = run_from (goes_on semaphores r i e) (i + 1) es

-- the run of these events
abbrev pub run_of : List SemEvent → RunOf semaphores
run_of es = run_from (start semaphores) 0 es
