-- in which order the acquires of a semaphore get what they ask for, read from the events and the replies
-- that were told
use Rattle.std.specs.Prelude.{ℕ, ◌≡◌, ◌<◌, ◌==◌, ◌&&◌, ◌||◌, ◌⊎◌, Bool, true, false, cond, List, [], ◌∷◌, map, Option, Some, None, is_some, IsSome, Contains}
use Rattle.std.specs.Option.{option_or}
use Rattle.mea_family.specs.declared.answer.Answer.{Answer}
use Rattle.mea_family.specs.declared.answer.Answer.TheVariants as answers
use Rattle.mea_family.specs.Family as family
use Rattle.mea_events.specs.declared.sem_event.SemEvent.{SemEvent}
use Rattle.mea_events.specs.declared.sem_event.SemEvent.TheVariants as events
use Rattle.mea_sem_model.specs.Hall.{Hall, owed}
use Rattle.mea_sem_model.specs.Step.{step}
use Rattle.mea_sem_model.specs.Runs.{ToldSemEvent, Run, semaphores, waker_in}
pub use Rattle.mea_sem_model.specs.Runs.{ends}

-- ---- what was told of a future

-- the semaphore and the number of permits that this event asks for, where it begins an acquire
abbrev pub acquire_in : SemEvent → Option (ℕ × ℕ)
acquire_in (events.Acq s n) = Some (s, n)
acquire_in (events.Acqo s n) = Some (s, n)
acquire_in (events.Acqf s n) = Some (s, n)
acquire_in (events.Acqof s n) = Some (s, n)
acquire_in _ = None

-- the semaphore and the number of permits that the future f asks for, which event f began
abbrev pub asked : List ToldSemEvent → ℕ → Option (ℕ × ℕ)
asked [] f = None
asked (t ∷ older) f = cond (t.number == f) (acquire_in t.event) (asked older f)

-- the number of an event that polls
abbrev pub poll_number : ToldSemEvent → Option ℕ → Option ℕ
poll_number t (Some w) = Some t.number
poll_number t None = None

-- the number of the first poll of f
abbrev pub first_poll : List ToldSemEvent → ℕ → Option ℕ
first_poll [] f = None
first_poll (t ∷ older) f = option_or (first_poll older f) (poll_number t (waker_in t.event f))

-- whether a reply is `ready`
abbrev pub is_ready : Answer → Bool
is_ready answers.Ready = true
is_ready _ = false

-- whether a poll of f replied `ready`
abbrev pub was_ready : List ToldSemEvent → ℕ → Bool
was_ready [] f = false
was_ready (t ∷ older) f = (is_some (waker_in t.event f) && is_ready t.reply) || was_ready older f

-- whether f was ended
abbrev pub was_ended : List ToldSemEvent → ℕ → Bool
was_ended [] f = false
was_ended (t ∷ older) f = ends t.event f || was_ended older f

-- what a poll of f replies in a hall
abbrev pub reply_to_poll : Hall → ℕ → ℕ → ℕ → Answer
reply_to_poll h i f w = (step h i (events.Poll f w)).reply

-- ---- the order of grants

-- f has got what it asked for: a poll of it replied `ready`, or would reply `ready` now, with the waker w
abbrev pub HasGot : Run → ℕ → ℕ → Type 0
HasGot r f w = (was_ready r.trace f ≡ true) ⊎ (reply_to_poll r.hall r.next f w ≡ answers.Ready)

-- of two acquires f and g of one semaphore, of which g asks for at least one permit and was first polled
-- after f was: where g has got what it asked for, f has too, or f was ended
abbrev pub GrantsInOrder : Run → Type 0
GrantsInOrder r = (s m n f g i j v w : ℕ) → asked r.trace f ≡ Some (s, m) → asked r.trace g ≡ Some (s, n) → 0 < n → first_poll r.trace f ≡ Some i → first_poll r.trace g ≡ Some j → i < j
    → HasGot r g v → HasGot r f w ⊎ (was_ended r.trace f ≡ true)

-- ---- what one event grants

-- f was first polled before g was
abbrev pub IsPolledBefore : List ToldSemEvent → ℕ → ℕ → Type 0
IsPolledBefore trace f g = (i : ℕ) × (j : ℕ) × (first_poll trace f ≡ Some i) × (first_poll trace g ≡ Some j) × (i < j)

-- f was first polled before each of these was
abbrev pub IsPolledBeforeAll : List ToldSemEvent → ℕ → List ℕ → Type 0
IsPolledBeforeAll trace f [] = Unit {0}
IsPolledBeforeAll trace f (g ∷ gs) = IsPolledBefore trace f g × IsPolledBeforeAll trace f gs

-- each was first polled before all that follow
abbrev pub AreInOrder : List ToldSemEvent → List ℕ → Type 0
AreInOrder trace [] = Unit {0}
AreInOrder trace (f ∷ fs) = IsPolledBeforeAll trace f fs × AreInOrder trace fs

-- the newest event t settled f, which had been polled: before it a poll would have replied `pending`, and
-- now one would reply `ready` or `gone`, with the wakers v and w
pub record IsSettled (r : Run) (t : ToldSemEvent) (older : List ToldSemEvent) (f v w : ℕ) : Type 0 where
  pub polled : IsSome (first_poll older f)
  pub waited : reply_to_poll t.before t.number f v ≡ answers.Pending
  pub replies : (reply_to_poll r.hall r.next f w ≡ answers.Ready) ⊎ (reply_to_poll r.hall r.next f w ≡ answers.Gone)

-- those whom the newest event settled, in the order of their first polls: its wakes are the wakers of their
-- last polls, in this order; it granted only where no debt is left of what they asked for, and refused only
-- where it closed what they asked
pub record Settles (r : Run) (t : ToldSemEvent) (older : List ToldSemEvent) : Type 0 where
  pub futures : List ℕ
  pub settled : (f v w : ℕ) → Contains futures f → IsSettled r t older f v w
  pub all : (f v w : ℕ) → IsSettled r t older f v w → Contains futures f
  pub order : AreInOrder older futures
  pub wakes : map (λ w. Some w) t.wakes ≡ map (λ f. family.last_waker semaphores older f) futures
  pub paid_off : (f s n w : ℕ) → Contains futures f → asked older f ≡ Some (s, n) → reply_to_poll r.hall r.next f w ≡ answers.Ready → owed r.hall s ≡ 0
  pub closed : (f s n w : ℕ) → Contains futures f → asked older f ≡ Some (s, n) → reply_to_poll r.hall r.next f w ≡ answers.Gone → t.event ≡ events.Close s

-- the same of the newest event, if there is one
abbrev pub settles_of : Run → List ToldSemEvent → Type 0
settles_of r [] = Unit {0}
settles_of r (t ∷ older) = Settles r t older

-- the newest event wakes whom it settles, and nobody else, in the order of their first polls
abbrev pub WakesInOrder : Run → Type 0
WakesInOrder r = settles_of r r.trace

-- ---- who waits is not overtaken

-- while f waits, a try of at least one permit of its semaphore gets none
pub record IsNotOvertaken (r : Run) (s n : ℕ) : Type 0 where
  pub plain : (step r.hall r.next (events.Try s n)).reply ≡ answers.Lacking
  pub owned : (step r.hall r.next (events.Tryo s n)).reply ≡ answers.Lacking
  pub forgetting : (step r.hall r.next (events.Tryf s n)).reply ≡ answers.No
  pub owned_forgetting : (step r.hall r.next (events.Tryof s n)).reply ≡ answers.No

-- while an acquire that was polled waits, nobody gets a permit of its semaphore by a try
abbrev pub LetsNobodyPast : Run → Type 0
LetsNobodyPast r = (s m n f w : ℕ) → asked r.trace f ≡ Some (s, m) → IsSome (first_poll r.trace f) → reply_to_poll r.hall r.next f w ≡ answers.Pending → 0 < n → IsNotOvertaken r s n
