-- semaphores as a family of primitives, and the permits that a run of their events made, released and forgot
use Rattle.std.specs.Prelude.{ℕ, ◌≡◌, ◌+◌, ◌==◌, ◌&&◌, Bool, false, cond, List, [], ◌∷◌, Option, Some, None, is_some}
use Rattle.std.specs.List.{sum_by}
use Rattle.std.specs.FinMap as map
use Rattle.mea_family.specs.declared.answer.Answer.{Answer}
use Rattle.mea_family.specs.declared.answer.Answer.TheVariants as answers
use Rattle.mea_family.specs.Family as family
use Rattle.mea_family.specs.Family.{Family}
use Rattle.mea_events.specs.declared.sem_event.SemEvent.{SemEvent}
use Rattle.mea_events.specs.declared.sem_event.SemEvent.TheVariants as events
use Rattle.mea_sem_model.specs.Hall.{Hall, Future, Permit, FutureStage, New, Waiting, Granted, Cut, empty_hall, free, held, paid, owed}
use Rattle.mea_sem_model.specs.Cause.{cause_of}
use Rattle.mea_sem_model.specs.Step.{step}
use Rattle.mea_sem_model.specs.Valid.{Fits}

-- the waker with which this event polls f, if it does
abbrev pub waker_in : SemEvent → ℕ → Option ℕ
waker_in (events.Poll g w) f = cond (g == f) (Some w) None
waker_in _ f = None

-- the waker of a future that waits
abbrev pub waker_at : FutureStage → Option ℕ
waker_at New = None
waker_at (Waiting w) = Some w
waker_at Granted = None
waker_at Cut = None

-- the same of a future, which may be gone
abbrev pub waker_kept : Option Future → Option ℕ
waker_kept None = None
waker_kept (Some x) = waker_at x.stage

-- whether this event ends f
abbrev pub ends : SemEvent → ℕ → Bool
ends (events.End x) f = x == f
ends _ f = false

-- semaphores as a family of primitives; a future is known by its name
abbrev pub semaphores : Family
semaphores = record {
  Hall = Hall;
  Event = SemEvent;
  Future = ℕ;
  empty = empty_hall;
  cause = cause_of;
  step = step;
  polled = waker_in;
  ends = ends;
  name = λ f. f;
  lives = λ h f. is_some (map.get h.futures f);
  placed = λ h f. waker_kept (map.get h.futures f);
}

-- an event of semaphores as it was told
abbrev pub ToldSemEvent : Type 0
ToldSemEvent = family.ToldOf semaphores

-- semaphores with all that was told of them so far
abbrev pub Run : Type 0
Run = family.RunOf semaphores

-- a run of events of semaphores that had no cause for refusal
abbrev pub IsSemRun : Run → Type 0
IsSemRun r = family.IsRun semaphores r

-- the permits that each event of a run makes fit their type
abbrev pub AllFit : List ToldSemEvent → Type 0
AllFit [] = Unit {0}
AllFit (t ∷ older) = Fits t.event × AllFit older

-- ---- the permits that events made, released and forgot, summed again from the events and their replies

-- n, where the semaphore q is s
abbrev pub if_same : ℕ → ℕ → ℕ → ℕ
if_same q s n = cond (q == s) n 0

-- what this event made of s
abbrev pub made_by : ℕ → ToldSemEvent → SemEvent → ℕ
made_by s t (events.New n) = if_same t.number s n
made_by s t _ = 0

-- what this event released to s
abbrev pub released_by : ℕ → SemEvent → ℕ
released_by s (events.Release q n) = if_same q s n
released_by s _ = 0

-- k, where the reply is `forgot k`
abbrev pub number_forgot : Answer → ℕ
number_forgot (answers.Forgot k) = k
number_forgot _ = 0

-- n, where the reply is `yes`
abbrev pub if_yes : ℕ → Answer → ℕ
if_yes n answers.Yes = n
if_yes n _ = 0

-- n, where the reply is `ready`
abbrev pub if_ready : ℕ → Answer → ℕ
if_ready n answers.Ready = n
if_ready n _ = 0

-- n, where the permit is of s
abbrev pub if_permit_of : ℕ → Option Permit → ℕ → ℕ
if_permit_of s None n = 0
if_permit_of s (Some x) n = if_same x.semaphore s n

-- the demand of a forgetting future of s
abbrev pub forgetting_demand : ℕ → Option Future → ℕ
forgetting_demand s None = 0
forgetting_demand s (Some x) = cond (x.semaphore == s && x.forgets) x.demand 0

-- what this event forgot of s, as its reply tells
abbrev pub forgotten_by : ℕ → ToldSemEvent → SemEvent → ℕ
forgotten_by s t (events.Forget q n) = if_same q s (number_forgot t.reply)
forgotten_by s t (events.Forgetx q n) = if_same q s n
forgotten_by s t (events.Tryf q n) = if_same q s (if_yes n t.reply)
forgotten_by s t (events.Tryof q n) = if_same q s (if_yes n t.reply)
forgotten_by s t (events.Poll f w) = if_ready (forgetting_demand s (map.get t.before.futures f)) t.reply
forgotten_by s t (events.Lose p) = if_permit_of s (map.get t.before.permits p) (number_forgot t.reply)
forgotten_by s t _ = 0

-- what all events made of s
abbrev pub made : List ToldSemEvent → ℕ → ℕ
made trace s = sum_by {X = ToldSemEvent} (λ t. made_by s t t.event) trace

-- what all events released to s
abbrev pub released : List ToldSemEvent → ℕ → ℕ
released trace s = sum_by {X = ToldSemEvent} (λ t. released_by s t.event) trace

-- what all events forgot of s
abbrev pub forgotten : List ToldSemEvent → ℕ → ℕ
forgotten trace s = sum_by {X = ToldSemEvent} (λ t. forgotten_by s t t.event) trace

-- the permits of s that were made, released and are owed are those that are free, held, paid and forgotten
abbrev pub Balances : Run → ℕ → Type 0
Balances r s = made r.trace s + released r.trace s + owed r.hall s ≡ free r.hall s + held r.hall s + paid r.hall s + forgotten r.trace s
