-- a family of primitives as the hall of all families sees it, its runs, and what it owes to who waits
use Rattle.std.specs.Prelude.{ℕ, ◌≡◌, ◌≢◌, ◌+◌, ◌<◌, ◌≤◌, ◌++◌, ◌⊎◌, Bool, true, false, cond, List, [], ◌∷◌, Option, Some, None, Contains}
use Rattle.mea_family.specs.declared.answer.Answer.{Answer}
use Rattle.mea_family.specs.declared.answer.Answer.TheVariants as answers
use Rattle.mea_family.specs.declared.stop.Stop.{Stop}

-- what an event gives: the hall after it, its reply, and the wakers that it makes ready
pub record Outcome (H : Type 0) : Type 0 where
  pub hall : H
  pub reply : Answer
  pub wakes : List ℕ

-- no waker is made ready
abbrev pub quietly : {H : Type 0} → H → Answer → Outcome H
quietly h reply = record { hall = h; reply = reply; wakes = [] }

-- a hall and its events: why one is refused, what one gives under its number, whom one polls and with
-- which waker, which futures one abandons, which futures live, and the waker that the hall keeps for a
-- future that waits
pub record Family : Type 1 where
  pub Hall : Type 0
  pub Event : Type 0
  pub Future : Type 0
  pub empty : Hall
  pub cause : Hall → Event → Option Stop
  pub step : Hall → ℕ → Event → Outcome Hall
  pub polled : Event → Future → Option ℕ
  pub ends : Event → Future → Bool
  pub name : Future → ℕ
  pub lives : Hall → Future → Bool
  pub placed : Hall → Future → Option ℕ

-- an event as it was told: its number, the hall before it, its reply and its wakes
pub record ToldEvent (H E : Type 0) : Type 0 where
  pub number : ℕ
  pub before : H
  pub event : E
  pub reply : Answer
  pub wakes : List ℕ

-- a hall with all that was told so far, the newest first, and the least number that may come next
pub record Run (H E : Type 0) : Type 0 where
  pub hall : H
  pub trace : List (ToldEvent H E)
  pub next : ℕ

abbrev pub is_pending : Answer → Bool
is_pending answers.Pending = true
is_pending _ = false

-- the waker, if the reply was `pending`
abbrev pub kept_waker : Answer → ℕ → Option ℕ
kept_waker reply w = cond (is_pending reply) (Some w) None

module _ (F : Family) where
  abbrev pub RunOf : Type 0
  RunOf = Run F.Hall F.Event

  abbrev pub ToldOf : Type 0
  ToldOf = ToldEvent F.Hall F.Event

  abbrev pub start : RunOf
  start = record { hall = F.empty; trace = []; next = 0 }

  -- event number i, as it is told
  abbrev pub told : RunOf → ℕ → F.Event → ToldOf
  told r i e = record { number = i; before = r.hall; event = e; reply = (F.step r.hall i e).reply; wakes = (F.step r.hall i e).wakes }

  -- event number i is played
  abbrev pub goes_on : RunOf → ℕ → F.Event → RunOf
  goes_on r i e = record { hall = (F.step r.hall i e).hall; trace = told r i e ∷ r.trace; next = i + 1 }

  -- a run of events with rising numbers, each played where it has no cause for refusal
  pub data IsRun : RunOf → Type 0 where
    Starts : IsRun start
    Goes : (r : RunOf) (i : ℕ) (e : F.Event) → IsRun r → r.next ≤ i → F.cause r.hall e ≡ None → IsRun (goes_on r i e)

  abbrev pub last_waker_at : ToldOf → Option ℕ → Option ℕ → Option ℕ
  last_waker_at t (Some w) before = kept_waker t.reply w
  last_waker_at t None before = before

  -- the waker of the last poll of f, if that replied `pending`
  abbrev pub last_waker : List ToldOf → F.Future → Option ℕ
  last_waker [] f = None
  last_waker (t ∷ older) f = last_waker_at t (F.polled t.event f) (last_waker older f)

  abbrev pub wakes_at : ToldOf → Option ℕ → List ℕ → List ℕ
  wakes_at t (Some w) before = []
  wakes_at t None before = before ++ t.wakes

  -- the wakes that were told after the last poll of f
  abbrev pub wakes_since : List ToldOf → F.Future → List ℕ
  wakes_since [] f = []
  wakes_since (t ∷ older) f = wakes_at t (F.polled t.event f) (wakes_since older f)

  -- a living future whose last poll replied `pending`, and which a poll would answer otherwise now, has
  -- had the waker of that last poll woken since
  abbrev pub LosesNoWake : RunOf → Type 0
  LosesNoWake r = (f : F.Future) (w v : ℕ) (e : F.Event) → F.lives r.hall f ≡ true → last_waker r.trace f ≡ Some w → F.polled e f ≡ Some v → (F.step r.hall r.next e).reply ≢ answers.Pending → Contains (wakes_since r.trace f) w

  -- what holds of wakers in every hall that events reach, at each next event
  pub record KeepsWakers : Type 0 where
    -- an event that replies `pending` to a poll places the waker given
    pub places : (r : RunOf) (i : ℕ) (e : F.Event) → IsRun r → r.next ≤ i → F.cause r.hall e ≡ None → (f : F.Future) (w : ℕ) → F.polled e f ≡ Some w → (F.step r.hall i e).reply ≡ answers.Pending → F.placed (F.step r.hall i e).hall f ≡ Some w
    -- while a waker is placed for a future, a poll of it replies `pending`
    pub waits : (r : RunOf) (i : ℕ) (e : F.Event) → IsRun r → (f : F.Future) (w v : ℕ) → F.lives r.hall f ≡ true → F.placed r.hall f ≡ Some w → F.polled e f ≡ Some v → (F.step r.hall i e).reply ≡ answers.Pending
    -- an event that takes the placed waker of a future away, and neither polls nor ends it, has that waker
    -- among its wakes
    pub wakes : (r : RunOf) (i : ℕ) (e : F.Event) → IsRun r → r.next ≤ i → F.cause r.hall e ≡ None → (f : F.Future) (w : ℕ) → F.lives r.hall f ≡ true → F.placed r.hall f ≡ Some w → F.polled e f ≡ None → F.ends e f ≡ false
        → (F.placed (F.step r.hall i e).hall f ≡ Some w) ⊎ Contains (F.step r.hall i e).wakes w
    -- a future that an event neither polls nor ends lives on
    pub stays : (r : RunOf) (i : ℕ) (e : F.Event) → IsRun r → r.next ≤ i → F.cause r.hall e ≡ None → (f : F.Future) → F.lives r.hall f ≡ true → F.polled e f ≡ None → F.ends e f ≡ false → F.lives (F.step r.hall i e).hall f ≡ true
    -- a future that an event ends does not live after it
    pub goes : (r : RunOf) (i : ℕ) (e : F.Event) → IsRun r → r.next ≤ i → F.cause r.hall e ≡ None → (f : F.Future) → F.ends e f ≡ true → F.lives (F.step r.hall i e).hall f ≡ false

  -- only futures that live are polled, and their names are the numbers of the events that made them
  pub record NamesFutures : Type 0 where
    pub polls : (h : F.Hall) (e : F.Event) → F.cause h e ≡ None → (f : F.Future) (w : ℕ) → F.polled e f ≡ Some w → F.lives h f ≡ true
    pub below : (r : RunOf) → IsRun r → (f : F.Future) → F.lives r.hall f ≡ true → F.name f < r.next
    pub made : (r : RunOf) (i : ℕ) (e : F.Event) → IsRun r → r.next ≤ i → F.cause r.hall e ≡ None → (f : F.Future) → F.lives (F.step r.hall i e).hall f ≡ true → (F.lives r.hall f ≡ true) ⊎ (F.name f ≡ i)
