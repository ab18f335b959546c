-- what holds of every hall that events reach
use Rattle.std.specs.Prelude.{ℕ, ◌≡◌, ◌+◌, ◌<◌, ◌≤◌, ◌^◌, ◌==◌, Bool, true, false, cond, List, [], ◌∷◌, Option, Some, None, IsSome}
use Rattle.std.specs.List.{sum_by}
use Rattle.std.specs.FinMap as map
use Rattle.mea_events.specs.declared.sem_event.SemEvent.{SemEvent}
use Rattle.mea_events.specs.declared.sem_event.SemEvent.TheVariants as events
use Rattle.mea_sem_model.specs.Hall.{Hall, Future, Permit, FutureStage, New, Waiting, Granted, Cut, Who, Waiter, Debt, semaphore_at, queue_at, is_closed, names, lack_of, free, held, paid, owed, live, plain_things}
use Rattle.mea_sem_model.specs.Cause.{is_named}

-- how many entries of a queue name a future
abbrev pub count : List (Who × ℕ) → ℕ → ℕ
count q f = sum_by {X = Who × ℕ} (λ e. cond (names e.0 f) 1 0) q

-- 1 for a stage that waits, else 0
abbrev pub one_if_waiting : FutureStage → ℕ
one_if_waiting New = 0
one_if_waiting (Waiting w) = 1
one_if_waiting Granted = 0
one_if_waiting Cut = 0

-- 1 for a future of s that waits, else 0
abbrev pub waits_at : ℕ → Option Future → ℕ
waits_at s None = 0
waits_at s (Some x) = cond (x.semaphore == s) (one_if_waiting x.stage) 0

-- each lacks at least 1
abbrev pub AllLack : List (Who × ℕ) → Type 0
AllLack [] = Unit {0}
AllLack (e ∷ q) = (1 ≤ e.1) × AllLack q

-- futures alone
abbrev pub HasNoDebt : List (Who × ℕ) → Type 0
HasNoDebt [] = Unit {0}
HasNoDebt ((Waiter f, n) ∷ q) = HasNoDebt q
HasNoDebt ((Debt, n) ∷ q) = ⊥

-- a debt stands only where nobody, or debts alone, stand before it
abbrev pub HasDebtsFirst : List (Who × ℕ) → Type 0
HasDebtsFirst [] = Unit {0}
HasDebtsFirst ((Waiter f, n) ∷ q) = HasNoDebt q
HasDebtsFirst ((Debt, n) ∷ q) = HasDebtsFirst q

-- a future waits only where its semaphore is open, and is cut only where it is closed
abbrev pub SuitsClosed : Bool → FutureStage → Type 0
SuitsClosed closed New = Unit {0}
SuitsClosed closed (Waiting w) = closed ≡ false
SuitsClosed closed Granted = Unit {0}
SuitsClosed closed Cut = closed ≡ true

-- what holds of a hall and all that is in it
pub record IsValid (h : Hall) : Type 0 where
  -- the futures in the queue of s are exactly its waiting futures, each once, and lack at most their demand
  pub once : (s f : ℕ) → count (queue_at h s) f ≡ waits_at s (map.get h.futures f)
  pub within : (s f : ℕ) (x : Future) → map.get h.futures f ≡ Some x → lack_of (queue_at h s) f ≤ x.demand
  pub lacking : (s : ℕ) → AllLack (queue_at h s)
  pub debts_first : (s : ℕ) → HasDebtsFirst (queue_at h s)
  -- free permits and a waiter never stand together
  pub idle : (s : ℕ) → 0 < free h s → queue_at h s ≡ []
  pub fits : (s : ℕ) → live h s < 2 ^ 64
  -- a semaphore that has a plain future or a plain permit is named
  pub named : (s : ℕ) → 0 < plain_things h s → is_named h s ≡ true
  pub closed : (f : ℕ) (x : Future) → map.get h.futures f ≡ Some x → SuitsClosed (is_closed h x.semaphore) x.stage
  -- each future and each permit is of a semaphore of the hall
  pub futures_of : (f : ℕ) (x : Future) → map.get h.futures f ≡ Some x → IsSome (map.get h.semaphores x.semaphore)
  pub permits_of : (p : ℕ) (x : Permit) → map.get h.permits p ≡ Some x → IsSome (map.get h.semaphores x.semaphore)
  -- no name stands in two of the maps
  pub semaphores_apart : (k : ℕ) → IsSome (map.get h.semaphores k) → (map.get h.futures k ≡ None) × (map.get h.permits k ≡ None)
  pub futures_apart : (k : ℕ) → IsSome (map.get h.futures k) → map.get h.permits k ≡ None

-- each name of the hall is below n
pub record IsBelow (h : Hall) (n : ℕ) : Type 0 where
  pub semaphores : (k : ℕ) → IsSome (map.get h.semaphores k) → k < n
  pub futures : (k : ℕ) → IsSome (map.get h.futures k) → k < n
  pub permits : (k : ℕ) → IsSome (map.get h.permits k) → k < n

-- the tallies that a semaphore keeps account for its permits
abbrev pub IsAccounted : Hall → ℕ → Type 0
IsAccounted h s = (semaphore_at h s).made + (semaphore_at h s).released + owed h s ≡ free h s + held h s + paid h s + (semaphore_at h s).forgotten

-- the permits that an event makes fit their type
abbrev pub Fits : SemEvent → Type 0
Fits (events.New n) = n < 2 ^ 64
Fits _ = Unit {0}
