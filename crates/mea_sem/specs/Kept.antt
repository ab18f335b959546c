-- what a `SemFamily` keeps to
use Rattle.std.specs.Prelude.{ℕ, ◌≡◌, ◌==◌, ◌&&◌, ◌+◌, ◌*◌, ◌^◌, ◌≤◌, Bool, true, cond, List, [], ◌∷◌, Some}
use Rattle.std.specs.FinMap.{get}
use Rattle.mea_base.specs.Totals.{total}
use Rattle.mea_sem_model.specs.Hall.{Hall, Future, Permit, held, plain_things}
use Rattle.mea_sem_model.specs.Valid.{IsValid, IsBelow, IsAccounted}
use Rattle.mea_sem_core.specs.Core as cores
use Rattle.mea_sem.specs.declared.entries.SemaphoreEntry.{SemaphoreEntry}
use Rattle.mea_sem.specs.Store.{Store, hall_of, IsLinked}

-- how many of a core's queue have a waker
abbrev pub wakers_in : List (cores.Waiter ℕ × ℕ) → ℕ
wakers_in [] = 0
wakers_in ((cores.Acquires n d w, l) ∷ q) = wakers_in q + 1
wakers_in ((cores.Owes, l) ∷ q) = wakers_in q

-- how many futures and permits of s there are whose form a test chooses
abbrev pub things_by : (Bool → Bool) → Hall → ℕ → ℕ
things_by chosen h s = total {X = Future} (λ f x. cond (x.semaphore == s && chosen x.plain) 1 0) h.futures + total {X = Permit} (λ k p. cond (p.semaphore == s && chosen p.plain) 1 0) h.permits

-- how many futures and permits s has
abbrev pub things : Hall → ℕ → ℕ
things h s = things_by (λ plain. true) h s

-- the core of s and its tallies go with the hall; a tally fits, since each event adds less than 2 ^ 64
pub record IsKeptEntry (h : Hall) (next s : ℕ) (e : SemaphoreEntry) : Type 0 where
  pub account : e.core.live + e.forgotten ≡ e.made + e.released + cores.debts e.core.queue
  pub held : cores.held_of e.core ≡ held h s
  pub plain : e.plain ≡ plain_things h s
  pub things : e.things ≡ things h s
  pub few : (e.plain ≤ next) × (e.things ≤ next)
  -- its wakers are handed on after each event
  pub quiet : e.core.wakes ≡ []
  pub released : e.released ≤ next * 2 ^ 64
  pub forgotten : e.forgotten ≤ next * 2 ^ 64

pub record AreKeptSemaphores (st : Store) (registered spare next : ℕ) : Type 0 where
  pub valid : IsValid (hall_of st next)
  pub below : IsBelow (hall_of st next) next
  pub accounted : (s : ℕ) → IsAccounted (hall_of st next) s
  pub linked : IsLinked st next
  pub each : (s : ℕ) (e : SemaphoreEntry) → get st.semaphores s ≡ Some e → IsKeptEntry (hall_of st next) next s e
  -- each waker that is kept has its place in the list of those that are ready
  pub counted : registered ≡ total (λ s (e : SemaphoreEntry). wakers_in e.core.queue) st.semaphores
  pub room : registered ≤ spare
  -- an event registers one waker at the most
  pub few : registered ≤ next
  pub low : next ≤ 2 ^ 64

-- how many wakers the cores keep
abbrev pub wakers_of_all : Store → ℕ
wakers_of_all st = total (λ s (e : SemaphoreEntry). wakers_in e.core.queue) st.semaphores

-- what semaphores keep to between events, whatever the list has that they are lent
abbrev pub AreKept : Store → ℕ → Type 0
AreKept st next = AreKeptSemaphores st (wakers_of_all st) (wakers_of_all st) next
