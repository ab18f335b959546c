-- what a contract sees of a condition variable
use Rattle.std.specs.Prelude.{◌≡◌, ◌≢◌, ◌==◌, ◌++◌, ◌⊎◌, if◌then◌else◌, ℕ, List, [], ◌∷◌, Option, Some, None, IsSome, Bool, true, false, map, refl}
use Rattle.std.specs.Coded.{Coded, code_by, coded×, coded_ℕ, coded_bool, coded_list}
use Rattle.std.specs.Ordering.{nat_cmp}
use Rattle.std.specs.FinMap as map

-- a condition variable: the number and the waker of each wait that waits, in their order; for each number
-- that was notified and not polled since, whether it was notified alone; and the wakers that are ready
pub record Condvar (W : Type 0) : Type 0 where
  pub waiting : List (ℕ × W)
  pub notified : map.FinMap nat_cmp Bool
  pub wakes : List W

-- what lets a `Condvar` be the value of a model
abbrev pub condvar_code : {W : Type 0} → Coded W → Coded (Condvar W)
condvar_code {W} code =
    code_by
    (List (ℕ × W) × (map.FinMap nat_cmp Bool × List W))
    (coded× (coded_list (coded× coded_ℕ code)) (coded× (map.code coded_ℕ coded_bool) (coded_list code)))
    (λ s. (s.waiting, (s.notified, s.wakes)))
    (λ p. record { waiting = p.0; notified = p.1.0; wakes = p.1.1 })
    (λ _. refl)

module _ {W : Type 0} where
  -- ---- those that wait

  -- the waker of the wait with a number
  abbrev pub waker_under : List (ℕ × W) → ℕ → Option W
  waker_under [] n = None
  waker_under (e ∷ q) n = if e.0 == n then Some e.1 else waker_under q n

  -- the waits with another waker for a number
  abbrev pub with_waker : List (ℕ × W) → ℕ → W → List (ℕ × W)
  with_waker [] n w = []
  with_waker (e ∷ q) n w = (e.0, if e.0 == n then w else e.1) ∷ with_waker q n w

  -- the waits that have another number
  abbrev pub without_wait : List (ℕ × W) → ℕ → List (ℕ × W)
  without_wait [] n = []
  without_wait (e ∷ q) n = if e.0 == n then without_wait q n else e ∷ without_wait q n

  -- no two waits have one number
  abbrev pub AreApart : List (ℕ × W) → Type 0
  AreApart [] = Unit {0}
  AreApart (e ∷ q) = (waker_under q e.0 ≡ None) × AreApart q

  -- what holds of every condition variable
  pub record IsSound (s : Condvar W) : Type 0 where
    pub apart : AreApart s.waiting
    -- a number that waits was not notified
    pub notified_apart : (n : ℕ) → waker_under s.waiting n ≢ None → map.get s.notified n ≡ None

  -- the number waits, or was notified
  abbrev pub Knows : Condvar W → ℕ → Type 0
  Knows s n = IsSome (waker_under s.waiting n) ⊎ IsSome (map.get s.notified n)

  -- ---- notifying

  -- the first of those that wait was notified, alone or with all
  abbrev pub first_notified : Bool → List (ℕ × W) → Condvar W → Condvar W
  first_notified by_one [] s = s
  first_notified by_one (e ∷ q) s = record { waiting = q; notified = map.insert s.notified e.0 by_one; wakes = s.wakes ++ e.1 ∷ [] }

  -- the first that waits is notified, if any does
  abbrev pub notified_one : Condvar W → Condvar W
  notified_one s = first_notified true s.waiting s

  -- the notified numbers with those of these waits
  abbrev pub notifying : map.FinMap nat_cmp Bool → List (ℕ × W) → map.FinMap nat_cmp Bool
  notifying notified [] = notified
  notifying notified (e ∷ q) = notifying (map.insert notified e.0 false) q

  -- each that waits is notified, in their order
  abbrev pub notified_all : Condvar W → Condvar W
  notified_all s = record { waiting = []; notified = notifying s.notified s.waiting; wakes = s.wakes ++ map {A = ℕ × W} (λ e. e.1) s.waiting }

  -- a notification that was for one alone goes to the next that waits
  abbrev pub passed_on : Bool → Condvar W → Condvar W
  passed_on by_one s = if by_one then notified_one s else s

  -- a new wait stands last, under a number that is fresh
  pub record Lists (s s' : Condvar W) (n : ℕ) (w : W) : Type 0 where
    pub is : s' ≡ record s { waiting = s.waiting ++ (n, w) ∷ [] }
    pub not_waiting : waker_under s.waiting n ≡ None
    pub not_notified : map.get s.notified n ≡ None
