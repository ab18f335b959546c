-- how a wait list of places stands for the queue, the granted and the cut pairs of a semaphore
use Rattle.std.specs.Prelude.{◌≡◌, ℕ, ◌+◌, ◌-◌, ◌≤◌, List, [], ◌∷◌, ◌++◌, Option, Some, None, length, slice_index_or, Bool, true, false, ◌<◌, ◌^◌, ◌==◌, sum_by}
use Rattle.std.specs.Ordering.{nat_cmp}
use Rattle.std.specs.FinMap as map
use Rattle.mea_base.specs.WaitList.{Waits, get, is_linked, value_count, with_value, without, IsDistinct}
use Rattle.mea_base.specs.Outbox.{Wakes}
use Rattle.mea_base.specs.Queue.{lacks, waiting_after, granted_in}
use Rattle.mea_sem_core.specs.declared.wait_record.WaitRecord.{WaitRecord}
use Rattle.mea_sem_core.specs.declared.wait_record.WaitRecord.TheVariants.{Acquire, Debt, Granted, Cut}
use Rattle.mea_sem_core.specs.Core.{Waiter, Acquires, Owes, debt_of, paid_to_debts, paid_waiting, with_demands, granting, wakers_of, waiters_of, only_debts, HasDebtsFirst}

-- a pair before others, if there is one
abbrev pub cons_pair : ℕ → Option ℕ → List (ℕ × ℕ) → List (ℕ × ℕ)
cons_pair k None pairs = pairs
cons_pair k (Some demand) pairs = (k, demand) ∷ pairs

module _ {W : Type 0} where
  -- ---- one place
  abbrev pub lack_of : WaitRecord W → ℕ
  lack_of (Acquire demand lack waker) = lack
  lack_of (Debt lack) = lack
  lack_of (Granted demand) = 0
  lack_of (Cut demand) = 0

  abbrev pub debt_in : WaitRecord W → ℕ
  debt_in (Acquire demand lack waker) = 0
  debt_in (Debt lack) = lack
  debt_in (Granted demand) = 0
  debt_in (Cut demand) = 0

  abbrev pub is_acquire_of : WaitRecord W → ℕ → Bool
  is_acquire_of (Acquire own lack waker) demand = own == demand
  is_acquire_of (Debt lack) demand = false
  is_acquire_of (Granted own) demand = own == demand
  is_acquire_of (Cut own) demand = own == demand

  abbrev pub is_grant_of : WaitRecord W → ℕ → Bool
  is_grant_of (Acquire own lack waker) demand = false
  is_grant_of (Debt lack) demand = false
  is_grant_of (Granted own) demand = own == demand
  is_grant_of (Cut own) demand = false

  abbrev pub is_cut : WaitRecord W → Bool
  is_cut (Acquire demand lack waker) = false
  is_cut (Debt lack) = false
  is_cut (Granted demand) = false
  is_cut (Cut demand) = true

  abbrev pub is_debt : WaitRecord W → Bool
  is_debt (Acquire demand lack waker) = false
  is_debt (Debt lack) = true
  is_debt (Granted demand) = false
  is_debt (Cut demand) = false

  abbrev pub with_new_waker : WaitRecord W → W → WaitRecord W
  with_new_waker (Acquire demand lack waker) w = Acquire demand lack w
  with_new_waker (Debt lack) w = Debt lack
  with_new_waker (Granted demand) w = Granted demand
  with_new_waker (Cut demand) w = Cut demand

  -- the place after a part payment
  abbrev pub after_payment : WaitRecord W → ℕ → WaitRecord W
  after_payment (Acquire demand lack waker) n = Acquire demand (lack - n) waker
  after_payment (Debt lack) n = Debt (lack - n)
  after_payment (Granted demand) n = Granted demand
  after_payment (Cut demand) n = Cut demand

  -- the place after it was paid whole
  abbrev pub after_grant : WaitRecord W → WaitRecord W
  after_grant (Acquire demand lack waker) = Granted demand
  after_grant (Debt lack) = Debt lack
  after_grant (Granted demand) = Granted demand
  after_grant (Cut demand) = Cut demand

  -- the place after a close took it out of the queue
  abbrev pub after_cut : WaitRecord W → WaitRecord W
  after_cut (Acquire demand lack waker) = Cut demand
  after_cut (Debt lack) = Debt lack
  after_cut (Granted demand) = Granted demand
  after_cut (Cut demand) = Cut demand

  abbrev pub waker_of : WaitRecord W → Option W
  waker_of (Acquire demand lack waker) = Some waker
  waker_of (Debt lack) = None
  waker_of (Granted demand) = None
  waker_of (Cut demand) = None

  -- an acquire lacks at most its demand
  abbrev pub LacksAtMost : WaitRecord W → Type 0
  LacksAtMost (Acquire demand lack waker) = lack ≤ demand
  LacksAtMost (Debt lack) = Unit {0}
  LacksAtMost (Granted demand) = Unit {0}
  LacksAtMost (Cut demand) = Unit {0}

  -- ---- all places

  -- the waiter in a place, and what it lacks
  abbrev pub entry : ℕ → Option (WaitRecord W) → Waiter W × ℕ
  entry number None = (Owes, 0)
  entry number (Some (Acquire demand lack waker)) = (Acquires number demand waker, lack)
  entry number (Some (Debt lack)) = (Owes, lack)
  entry number (Some (Granted demand)) = (Owes, 0)
  entry number (Some (Cut demand)) = (Owes, 0)

  abbrev pub entries : List (Option (WaitRecord W)) → List ℕ → List (Waiter W × ℕ)
  entries slots [] = []
  entries slots (n ∷ ns) = entry n (slice_index_or slots n None) ∷ entries slots ns

  abbrev pub grant_of : Option (WaitRecord W) → Option ℕ
  grant_of None = None
  grant_of (Some (Acquire demand lack waker)) = None
  grant_of (Some (Debt lack)) = None
  grant_of (Some (Granted demand)) = Some demand
  grant_of (Some (Cut demand)) = None

  -- the demand of an acquire that was cut
  abbrev pub cut_demand : Option (WaitRecord W) → Option ℕ
  cut_demand None = None
  cut_demand (Some (Acquire demand lack waker)) = None
  cut_demand (Some (Debt lack)) = None
  cut_demand (Some (Granted demand)) = None
  cut_demand (Some (Cut demand)) = Some demand

  -- the numbers of the slots that have such a demand with it, where the first slot has this number
  abbrev pub pairs_from : (Option (WaitRecord W) → Option ℕ) → ℕ → List (Option (WaitRecord W)) → List (ℕ × ℕ)
  pairs_from demand k [] = []
  pairs_from demand k (slot ∷ rest) = cons_pair k (demand slot) (pairs_from demand (k + 1) rest)

  abbrev pub demands_by : (Option (WaitRecord W) → Option ℕ) → List (Option (WaitRecord W)) → map.FinMap nat_cmp ℕ
  demands_by demand slots = map.from_entries (pairs_from demand 0 slots)

  abbrev pub queue_of : Waits (WaitRecord W) → List (Waiter W × ℕ)
  queue_of w = entries w.slots w.order

  abbrev pub granted_of : Waits (WaitRecord W) → map.FinMap nat_cmp ℕ
  granted_of w = demands_by grant_of w.slots

  abbrev pub cut_of : Waits (WaitRecord W) → map.FinMap nat_cmp ℕ
  cut_of w = demands_by cut_demand w.slots

  -- what has been paid to the acquire in a place
  abbrev pub paid_slot : Option (WaitRecord W) → ℕ
  paid_slot None = 0
  paid_slot (Some (Acquire demand lack waker)) = demand - lack
  paid_slot (Some (Debt lack)) = 0
  paid_slot (Some (Granted demand)) = demand
  paid_slot (Some (Cut demand)) = 0

  abbrev pub paid_in : Waits (WaitRecord W) → ℕ
  paid_in w = sum_by paid_slot w.slots

  -- who waits in the queue lacks at least 1, and an acquire at most its demand
  abbrev pub IsWaiting : Option (WaitRecord W) → Type 0
  IsWaiting None = ⊥
  IsWaiting (Some (Acquire demand lack waker)) = (1 ≤ lack) × (lack ≤ demand)
  IsWaiting (Some (Debt lack)) = 1 ≤ lack
  IsWaiting (Some (Granted demand)) = ⊥
  IsWaiting (Some (Cut demand)) = ⊥

  -- what a number that is not in the queue has: nothing, or an acquire that was granted or cut
  abbrev pub IsIdle : Option (WaitRecord W) → Type 0
  IsIdle None = Unit {0}
  IsIdle (Some (Acquire demand lack waker)) = ⊥
  IsIdle (Some (Debt lack)) = ⊥
  IsIdle (Some (Granted demand)) = Unit {0}
  IsIdle (Some (Cut demand)) = Unit {0}

  abbrev pub AllWaiting : List (Option (WaitRecord W)) → List ℕ → Type 0
  AllWaiting slots [] = Unit {0}
  AllWaiting slots (n ∷ ns) = IsWaiting (slice_index_or slots n None) × AllWaiting slots ns

  -- the numbers in the queue wait, the debts first, all others were granted, cut or are free, and the values
  -- are at most the largest number
  pub record IsQueue (w : Waits (WaitRecord W)) : Type 0 where
    pub distinct : IsDistinct w.order
    pub waiting : AllWaiting w.slots w.order
    pub idle : (n : ℕ) → is_linked w n ≡ false → IsIdle (get w n)
    pub debts_first : HasDebtsFirst (queue_of w)
    pub few : value_count w < 2 ^ 64

  -- ---- what the loop of a pour does

  -- a waiter is paid n where that is less than it lacks, and else stays as it is
  pub record PaysPart (old new : Waits (WaitRecord W)) (number n lack debt : ℕ) : Type 0 where
    pub place : WaitRecord W
    pub found : get old number ≡ Some place
    pub lack_is : lack ≡ lack_of place
    pub debt_is : debt ≡ debt_in place
    pub part : n < lack → new ≡ with_value old number (after_payment place n)
    pub whole : lack ≤ n → new ≡ old

  -- the first waiter was paid whole: it left the queue, and an acquire was granted and its waker is ready
  pub record GrantsFirst (old new : Waits (WaitRecord W)) (old_box new_box : Wakes W) (first : Waiter W × ℕ) : Type 0 where
    pub queue : queue_of old ≡ first ∷ queue_of new
    pub granted : granted_of new ≡ granting (granted_of old) (first.0 ∷ [])
    pub cut : cut_of new ≡ cut_of old
    pub wakers : new_box.wakers ≡ old_box.wakers ++ wakers_of (first.0 ∷ [])
    pub kept : IsQueue new
    pub room : length new.order ≤ new_box.spare
    pub shorter : length new.order + 1 ≡ length old.order
    pub paid : paid_in new + debt_of first.0 first.1 ≡ paid_in old + first.1

  -- n was poured: the queue, the granted pairs and the wakers are those of the sums
  pub record Pours (old new : Waits (WaitRecord W)) (old_box new_box : Wakes W) (n : ℕ) : Type 0 where
    pub queue : queue_of new ≡ waiting_after (queue_of old) n
    pub granted : granted_of new ≡ granting (granted_of old) (granted_in (queue_of old) n)
    pub cut : cut_of new ≡ cut_of old
    pub wakers : new_box.wakers ≡ old_box.wakers ++ wakers_of (granted_in (queue_of old) n)
    pub kept : IsQueue new
    pub room : length new.order ≤ new_box.spare
    pub paid : paid_in new + (n - lacks (queue_of old)) + paid_to_debts (queue_of old) n ≡ paid_in old + n

  -- ---- what the loop of a close does

  -- an acquire left the queue and is cut, and its waker is ready; a debt stays
  abbrev pub CutsPlace : Waits (WaitRecord W) → Waits (WaitRecord W) → Wakes W → Wakes W → ℕ → ℕ → WaitRecord W → Type 0
  CutsPlace old new old_box new_box number paid (Acquire demand lack waker) =
      (new ≡ with_value (record old { order = without number old.order }) number (Cut demand))
      × (new_box ≡ record { wakers = old_box.wakers ++ waker ∷ []; spare = old_box.spare - 1 }) × (paid ≡ demand - lack)
  CutsPlace old new old_box new_box number paid (Debt lack) = (new ≡ old) × (new_box ≡ old_box) × (paid ≡ 0)
  CutsPlace old new old_box new_box number paid (Granted demand) = ⊥
  CutsPlace old new old_box new_box number paid (Cut demand) = ⊥

  -- all acquires of the queue were cut, which had been paid so much together
  pub record CutsQueue (old new : Waits (WaitRecord W)) (old_box new_box : Wakes W) (paid : ℕ) : Type 0 where
    pub queue : queue_of new ≡ only_debts (queue_of old)
    pub granted : granted_of new ≡ granted_of old
    pub cut : cut_of new ≡ with_demands (cut_of old) (waiters_of (queue_of old))
    pub wakers : new_box.wakers ≡ old_box.wakers ++ wakers_of (waiters_of (queue_of old))
    pub paid_is : paid ≡ paid_waiting (queue_of old)
    pub kept : IsQueue new
    pub room : length new.order ≤ new_box.spare
    pub paid_left : paid_in new + paid ≡ paid_in old
