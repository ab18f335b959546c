-- what a contract sees of a `SemCore`
use Rattle.std.specs.Prelude.{ℕ, ◌≡◌, ◌≢◌, ◌+◌, ◌-◌, ◌<◌, ◌≤◌, ◌^◌, ◌==◌, ◌++◌, Bool, true, false, List, [], ◌∷◌, Option, Some, None, length, sum_by, ◌⊎◌, refl, if◌then◌else◌}
use Rattle.std.specs.Coded.{Coded, code_by, coded×, coded⊎, coded_ℕ, coded_bool, coded_list}
use Rattle.std.proofs.Common.{inl, inr}
use Rattle.std.specs.Ordering.{nat_cmp}
use Rattle.std.specs.FinMap as map
use Rattle.mea_base.specs.Queue.{waiting_after, granted_in, left_over}

-- who waits: an acquire with its number, its demand and the waker of its last poll, or a debt
pub data Waiter (W : Type 0) : Type 0 where
  Acquires : ℕ → ℕ → W → Waiter W
  Owes : Waiter W

-- a semaphore: the free and the live permits, who waits and what each lacks, the demand under each
-- number that was granted and not polled since, the demand under each number that a close took out of the
-- queue and that was not polled since, whether it is closed, and the wakers that are ready
pub record Core (W : Type 0) : Type 0 where
  pub free : ℕ
  pub live : ℕ
  pub queue : List (Waiter W × ℕ)
  pub granted : map.FinMap nat_cmp ℕ
  pub cut : map.FinMap nat_cmp ℕ
  pub closed : Bool
  pub wakes : List W

-- ---- codes
abbrev pub waiter_parts : {W : Type 0} → Waiter W → (ℕ × (ℕ × W)) ⊎ ℕ
waiter_parts (Acquires number demand waker) = inl (number, (demand, waker))
waiter_parts Owes = inr 0

abbrev pub waiter_from_parts : {W : Type 0} → (ℕ × (ℕ × W)) ⊎ ℕ → Waiter W
waiter_from_parts (inl p) = Acquires p.0 p.1.0 p.1.1
waiter_from_parts (inr _) = Owes

pub same_waiter : {W : Type 0} (e : Waiter W) → waiter_from_parts (waiter_parts e) ≡ e
same_waiter (Acquires number demand waker) = refl
same_waiter Owes = refl

abbrev pub waiter_code : {W : Type 0} → Coded W → Coded (Waiter W)
waiter_code {W} code =
    code_by
    ((ℕ × (ℕ × W)) ⊎ ℕ)
    (coded⊎ (coded× coded_ℕ (coded× coded_ℕ code)) coded_ℕ)
    waiter_parts
    waiter_from_parts
    same_waiter

abbrev pub core_code : {W : Type 0} → Coded W → Coded (Core W)
core_code {W} code =
    code_by
    (ℕ × (ℕ × (List (Waiter W × ℕ) × (map.FinMap nat_cmp ℕ × (map.FinMap nat_cmp ℕ × (Bool × List W))))))
    (coded× coded_ℕ (coded× coded_ℕ (coded× (coded_list (coded× (waiter_code code) coded_ℕ))
    (coded× (map.code coded_ℕ coded_ℕ) (coded× (map.code coded_ℕ coded_ℕ) (coded× coded_bool (coded_list code)))))))
    (λ s. (s.free, (s.live, (s.queue, (s.granted, (s.cut, (s.closed, s.wakes)))))))
    (λ p. record { free = p.0; live = p.1.0; queue = p.1.1.0; granted = p.1.1.1.0; cut = p.1.1.1.1.0; closed = p.1.1.1.1.1.0; wakes = p.1.1.1.1.1.1 })
    (λ _. refl)

module _ {W : Type 0} where
  -- ---- what the permits are
  abbrev pub debt_of : Waiter W → ℕ → ℕ
  debt_of (Acquires number demand waker) lack = 0
  debt_of Owes lack = lack

  -- what the debts of a queue lack together
  abbrev pub debts : List (Waiter W × ℕ) → ℕ
  debts q = sum_by {X = Waiter W × ℕ} (λ e. debt_of e.0 e.1) q

  -- what an acquire was paid; a payment to a debt is gone
  abbrev pub paid_to : Waiter W → ℕ → ℕ
  paid_to (Acquires number demand waker) lack = demand - lack
  paid_to Owes lack = 0

  -- what the acquires of a queue were paid together
  abbrev pub paid_waiting : List (Waiter W × ℕ) → ℕ
  paid_waiting q = sum_by {X = Waiter W × ℕ} (λ e. paid_to e.0 e.1) q

  -- the permits paid to acquires that wait or were granted
  abbrev pub paid_of : Core W → ℕ
  paid_of s = paid_waiting s.queue + sum_by (λ d. d) (map.values s.granted)

  -- the live permits that are neither free nor paid
  abbrev pub held_of : Core W → ℕ
  held_of s = s.live - s.free - paid_of s

  -- ---- pouring
  abbrev pub wakers_of : List (Waiter W) → List W
  wakers_of [] = []
  wakers_of (Acquires number demand waker ∷ es) = waker ∷ wakers_of es
  wakers_of (Owes ∷ es) = wakers_of es

  -- pairs of numbers and demands with those of the acquires among these waiters
  abbrev pub with_demands : map.FinMap nat_cmp ℕ → List (Waiter W) → map.FinMap nat_cmp ℕ
  with_demands pairs [] = pairs
  with_demands pairs (Acquires number demand waker ∷ es) = with_demands (map.insert pairs number demand) es
  with_demands pairs (Owes ∷ es) = with_demands pairs es

  -- the granted pairs with those of these waiters
  abbrev pub granting : map.FinMap nat_cmp ℕ → List (Waiter W) → map.FinMap nat_cmp ℕ
  granting granted es = with_demands granted es

  -- what a pour of n pays to debts
  abbrev pub paid_to_debts : List (Waiter W × ℕ) → ℕ → ℕ
  paid_to_debts q n = debts q - debts (waiting_after q n)

  -- n permits are poured that did not live before; what is paid to a debt does not live
  abbrev pub poured : Core W → ℕ → Core W
  poured s n = record s {
    free = s.free + left_over s.queue n;
    live = s.live + n - paid_to_debts s.queue n;
    queue = waiting_after s.queue n;
    granted = granting s.granted (granted_in s.queue n);
    wakes = s.wakes ++ wakers_of (granted_in s.queue n);
  }

  -- ---- closing
  abbrev pub waiters_of : List (Waiter W × ℕ) → List (Waiter W)
  waiters_of [] = []
  waiters_of (e ∷ q) = e.0 ∷ waiters_of q

  -- a queue with no acquire of it left
  abbrev pub only_debts : List (Waiter W × ℕ) → List (Waiter W × ℕ)
  only_debts [] = []
  only_debts ((Acquires number demand waker, lack) ∷ q) = only_debts q
  only_debts ((Owes, lack) ∷ q) = (Owes, lack) ∷ only_debts q

  -- all acquires of the queue are cut: they leave it, and their wakers are ready in its order
  abbrev pub cut_off : Core W → Core W
  cut_off s = record s {
    live = s.live - paid_waiting s.queue;
    queue = only_debts s.queue;
    cut = with_demands s.cut (waiters_of s.queue);
    closed = true;
    wakes = s.wakes ++ wakers_of (waiters_of s.queue);
  }

  -- what they were paid is then poured; nothing changes where the semaphore is closed already
  abbrev pub closed_core : Core W → Core W
  closed_core s = if s.closed then s else poured (cut_off s) (paid_waiting s.queue)

  -- ---- looking an acquire up

  -- the demand and the lack of the acquire that waits under a number
  abbrev pub waiting : List (Waiter W × ℕ) → ℕ → Option (ℕ × ℕ)
  waiting [] n = None
  waiting ((Acquires m demand waker, lack) ∷ q) n = if m == n then Some (demand, lack) else waiting q n
  waiting ((Owes, lack) ∷ q) n = waiting q n

  abbrev pub waker_under : List (Waiter W × ℕ) → ℕ → Option W
  waker_under [] n = None
  waker_under ((Acquires m demand waker, lack) ∷ q) n = if m == n then Some waker else waker_under q n
  waker_under ((Owes, lack) ∷ q) n = waker_under q n

  -- ---- what holds of every core

  -- no two acquires of a queue have one number
  abbrev pub AreApart : List (Waiter W × ℕ) → Type 0
  AreApart [] = Unit {0}
  AreApart ((Acquires m demand waker, lack) ∷ q) = (waiting q m ≡ None) × AreApart q
  AreApart ((Owes, lack) ∷ q) = AreApart q

  -- each lacks at least 1, and an acquire at most its demand
  abbrev pub LacksWithin : Waiter W → ℕ → Type 0
  LacksWithin (Acquires m demand waker) lack = (1 ≤ lack) × (lack ≤ demand)
  LacksWithin Owes lack = 1 ≤ lack

  abbrev pub AllLackWithin : List (Waiter W × ℕ) → Type 0
  AllLackWithin [] = Unit {0}
  AllLackWithin (e ∷ q) = LacksWithin e.0 e.1 × AllLackWithin q

  abbrev pub HasNoDebt : List (Waiter W × ℕ) → Type 0
  HasNoDebt [] = Unit {0}
  HasNoDebt ((Acquires m demand waker, lack) ∷ q) = HasNoDebt q
  HasNoDebt ((Owes, lack) ∷ q) = ⊥

  -- debts stand before all acquires
  abbrev pub HasDebtsFirst : List (Waiter W × ℕ) → Type 0
  HasDebtsFirst [] = Unit {0}
  HasDebtsFirst ((Acquires m demand waker, lack) ∷ q) = HasNoDebt q
  HasDebtsFirst ((Owes, lack) ∷ q) = HasDebtsFirst q

  abbrev pub HasOnlyDebts : List (Waiter W × ℕ) → Type 0
  HasOnlyDebts [] = Unit {0}
  HasOnlyDebts ((Acquires m demand waker, lack) ∷ q) = ⊥
  HasOnlyDebts ((Owes, lack) ∷ q) = HasOnlyDebts q

  -- of a closed semaphore debts alone wait, and of an open one no number was cut
  abbrev pub CutsWhereClosed : Bool → List (Waiter W × ℕ) → map.FinMap nat_cmp ℕ → Type 0
  CutsWhereClosed true q cut = HasOnlyDebts q
  CutsWhereClosed false q cut = cut ≡ map.empty

  pub record IsSound (s : Core W) : Type 0 where
    pub apart : AreApart s.queue
    -- a number that waits was not granted
    pub granted_apart : (n : ℕ) → waiting s.queue n ≢ None → map.get s.granted n ≡ None
    -- a number that was cut neither waits nor was granted
    pub cut_apart : (n : ℕ) → map.get s.cut n ≢ None → (waiting s.queue n ≡ None) × (map.get s.granted n ≡ None)
    pub closing : CutsWhereClosed s.closed s.queue s.cut
    -- who waits, was granted or was cut are together at most the largest number
    pub few : length s.queue + map.len s.granted + map.len s.cut < 2 ^ 64
    pub lacking : AllLackWithin s.queue
    pub debts_first : HasDebtsFirst s.queue
    -- free permits and a waiter never stand together
    pub idle : 0 < s.free → s.queue ≡ []
    -- free, held and paid permits are together the live ones, which fit their type
    pub total : s.free + held_of s + paid_of s ≡ s.live
    pub fits : s.live < 2 ^ 64
