-- what holds of all objects that events reach, where n is the least number of the next event
use Rattle.std.specs.Prelude.{ℕ, ◌+◌, ◌≡◌, ◌<◌, ◌≤◌, ◌⊎◌, ◌&&◌, Bool, true, not, Option, Some, None, IsSome}
use Rattle.std.specs.FinMap.{get, len}
use Rattle.mea_by_name.specs.ByName.{Names, seen, own, AreHome}
use Rattle.mea_by_name.specs.NamedQueue.{waker_for, waits}
use Rattle.mea_once_model.specs.Cells.{Cell, CellFuture, Cells, is_alone}
use Rattle.mea_once_model.specs.Tables.{Table, KeyFuture, Tables, caller}
use Rattle.mea_once_model.specs.KeyValid.{AreValid}
use Rattle.mea_once_model.specs.OnceHall.{OnceHall}

-- a future that has asked for its turn, and waits no more, has it
abbrev pub has_turn : Cell → ℕ → CellFuture → Bool
has_turn c f x = x.polled && not (waits c.queue f)

-- a cell, or what a round shares, with its futures
pub record IsCell (c : Cell) (fs : Names CellFuture) : Type 0 where
  -- who waits for its turn lives, and has asked for it
  pub queued : (f w : ℕ) → waker_for c.queue f ≡ Some w → (x : CellFuture) × (get fs f ≡ Some x) × (x.polled ≡ true)
  -- whose initialiser keeps a waker lives, and has its turn or uses the cell alone
  pub running : (f w : ℕ) → waker_for c.runner f ≡ Some w → (x : CellFuture) × (get fs f ≡ Some x) × ((has_turn c f x ≡ true) ⊎ (is_alone x.errand ≡ true))
  -- one future at the most has its turn, which then is taken
  pub one : (f g : ℕ) (x y : CellFuture) → get fs f ≡ Some x → get fs g ≡ Some y → has_turn c f x ≡ true → has_turn c g y ≡ true → f ≡ g
  pub taken : (f : ℕ) (x : CellFuture) → get fs f ≡ Some x → has_turn c f x ≡ true → c.taken ≡ true
  -- beside one that uses the cell alone there is no other
  pub alone : (f g : ℕ) (x y : CellFuture) → get fs f ≡ Some x → get fs g ≡ Some y → is_alone x.errand ≡ true → f ≡ g

-- the cell of a future
abbrev pub of_cell : CellFuture → ℕ
of_cell x = x.cell

-- calls that run once, or cells: each is one with its own futures, and each future is of one that is there
pub record HasCells (h : Cells) (n : ℕ) : Type 0 where
  pub each : (o : ℕ) (c : Cell) → get h.cells o ≡ Some c → IsCell c (own of_cell o h.futures)
  pub below : (o : ℕ) → IsSome (get h.cells o) → o < n
  pub futures : AreHome of_cell h.cells h.futures n

-- a number for the round of a future; 0 for none
abbrev pub slot_of : Option ℕ → ℕ
slot_of None = 0
slot_of (Some n) = n + 1

-- the callers of a round, as futures of its cell
abbrev pub callers_in : ℕ → Names KeyFuture → Names CellFuture
callers_in q fs = seen caller (own (λ (x : KeyFuture). slot_of x.round) (q + 1) fs)

-- a map or a group with its futures: a round is a cell with its callers, of which it has one at the least
pub record IsTable (t : Table) (fs : Names KeyFuture) (n : ℕ) : Type 0 where
  pub rounds : (q : ℕ) (c : Cell) → get t.rounds q ≡ Some c → IsCell c (callers_in q fs)
  pub called : (q : ℕ) → IsSome (get t.rounds q) → 1 ≤ len (callers_in q fs)
  pub below : (q : ℕ) → IsSome (get t.rounds q) → q < n

-- the map or group of a future
abbrev pub of_table : KeyFuture → ℕ
of_table x = x.table

-- maps, or groups: the current round of a key is there, has no value yet and is that of no other key, and a key that has a
-- value has none; and each is one with its own futures, each of which is of one that is there
pub record HasTables (h : Tables) (n : ℕ) : Type 0 where
  pub valid : AreValid h
  pub each : (o : ℕ) (t : Table) → get h.tables o ≡ Some t → IsTable t (own of_table o h.futures) n
  pub below : (o : ℕ) → IsSome (get h.tables o) → o < n
  pub futures : AreHome of_table h.tables h.futures n

-- and so for each kind of once types
pub record IsValid (h : OnceHall) (n : ℕ) : Type 0 where
  pub onces : HasCells h.onces n
  pub cells : HasCells h.cells n
  pub maps : HasTables h.maps n
  pub groups : HasTables h.groups n
