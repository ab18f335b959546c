-- the cores that a hall lends
use Rattle.std.specs.Prelude.{ℕ, ◌≡◌, ◌+◌, ◌==◌, ◌⊎◌, false, cond, Some, None, nat_eq}
use Rattle.std.specs.FinMap.{get, len}
use Rattle.mea_base.specs.Totals.{total}
use Rattle.mea_sem_core.specs.Core.{held_of}
use Rattle.mea_once_core.specs.Links.{Shown}
use Rattle.mea_once_core.specs.Table.{entry_at, number_of}
use Rattle.mea_once_core.specs.Keyed.{value_for}
use Rattle.mea_once_model.specs.Cells.{Cells, Cell, CellFuture, is_alone}
use Rattle.mea_once_model.specs.Tables.{Tables, Table}
use Rattle.mea_once_model.specs.Valid.{has_turn, of_cell, of_table, callers_in}
use Rattle.mea_by_name.specs.ByName.{Names, own}
use Rattle.mea_by_name.specs.NamedQueue.{waker_for}
use Rattle.mea_by_name.specs.LackingQueue.{who}
use Rattle.mea_cores_by_name.specs.Linked.{names_in}
use Rattle.mea_cores_by_name.specs.SetLinked.{set_names}
use Rattle.mea_by_name.specs.declared.named_waker.NamedWaker.{NamedWaker}
use Rattle.mea_once.specs.Cores.{NamedCell}
use Rattle.mea_once.specs.KeyCores.{NamedKeyed}

-- how many of these futures of a cell have its turn: they asked for it, and wait no more
abbrev pub turns_in : Cell → Names CellFuture → ℕ
turns_in c fs = total (λ f (x : CellFuture). cond (has_turn c f x) 1 0) fs

-- the same value, the permit free or taken, and the same who wait for it and until the cell is full, in the same order
pub record StandsFor (h : Cells) (o : ℕ) (c : NamedCell) : Type 0 where
  pub cell : Cell
  pub there : get h.cells o ≡ Some cell
  pub value : cell.value ≡ c.value
  pub taken : cell.taken ≡ (c.permit.free == 0)
  pub queue : cell.queue ≡ who (names_in c.permit.queue)
  pub waits : cell.waits ≡ set_names c.waits
  -- who has the turn holds the permit, or was granted it and not polled since
  pub granted : turns_in cell (own of_cell o h.futures) ≡ len c.permit.granted + held_of c.permit
  -- whose initialiser keeps a waker holds it, unless it uses the cell alone
  pub runs : (f w : ℕ) (x : CellFuture) → waker_for cell.runner f ≡ Some w → get (own of_cell o h.futures) f ≡ Some x → is_alone x.errand ≡ false → held_of c.permit ≡ 1

-- the callers of a round of a map or a group, as futures of its cell
abbrev pub callers_at : Tables → ℕ → ℕ → Names CellFuture
callers_at h o n = callers_in n (own of_table o h.futures)

-- an entry stands for a round: it has the same value or none, its turn is free or taken, the same callers wait for it, in the same
-- order, and there are as many callers
pub record IsRoundOf (h : Tables) (o n : ℕ) (c : Cell) (s : Shown ℕ NamedWaker) : Type 0 where
  pub value : c.value ≡ s.cell.value
  pub taken : c.taken ≡ (s.cell.permit.free == 0)
  pub queue : c.queue ≡ who (names_in s.cell.permit.queue)
  pub callers : s.callers ≡ len (callers_at h o n)
  -- who has the turn holds the permit, or was granted it and not polled since
  pub granted : turns_in c (callers_at h o n) ≡ len s.cell.permit.granted + held_of s.cell.permit

-- the same values of keys; a key that is being computed has the entry of its current round, which is empty, and another key without
-- a value has none
pub record StandsForTable (h : Tables) (o : ℕ) (k : NamedKeyed) : Type 0 where
  pub table : Table
  pub there : get h.tables o ≡ Some table
  pub values : (key : ℕ) → get table.values key ≡ value_for nat_eq k key
  pub current : (key n : ℕ) → get table.current key ≡ Some n → (c : Cell) × (m : ℕ) × (s : Shown ℕ NamedWaker)
      × (get table.rounds n ≡ Some c) × (number_of nat_eq k.table key ≡ Some m) × (entry_at k.table m ≡ Some s) × (c.value ≡ None) × IsRoundOf h o n c s
  pub absent : (key : ℕ) → get table.values key ≡ None → get table.current key ≡ None → number_of nat_eq k.table key ≡ None
  -- the entry of a key that has a value has no caller, or is that of a round
  pub valued : (key v : ℕ) → get table.values key ≡ Some v → (m : ℕ) × (s : Shown ℕ NamedWaker) × (number_of nat_eq k.table key ≡ Some m) × (entry_at k.table m ≡ Some s)
      × ((s.callers ≡ 0) ⊎ ((n : ℕ) × (c : Cell) × (get table.rounds n ≡ Some c) × IsRoundOf h o n c s))
  -- each round has an entry, also where it is no key's current one any more
  pub rounds : (n : ℕ) (c : Cell) → get table.rounds n ≡ Some c → (m : ℕ) × (s : Shown ℕ NamedWaker) × (entry_at k.table m ≡ Some s) × IsRoundOf h o n c s
