-- what holds of the maps and groups that events reach
use Rattle.std.specs.Prelude.{ℕ, ◌≡◌, Some, None, IsSome}
use Rattle.std.specs.FinMap.{get}
use Rattle.mea_once_model.specs.Cells.{Cell}
use Rattle.mea_once_model.specs.Tables.{Table, KeyFuture, Tables}

-- a map or a group: the current round of a key is there, has no value yet, and is that of no other key; and a key that has a
-- value has none
pub record IsValidTable (t : Table) : Type 0 where
  pub current : (k n : ℕ) → get t.current k ≡ Some n → (c : Cell) × (get t.rounds n ≡ Some c) × (c.value ≡ None)
  pub one : (k j n : ℕ) → get t.current k ≡ Some n → get t.current j ≡ Some n → k ≡ j
  pub apart : (k n : ℕ) → get t.current k ≡ Some n → get t.values k ≡ None

-- a future's map or group is there, and so is the round that it is a caller of, which is the current one of no other key
pub record IsValidFuture (t : Table) (x : KeyFuture) : Type 0 where
  pub round : (n : ℕ) → x.round ≡ Some n → IsSome (get t.rounds n)
  pub key : (n k : ℕ) → x.round ≡ Some n → get t.current k ≡ Some n → k ≡ x.key

-- all maps, or all groups, with their futures
pub record AreValid (h : Tables) : Type 0 where
  pub tables : (o : ℕ) (t : Table) → get h.tables o ≡ Some t → IsValidTable t
  pub home : (f : ℕ) (x : KeyFuture) → get h.futures f ≡ Some x → IsSome (get h.tables x.table)
  pub futures : (f : ℕ) (x : KeyFuture) (t : Table) → get h.futures f ≡ Some x → get h.tables x.table ≡ Some t → IsValidFuture t x
