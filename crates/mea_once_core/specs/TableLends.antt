-- what a table ends as, where a `&mut` to the cell of an entry is returned
use Rattle.std.specs.Prelude.{ℕ, Option, Some, None, slice_index_or, slice_set}
use Rattle.std.specs.Borrow.{Lends, Fml, RattleType, MutBor}
use Rattle.std.specs.HashMap.Lent.{HashMembers}
use Rattle.std.specs.declared.hash.Hasher as hasher
use Rattle.std.specs.declared.hash.BuildHasher as builder
use Rattle.mea_once_core.specs.Cell.{Cell}
use Rattle.mea_once_core.specs.Table.{Table}
use Rattle.mea_once_core.specs.declared.entry.Entry.{Entry}
use Rattle.mea_once_core.specs.contracts.cell_core.CellCore.{the_row as cell_row}
use Rattle.mea_once_core.specs.contracts.once_table.OnceTable.{the_row}

-- the table after a write of the cell of an entry: how many callers it has, and whether the table has it, stays
abbrev pub with_cell_of : {V W : Type 0} → Option (Entry V W) → Cell V W → Option (Entry V W)
with_cell_of None c = None
with_cell_of (Some e) c = Some (record e { cell = c })

abbrev pub with_cell : {K V W : Type 0} → Table K V W → ℕ → Cell V W → Table K V W
with_cell t n c = record t { slots = slice_set t.slots n (with_cell_of (slice_index_or t.slots n None) c) }

-- once the borrow r ends, the entry's cell is the last one written through r
abbrev pub lends_cell : (K V S W H : RattleType) → HashMembers K.Denot → builder.Ghosts S.Denot H.Denot → hasher.Ghosts H.Denot → MutBor (Table K.Denot V.Denot W.Denot) → ℕ → MutBor (Cell V.Denot W.Denot) → Fml
lends_cell K V S W H key build hash t n r = Lends (the_row K V S W H (record { eq = key.eq }) (record { hash_input = key.hash_input }) build hash) (cell_row V W) t r (with_cell t.now n)
