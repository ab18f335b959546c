-- once types as one of the families
use Rattle.std.specs.Prelude.{ℕ, Bool, true, false, Option, None, if◌then◌else◌}
use Rattle.mea_family.specs.Family.{Family}
use Rattle.mea_events.specs.declared.once_event.OnceEvent.{OnceEvent}
use Rattle.mea_once_model.specs.Cells as cells
use Rattle.mea_once_model.specs.Cells.{is_future}
use Rattle.mea_once_model.specs.Actions.{polled_in, ends_in}
use Rattle.mea_once_model.specs.Tables as tables
use Rattle.mea_once_model.specs.KeyActions.{key_polled, key_ends}
use Rattle.mea_once_model.specs.OnceHall.{OnceHall, Kind, Onces, OnceCells, TableKind, Maps, Groups, empty_hall, part, tables_of}
use Rattle.mea_once_model.specs.Meaning.{Meaning, OfCells, OfTables, meaning_of, cause_of, step}

-- a future, by the kind of its cell, map or group, and its name
pub data Future : Type 0 where
  AtCell : Kind → ℕ → Future
  ByKey : TableKind → ℕ → Future

-- whether two kinds of cells are one
abbrev pub is_kind : Kind → Kind → Bool
is_kind Onces Onces = true
is_kind OnceCells OnceCells = true
is_kind _ _ = false

-- whether maps or groups are meant twice
abbrev pub is_table_kind : TableKind → TableKind → Bool
is_table_kind Maps Maps = true
is_table_kind Groups Groups = true
is_table_kind _ _ = false

-- the waker with which a future of a cell of this kind is polled by what a line means, if it is
abbrev pub cell_polled : Meaning → Kind → ℕ → Option ℕ
cell_polled (OfCells d) k f = if is_kind d.kind k then polled_in d.action f else None
cell_polled (OfTables d) k f = None

-- the same of a future of a map or a group
abbrev pub table_polled : Meaning → TableKind → ℕ → Option ℕ
table_polled (OfCells d) k f = None
table_polled (OfTables d) k f = if is_table_kind d.kind k then key_polled d.action f else None

-- the same of either
abbrev pub polled_by : Meaning → Future → Option ℕ
polled_by m (AtCell k f) = cell_polled m k f
polled_by m (ByKey k f) = table_polled m k f

-- the waker with which an event polls a future, if it does
abbrev pub polled : OnceEvent → Future → Option ℕ
polled e f = polled_by (meaning_of e) f

-- whether a future of a cell of this kind ends by what a line means
abbrev pub cell_ended : Meaning → Kind → ℕ → Bool
cell_ended (OfCells d) k f = if is_kind d.kind k then ends_in d.action f else false
cell_ended (OfTables d) k f = false

-- the same of a future of a map or a group
abbrev pub table_ended : Meaning → TableKind → ℕ → Bool
table_ended (OfCells d) k f = false
table_ended (OfTables d) k f = if is_table_kind d.kind k then key_ends d.action f else false

-- the same of either
abbrev pub ends_by : Meaning → Future → Bool
ends_by m (AtCell k f) = cell_ended m k f
ends_by m (ByKey k f) = table_ended m k f

-- whether an event ends a future
abbrev pub ends : OnceEvent → Future → Bool
ends e f = ends_by (meaning_of e) f

-- its name, without its kind
abbrev pub name : Future → ℕ
name (AtCell k f) = f
name (ByKey k f) = f

-- whether it is there
abbrev pub lives : OnceHall → Future → Bool
lives h (AtCell k f) = is_future (part h k) f
lives h (ByKey k f) = tables.is_future (tables_of h k) f

-- the waker that is kept for a future
abbrev pub placed : OnceHall → Future → Option ℕ
placed h (AtCell k f) = cells.placed (part h k) f
placed h (ByKey k f) = tables.placed (tables_of h k) f

-- the family: what the laws of all families are told of once types
abbrev pub onces_family : Family
onces_family = record { Hall = OnceHall; Event = OnceEvent; Future = Future; empty = empty_hall; cause = cause_of; step = step; polled = polled; ends = ends; name = name; lives = lives; placed = placed }
