-- the calls that run once, the cells, the maps and the groups
use Rattle.std.specs.Prelude.{ℕ, ◌+◌, Bool, true, false, refl}
use Rattle.std.specs.Coded.{Coded, code_by, coded×}
use Rattle.mea_once_model.specs.Cells as cells
use Rattle.mea_once_model.specs.Cells.{Cells, no_cells, cells_code}
use Rattle.mea_once_model.specs.Tables as tables
use Rattle.mea_once_model.specs.Tables.{Tables, no_tables, tables_code}

-- calls that run once, and cells with a value
pub data Kind : Type 0 where
  Onces : Kind
  OnceCells : Kind

-- maps, whose values stay, and groups, in which a value is for its round alone
pub data TableKind : Type 0 where
  Maps : TableKind
  Groups : TableKind

-- the calls that run once, the cells, the maps and the groups, by name
pub record OnceHall : Type 0 where
  pub onces : Cells
  pub cells : Cells
  pub maps : Tables
  pub groups : Tables

-- nothing of either
abbrev pub empty_hall : OnceHall
empty_hall = record { onces = no_cells; cells = no_cells; maps = no_tables; groups = no_tables }

-- the cells of a kind
abbrev pub part : OnceHall → Kind → Cells
part h Onces = h.onces
part h OnceCells = h.cells

-- those of a kind are these now
abbrev pub with_part : OnceHall → Kind → Cells → OnceHall
with_part h Onces p = record h { onces = p }
with_part h OnceCells p = record h { cells = p }

-- the maps, or the groups
abbrev pub tables_of : OnceHall → TableKind → Tables
tables_of h Maps = h.maps
tables_of h Groups = h.groups

-- those of a kind are these now
abbrev pub with_tables : OnceHall → TableKind → Tables → OnceHall
with_tables h Maps p = record h { maps = p }
with_tables h Groups p = record h { groups = p }

-- whether a value is for its round alone
abbrev pub is_once : TableKind → Bool
is_once Maps = false
is_once Groups = true

-- how many wakers are registered
abbrev pub registered : OnceHall → ℕ
registered h = cells.registered h.onces + cells.registered h.cells + (tables.registered h.maps + tables.registered h.groups)

-- by which a proof tells two halls apart
abbrev pub hall_code : Coded OnceHall
hall_code =
    code_by (Cells × (Cells × (Tables × Tables))) (coded× cells_code (coded× cells_code (coded× tables_code tables_code)))
    (λ h. (h.onces, (h.cells, (h.maps, h.groups)))) (λ p. record { onces = p.0; cells = p.1.0; maps = p.1.1.0; groups = p.1.1.1 }) (λ _. refl)
