-- the things of all kinds, and what an event does to them
use Rattle.std.specs.Prelude.{ℕ, ◌≡◌, ◌≤◌}
use Rattle.mea_family.specs.declared.answer.Answer.{Answer}
use Rattle.mea_base.specs.Ready.{Waking}
use Rattle.mea_family.specs.Play.{Part, PartYields}
use Rattle.mea_events.specs.declared.once_event.OnceEvent.{OnceEvent}
use Rattle.mea_once_model.specs.Cells as cells
use Rattle.mea_once_model.specs.Cells.{Cells}
use Rattle.mea_once_model.specs.Actions.{Action, Make, Begin, Poll, act_in}
use Rattle.mea_once_model.specs.Tables as tables
use Rattle.mea_once_model.specs.Tables.{Tables}
use Rattle.mea_once_model.specs.KeyActions.{KeyAction, MakeTable, BeginKey, PollKey, key_act}
use Rattle.mea_once_model.specs.OnceHall.{OnceHall, Kind, Onces, OnceCells, TableKind, Maps, Groups, is_once}
use Rattle.mea_once_model.specs.Meaning.{Meaning, OfCells, OfTables, meaning_of}

-- the calls that run once, the cells, the maps and the groups, each with the least number that its next event may have
pub record Parts : Type 0 where
  pub onces : Part Cells
  pub cells : Part Cells
  pub maps : Part Tables
  pub groups : Part Tables

abbrev pub parts : Part Cells → Part Cells → Part Tables → Part Tables → Parts
parts o v m g = record { onces = o; cells = v; maps = m; groups = g }

abbrev pub hall_of : Parts → OnceHall
hall_of p = record { onces = p.onces.hall; cells = p.cells.hall; maps = p.maps.hall; groups = p.groups.hall }

-- no next number is above n
pub record AreBelow (p : Parts) (n : ℕ) : Type 0 where
  pub onces : p.onces.next ≤ n
  pub cells : p.cells.next ≤ n
  pub maps : p.maps.next ≤ n
  pub groups : p.groups.next ≤ n

abbrev pub of_kind : Parts → Kind → Part Cells
of_kind p Onces = p.onces
of_kind p OnceCells = p.cells

abbrev pub with_kind : Parts → Kind → Part Cells → Parts
with_kind p Onces c = record p { onces = c }
with_kind p OnceCells c = record p { cells = c }

abbrev pub of_table_kind : Parts → TableKind → Part Tables
of_table_kind p Maps = p.maps
of_table_kind p Groups = p.groups

abbrev pub with_table_kind : Parts → TableKind → Part Tables → Parts
with_table_kind p Maps t = record p { maps = t }
with_table_kind p Groups t = record p { groups = t }

-- event number i did this to the things of one kind, and nothing to the others
pub record PlaysCells (old : Parts) (k : Kind) (i : ℕ) (a : Action) (answer : Answer) (new : Parts) (before after : Waking ℕ) : Type 0 where
  pub part : Part Cells
  pub is : new ≡ with_kind old k part
  pub yields : PartYields cells.registered (of_kind old k) i (act_in (of_kind old k).hall i a) answer part before after

pub record PlaysTables (old : Parts) (k : TableKind) (i : ℕ) (a : KeyAction) (answer : Answer) (new : Parts) (before after : Waking ℕ) : Type 0 where
  pub part : Part Tables
  pub is : new ≡ with_table_kind old k part
  pub yields : PartYields tables.registered (of_table_kind old k) i (key_act (is_once k) (of_table_kind old k).hall i a) answer part before after

-- what an event means was done
abbrev pub PlaysBy : Meaning → Parts → ℕ → Answer → Parts → Waking ℕ → Waking ℕ → Type 0
PlaysBy (OfCells d) old i answer new before after = PlaysCells old d.kind i d.action answer new before after
PlaysBy (OfTables d) old i answer new before after = PlaysTables old d.kind i d.action answer new before after

-- the actions that take no memory
abbrev pub IsFree : Action → Type 0
IsFree (Make v) = ⊥
IsFree (Begin o errand) = ⊥
IsFree (Poll f w) = ⊥
IsFree _ = Unit {0}

abbrev pub IsKeyFree : KeyAction → Type 0
IsKeyFree MakeTable = ⊥
IsKeyFree (BeginKey o k) = ⊥
IsKeyFree (PollKey f w) = ⊥
IsKeyFree _ = Unit {0}

abbrev pub IsFreeBy : Meaning → Type 0
IsFreeBy (OfCells d) = IsFree d.action
IsFreeBy (OfTables d) = IsKeyFree d.action

-- the events that take no memory
abbrev pub TakesNoMemory : OnceEvent → Type 0
TakesNoMemory e = IsFreeBy (meaning_of e)
