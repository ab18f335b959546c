-- what the words of the code for what a line does stand for in the model, and what an action asks for
use Rattle.std.specs.Prelude.{◌≡◌, Bool, true, false, Some, None}
use Rattle.mea_once_model.specs.Actions as cells
use Rattle.mea_once_model.specs.Actions.{Action}
use Rattle.mea_once_model.specs.KeyActions as tables
use Rattle.mea_once_model.specs.KeyActions.{KeyAction}
use Rattle.mea_once_model.specs.Meaning as model
use Rattle.mea_once_model.specs.Meaning.{on_onces, on_cells, on_maps, on_groups}
use Rattle.mea_once.specs.declared.actions.TurnAction.{TurnAction}
use Rattle.mea_once.specs.declared.actions.TurnAction.TheVariants.{Make, Begin, Poll, Settle, End, TellFull, Tell, Drop}
use Rattle.mea_once.specs.declared.actions.WholeAction.{WholeAction}
use Rattle.mea_once.specs.declared.actions.WholeAction.TheVariants as whole
use Rattle.mea_once.specs.declared.actions.TableAction.{TableAction}
use Rattle.mea_once.specs.declared.actions.TableAction.TheVariants as table
use Rattle.mea_once.specs.declared.actions.ValueAction.{ValueAction}
use Rattle.mea_once.specs.declared.actions.ValueAction.TheVariants as value
use Rattle.mea_once.specs.declared.meaning.Meaning.{Meaning}
use Rattle.mea_once.specs.declared.meaning.Meaning.TheVariants.{Onces, Cells, OnlyCells, Maps, OnlyMaps, Groups}
use Rattle.mea_once.specs.Parts.{fits, FitsSettled}

-- what may be done to a call that runs once and to a cell
abbrev pub turn_action : TurnAction → Action
turn_action Make = cells.Make None
turn_action (Begin o errand) = cells.Begin o errand
turn_action (Poll f w) = cells.Poll f w
turn_action (Settle f r) = cells.Settle f r
turn_action (End f) = cells.End f
turn_action (TellFull o) = cells.TellFull o
turn_action (Tell o) = cells.Tell o
turn_action (Drop o) = cells.Drop o

-- what is done to a cell alone
abbrev pub whole_action : WholeAction → Action
whole_action (whole.MakeFull v) = cells.Make (Some v)
whole_action (whole.Use o u) = cells.Use o u
whole_action (whole.TakeOut o) = cells.TakeOut o

-- what is done to a group, and may be done to a map
abbrev pub table_action : TableAction → KeyAction
table_action table.Make = tables.MakeTable
table_action (table.Begin o k) = tables.BeginKey o k
table_action (table.Poll f w) = tables.PollKey f w
table_action (table.Settle f r) = tables.SettleKey f r
table_action (table.End f) = tables.EndKey f
table_action (table.Discard o k) = tables.DiscardKey o k
table_action (table.Drop o) = tables.DropTable o

-- what is done to a map alone
abbrev pub value_action : ValueAction → KeyAction
value_action (value.Tell o k) = tables.TellKey o k
value_action (value.Remove o k) = tables.RemoveKey o k

-- what a line means, in the words of the model
abbrev pub meant : Meaning → model.Meaning
meant (Onces a) = on_onces (turn_action a)
meant (Cells a) = on_cells (turn_action a)
meant (OnlyCells a) = on_cells (whole_action a)
meant (Maps a) = on_maps (table_action a)
meant (OnlyMaps a) = on_maps (value_action a)
meant (Groups a) = on_groups (table_action a)

-- the errands of a call that runs once are its own, and what its initialisers give tells nothing
abbrev pub FitsTurn : Bool → TurnAction → Type 0
FitsTurn once (Begin o errand) = fits once errand ≡ true
FitsTurn once (Settle f r) = FitsSettled once r
FitsTurn once _ = Unit {0}

-- what a line means is an action of the kind that it names
abbrev pub FitsMeaning : Meaning → Type 0
FitsMeaning (Onces a) = FitsTurn true a
FitsMeaning (Cells a) = FitsTurn false a
FitsMeaning _ = Unit {0}
