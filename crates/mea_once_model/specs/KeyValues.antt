-- the values that keys have, and which events take one away
use Rattle.std.specs.Prelude.{ℕ, ◌==◌, ◌&&◌, Bool, false, Option, Some, None}
use Rattle.std.specs.FinMap.{get}
use Rattle.mea_once_model.specs.Tables.{Table, Tables}
use Rattle.mea_once_model.specs.KeyActions.{KeyAction, DiscardKey, RemoveKey, DropTable}

-- the value that key k has in a map or a group, which may be gone
abbrev pub value_in : Option Table → ℕ → Option ℕ
value_in None k = None
value_in (Some t) k = get t.values k

-- the value that key k of the map or group o has
abbrev pub value_at : Tables → ℕ → ℕ → Option ℕ
value_at h o k = value_in (get h.tables o) k

-- whether an action takes the key out, or its map or group with it
abbrev pub takes_away : KeyAction → ℕ → ℕ → Bool
takes_away (DiscardKey p j) o k = (p == o) && (j == k)
takes_away (RemoveKey p j) o k = (p == o) && (j == k)
takes_away (DropTable p) o k = p == o
takes_away _ o k = false
