-- what an action on once types comes to: it was done; or refused, for its cause or for want of memory
use Rattle.std.specs.Prelude.{ℕ, ◌≡◌, Bool, None, Result, Ok, Err}
use Rattle.mea_base.specs.Ready.{Waking}
use Rattle.mea_family.specs.declared.answer.Answer.{Answer}
use Rattle.mea_family.specs.declared.stop.Stop.{Stop}
use Rattle.mea_family.specs.Acts.{Refuses, Acts, ActsQuietly}
use Rattle.mea_family.specs.Play.{Part}
use Rattle.mea_once_model.specs.Cells as cells
use Rattle.mea_once_model.specs.Cells.{Cells}
use Rattle.mea_once_model.specs.Actions.{Action, cause_in, act_in}
use Rattle.mea_once_model.specs.Tables as tables
use Rattle.mea_once_model.specs.Tables.{Tables}
use Rattle.mea_once_model.specs.KeyActions.{KeyAction, key_cause, key_act}
use Rattle.mea_once_model.specs.Meaning.{Meaning, cause_by}
use Rattle.mea_once.specs.Halls.{Parts, hall_of, PlaysBy, IsFree, IsKeyFree, IsFreeBy}

-- event number i asked this of the cells of one kind: it was done; or refused, and nothing has changed
abbrev pub CellActs : Part Cells → ℕ → Action → Result Answer Stop → Part Cells → Waking ℕ → Waking ℕ → Type 0
CellActs old i a = Acts cells.registered (cause_in old.hall a) (IsFree a) old i (act_in old.hall i a)

-- and no waker was made ready
abbrev pub CellActsQuietly : Part Cells → ℕ → Action → Result Answer Stop → Part Cells → Type 0
CellActsQuietly old i a = ActsQuietly cells.registered (cause_in old.hall a) (IsFree a) old i (act_in old.hall i a)

-- it asked this of the maps, or of the groups, whose values are for one round alone
abbrev pub KeyActs : Bool → Part Tables → ℕ → KeyAction → Result Answer Stop → Part Tables → Waking ℕ → Waking ℕ → Type 0
KeyActs once old i a = Acts tables.registered (key_cause old.hall a) (IsKeyFree a) old i (key_act once old.hall i a)

-- and no waker was made ready
abbrev pub KeyActsQuietly : Bool → Part Tables → ℕ → KeyAction → Result Answer Stop → Part Tables → Type 0
KeyActsQuietly once old i a = ActsQuietly tables.registered (key_cause old.hall a) (IsKeyFree a) old i (key_act once old.hall i a)

-- it asked what a line means
abbrev pub ActsBy : Meaning → Parts → ℕ → Result Answer Stop → Parts → Waking ℕ → Waking ℕ → Type 0
ActsBy d old i (Ok answer) new before after = (cause_by (hall_of old) d ≡ None) × PlaysBy d old i answer new before after
ActsBy d old i (Err stop) new before after = Refuses (cause_by (hall_of old) d) (IsFreeBy d) stop × (new ≡ old) × (after ≡ before)
