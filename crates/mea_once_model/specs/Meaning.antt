-- what each line does, and to which kind of things
use Rattle.std.specs.Prelude.{ℕ, Bool, Option, Some, None}
use Rattle.mea_family.specs.declared.stop.Stop.{Stop}
use Rattle.mea_family.specs.Family.{Outcome}
use Rattle.mea_events.specs.declared.once_event.OnceEvent.{OnceEvent}
use Rattle.mea_events.specs.declared.once_event.OnceEvent.TheVariants.{OnNew, OnDone, OnCall, OnWait, OnPoll, OnSettle, OnEnd, OnDrop, OcNew, OcFrom, OcGet, OcInit, OcSet, OcIns, OcMinit, OcPoll, OcSettle, OcFail, OcEnd, OcPeek, OcPut, OcTake, OcInto, OcDrop, OmNew, OmGet, OmCompute, OmPoll, OmSettle, OmFail, OmDiscard, OmRemove, OmEnd, OmDrop, SfNew, SfWork, SfPoll, SfSettle, SfFail, SfForget, SfEnd, SfDrop}
use Rattle.mea_once_model.specs.declared.errand.Initialiser.TheVariants.{Unsettled, Gives, Fails}
use Rattle.mea_once_model.specs.declared.errand.Errand.TheVariants.{Calls, Computes, Alone, Sets, Inserts, Awaits}
use Rattle.mea_once_model.specs.declared.whole_use.WholeUse.TheVariants.{Tells, Writes, Takes}
use Rattle.mea_once_model.specs.Cells.{Cells}
use Rattle.mea_once_model.specs.Actions.{Action, Make, Begin, Poll, Settle, End, TellFull, Tell, Use, TakeOut, Drop, cause_in, act_in, registers_in}
use Rattle.mea_once_model.specs.Tables.{Tables}
use Rattle.mea_once_model.specs.KeyActions.{KeyAction, MakeTable, BeginKey, PollKey, SettleKey, EndKey, TellKey, DiscardKey, RemoveKey, DropTable, key_cause, key_act, key_registers}
use Rattle.mea_once_model.specs.OnceHall.{OnceHall, Kind, Onces, OnceCells, TableKind, Maps, Groups, part, with_part, tables_of, with_tables, is_once}

-- what a line does to cells of a kind. What an initialiser of a call that runs once gives tells nothing
pub record Doing : Type 0 where
  pub kind : Kind
  pub action : Action

-- what it does to maps or to groups
pub record KeyDoing : Type 0 where
  pub kind : TableKind
  pub action : KeyAction

-- what a line does: something to cells, or to maps or groups
pub data Meaning : Type 0 where
  OfCells : Doing → Meaning
  OfTables : KeyDoing → Meaning

-- it is done to calls that run once, to cells, to maps, to groups
abbrev pub on_onces : Action → Meaning
on_onces a = OfCells (record { kind = Onces; action = a })

-- it is done to cells
abbrev pub on_cells : Action → Meaning
on_cells a = OfCells (record { kind = OnceCells; action = a })

-- it is done to maps
abbrev pub on_maps : KeyAction → Meaning
on_maps a = OfTables (record { kind = Maps; action = a })

-- it is done to groups
abbrev pub on_groups : KeyAction → Meaning
on_groups a = OfTables (record { kind = Groups; action = a })

-- what each line means
abbrev pub meaning_of : OnceEvent → Meaning
meaning_of OnNew = on_onces (Make None)
meaning_of (OnDone o) = on_onces (TellFull o)
meaning_of (OnCall o) = on_onces (Begin o (Calls Unsettled))
meaning_of (OnWait o) = on_onces (Begin o Awaits)
meaning_of (OnPoll f w) = on_onces (Poll f w)
meaning_of (OnSettle f) = on_onces (Settle f (Gives 0))
meaning_of (OnEnd f) = on_onces (End f)
meaning_of (OnDrop o) = on_onces (Drop o)
meaning_of OcNew = on_cells (Make None)
meaning_of (OcFrom v) = on_cells (Make (Some v))
meaning_of (OcGet c) = on_cells (Tell c)
meaning_of (OcInit c) = on_cells (Begin c (Computes Unsettled))
meaning_of (OcSet c v) = on_cells (Begin c (Sets v))
meaning_of (OcIns c v) = on_cells (Begin c (Inserts v))
meaning_of (OcMinit c) = on_cells (Begin c (Alone Unsettled))
meaning_of (OcPoll f w) = on_cells (Poll f w)
meaning_of (OcSettle f v) = on_cells (Settle f (Gives v))
meaning_of (OcFail f e) = on_cells (Settle f (Fails e))
meaning_of (OcEnd f) = on_cells (End f)
meaning_of (OcPeek c) = on_cells (Use c Tells)
meaning_of (OcPut c v) = on_cells (Use c (Writes v))
meaning_of (OcTake c) = on_cells (Use c Takes)
meaning_of (OcInto c) = on_cells (TakeOut c)
meaning_of (OcDrop c) = on_cells (Drop c)
meaning_of OmNew = on_maps MakeTable
meaning_of (OmGet m k) = on_maps (TellKey m k)
meaning_of (OmCompute m k) = on_maps (BeginKey m k)
meaning_of (OmPoll f w) = on_maps (PollKey f w)
meaning_of (OmSettle f v) = on_maps (SettleKey f (Gives v))
meaning_of (OmFail f e) = on_maps (SettleKey f (Fails e))
meaning_of (OmDiscard m k) = on_maps (DiscardKey m k)
meaning_of (OmRemove m k) = on_maps (RemoveKey m k)
meaning_of (OmEnd f) = on_maps (EndKey f)
meaning_of (OmDrop m) = on_maps (DropTable m)
meaning_of SfNew = on_groups MakeTable
meaning_of (SfWork g k) = on_groups (BeginKey g k)
meaning_of (SfPoll f w) = on_groups (PollKey f w)
meaning_of (SfSettle f v) = on_groups (SettleKey f (Gives v))
meaning_of (SfFail f e) = on_groups (SettleKey f (Fails e))
meaning_of (SfForget g k) = on_groups (DiscardKey g k)
meaning_of (SfEnd f) = on_groups (EndKey f)
meaning_of (SfDrop g) = on_groups (DropTable g)

-- why what a line means is refused; none where it is not
abbrev pub cause_by : OnceHall → Meaning → Option Stop
cause_by h (OfCells d) = cause_in (part h d.kind) d.action
cause_by h (OfTables d) = key_cause (tables_of h d.kind) d.action

-- why a line is refused; none where it is not
abbrev pub cause_of : OnceHall → OnceEvent → Option Stop
cause_of h e = cause_by h (meaning_of e)

-- the hall after what was done to the cells of one kind
abbrev pub within : OnceHall → Kind → Outcome Cells → Outcome OnceHall
within h k o = record { hall = with_part h k o.hall; reply = o.reply; wakes = o.wakes }

-- and to maps or groups
abbrev pub within_tables : OnceHall → TableKind → Outcome Tables → Outcome OnceHall
within_tables h k o = record { hall = with_tables h k o.hall; reply = o.reply; wakes = o.wakes }

-- what follows where what a line means is done under number i
abbrev pub step_by : OnceHall → ℕ → Meaning → Outcome OnceHall
step_by h i (OfCells d) = within h d.kind (act_in (part h d.kind) i d.action)
step_by h i (OfTables d) = within_tables h d.kind (key_act (is_once d.kind) (tables_of h d.kind) i d.action)

-- what follows where line i is played
abbrev pub step : OnceHall → ℕ → OnceEvent → Outcome OnceHall
step h i e = step_by h i (meaning_of e)

-- whether what a line means can register a waker
abbrev pub registers_by : Meaning → Bool
registers_by (OfCells d) = registers_in d.action
registers_by (OfTables d) = key_registers d.action

-- whether an event can register a waker; a poll alone can
abbrev pub registers : OnceEvent → Bool
registers e = registers_by (meaning_of e)
