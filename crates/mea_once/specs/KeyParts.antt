-- maps and groups as the hall keeps them: what is seen of them, and what they keep to
use Rattle.std.specs.Prelude.{ℕ, ◌≡◌, ◌+◌, ◌≤◌, ◌<◌, ◌^◌, ◌⊎◌, ◌++◌, Bool, true, false, List, [], ◌∷◌, Option, Some, None, nat_eq, refl}
use Rattle.std.specs.Option.{option_map, option_and_then}
use Rattle.std.specs.FinMap.{get, len, insert, remove, empty}
use Rattle.mea_family.specs.declared.answer.Answer.{Answer}
use Rattle.mea_family.specs.Family.{Outcome}
use Rattle.mea_base.specs.Ready.{Waking}
use Rattle.mea_base.specs.Totals.{total}
use Rattle.mea_by_name.specs.ByName.{Names, seen, own, count}
use Rattle.mea_by_name.specs.declared.named_waker.NamedWaker.{NamedWaker}
use Rattle.mea_once_core.specs.Cell.{Cell as CoreCell}
use Rattle.mea_once_core.specs.Links.{Shown}
use Rattle.mea_once_core.specs.Table.{Table as CoreTable, entry_at, number_of}
use Rattle.mea_once_core.specs.Waiting.{waiting_at, waiting_in}
use Rattle.mea_once_core.specs.declared.key_call.KeyStage.TheVariants as key_stages
use Rattle.mea_once_core.specs.declared.cell_stage.CellStage.TheVariants as stages
use Rattle.mea_once_model.specs.declared.errand.Errand.TheVariants.{Computes}
use Rattle.mea_once_model.specs.Cells.{Cell, new_cell, turned_to}
pub use Rattle.mea_once_model.specs.Valid.{slot_of}
use Rattle.mea_once_model.specs.Tables.{Table, KeyFuture as ModelFuture, Tables, KeyStep, is_this, settles_in, others_of, registered, applied}
use Rattle.mea_once.specs.declared.key_future.KeyFuture.{KeyFuture}
use Rattle.mea_once.specs.declared.round.Round.{Round}
use Rattle.mea_once.specs.declared.future_entry.FutureEntry.{FutureEntry}
use Rattle.mea_once.specs.Cores as cores
use Rattle.mea_once.specs.Entries.{KeptCell, of_running}
use Rattle.mea_once.specs.KeyCores.{NamedKeyed}
use Rattle.mea_once.specs.KeyEntries.{KeptTable}
use Rattle.mea_once.specs.PartForm.{PartForm, IsOf}
use Rattle.mea_once.specs.Parts.{AreKept, cell_seen, is_polled}

-- ---- what is seen of each thing
abbrev pub value_of : Option (Shown ℕ NamedWaker) → Option ℕ
value_of o = option_and_then (λ (e : Shown ℕ NamedWaker). e.cell.value) o

-- a key has this value, or none
abbrev pub valued : Names ℕ → ℕ → Option ℕ → Names ℕ
valued m k None = remove m k
valued m k (Some v) = insert m k v

-- the values of keys, of which the first entry of a key counts
abbrev pub values_in : CoreTable ℕ ℕ NamedWaker → List (ℕ × ℕ) → Names ℕ
values_in t [] = empty
values_in t (p ∷ ps) = valued (values_in t ps) p.0 (value_of (entry_at t p.1))

-- the cell of an entry and of who runs there, as a cell of a hall
abbrev pub kept_cell : CoreCell ℕ NamedWaker → Round → KeptCell
kept_cell c r = record { cell = cores.cell_seen c; running = r.running; futures = r.callers; alone = 0 }

abbrev pub round_in : Option (Shown ℕ NamedWaker) → Round → Cell
round_in None r = new_cell None
round_in (Some e) r = cell_seen (kept_cell e.cell r)

abbrev pub round_seen : CoreTable ℕ ℕ NamedWaker → Round → Cell
round_seen t r = round_in (entry_at t r.entry) r

abbrev pub table_seen : KeptTable → Table
table_seen e = record { values = values_in e.keyed.table e.keyed.table.pairs; current = e.current; rounds = seen (round_seen e.keyed.table) e.rounds }

abbrev pub key_future_seen : KeyFuture → ModelFuture
key_future_seen x = record { table = x.table; key = x.key; init = x.call.call.init.outcome; round = x.round }

abbrev pub tables_seen : Names KeptTable → Names KeyFuture → Tables
tables_seen es fs = record { tables = seen table_seen es; futures = seen key_future_seen fs }

-- ---- what a map or a group keeps to, with its own futures
-- a future of a round, as one of the round's cell
abbrev pub as_caller : KeyFuture → FutureEntry
as_caller x = record { cell = x.table; errand = Computes x.call.call.init.outcome; stage = x.call.call.stage; wait = None }

abbrev pub of_round : KeyFuture → ℕ
of_round x = slot_of x.round

-- the futures of a round
abbrev pub callers_of : ℕ → Names KeyFuture → Names FutureEntry
callers_of n fs = seen as_caller (own of_round (n + 1) fs)

-- a round has an entry of the core, with its callers
pub record IsRound (e : KeptTable) (fs : Names KeyFuture) (n : ℕ) (r : Round) : Type 0 where
  pub shown : Shown ℕ NamedWaker
  pub there : entry_at e.keyed.table r.entry ≡ Some shown
  pub callers : shown.callers ≡ r.callers
  pub some : 1 ≤ r.callers
  -- its cell and its callers are a cell with its futures
  pub kept : AreKept false (kept_cell shown.cell r) (callers_of n fs)
  -- an entry that the core has for a key is that of the round's key
  pub listed : shown.listed ≡ true → number_of nat_eq e.keyed.table r.key ≡ Some r.entry

-- an entry of a key has no caller, and nobody waits in it, or it is that of a round of the key
abbrev pub HasRound : KeptTable → ℕ → ℕ → Shown ℕ NamedWaker → Type 0
HasRound e k m s = ((s.callers ≡ 0) × (s.cell.permit.queue ≡ [])) ⊎ ((n : ℕ) × (r : Round) × (get e.rounds n ≡ Some r) × (r.entry ≡ m) × (r.key ≡ k))

-- a key has neither a value nor a current round; or it has a current round, whose cell is empty; or it has a value, as no key of a
-- group has
pub data IsKey (once : Bool) (e : KeptTable) (k : ℕ) : Type 0 where
  Absent : number_of nat_eq e.keyed.table k ≡ None → get e.current k ≡ None → IsKey once e k
  Computing : (n : ℕ) (r : Round) (s : Shown ℕ NamedWaker) → number_of nat_eq e.keyed.table k ≡ Some r.entry → get e.current k ≡ Some n
      → get e.rounds n ≡ Some r → r.key ≡ k → entry_at e.keyed.table r.entry ≡ Some s
      → s.cell.value ≡ None → s.listed ≡ true → IsKey once e k
  Valued : (m v : ℕ) (s : Shown ℕ NamedWaker) → number_of nat_eq e.keyed.table k ≡ Some m → get e.current k ≡ None
      → entry_at e.keyed.table m ≡ Some s → s.cell.value ≡ Some v → s.listed ≡ true → once ≡ false → HasRound e k m s
      → IsKey once e k

-- a future of a round is at the round's entry with the round's key, and has asked for its turn; one of none is new
abbrev pub CallFits : Option ℕ → KeptTable → KeyFuture → Type 0
CallFits None e x = (x.call.stage ≡ key_stages.New x.key) × (x.call.call.stage ≡ stages.New)
CallFits (Some n) e x =
    (r : Round) × (get e.rounds n ≡ Some r) × (x.call.stage ≡ key_stages.Calls r.entry) × (r.key ≡ x.key) × (is_polled x.call.call.stage ≡ true)

-- how many wait in the cell of a round's entry
abbrev pub waiting_of : KeptTable → ℕ → Round → ℕ
waiting_of e n r = waiting_at (entry_at e.keyed.table r.entry)

pub record AreTogether (once : Bool) (e : KeptTable) (fs : Names KeyFuture) : Type 0 where
  -- its wakers are handed on after each event
  pub quiet : e.keyed.wakes ≡ []
  pub rounds : (n : ℕ) (r : Round) → get e.rounds n ≡ Some r → IsRound e fs n r
  -- two rounds have two entries
  pub one : (n m : ℕ) (r s : Round) → get e.rounds n ≡ Some r → get e.rounds m ≡ Some s → r.entry ≡ s.entry → n ≡ m
  pub keys : (k : ℕ) → IsKey once e k
  -- two keys have two entries
  pub apart : (k j m : ℕ) → number_of nat_eq e.keyed.table k ≡ Some m → number_of nat_eq e.keyed.table j ≡ Some m → k ≡ j
  pub calls : (f : ℕ) (x : KeyFuture) → get fs f ≡ Some x → CallFits x.round e x
  pub futures : e.futures ≡ len fs
  -- who waits in an entry is a caller of a round
  pub waiting : waiting_in e.keyed.table.slots ≡ total (waiting_of e) e.rounds

-- how many wakers are kept
abbrev pub table_keeps : KeptTable → ℕ
table_keeps e = waiting_in e.keyed.table.slots + total (λ n (r : Round). of_running r.running) e.rounds

-- the names of rounds are below n
abbrev pub RoundsBelow : KeptTable → ℕ → Type 0
RoundsBelow e n = (q : ℕ) (r : Round) → get e.rounds q ≡ Some r → q < n

-- ---- what an event does
-- how many callers a round has beside f
abbrev pub others : Names KeyFuture → ℕ → ℕ → ℕ
others fs f n = count (λ (x : KeyFuture). is_this n x.round) (remove fs f)

abbrev pub of_table : KeyFuture → ℕ
of_table x = x.table

-- a map or a group and its futures, of which f is one, are kept; all names are below that of the event
pub record StandsTable (once : Bool) (e : KeptTable) (f : ℕ) (x : KeyFuture) (i : ℕ) : Type 0 where
  pub fs : Names KeyFuture
  pub kept : AreTogether once e fs
  pub there : get fs f ≡ Some x
  pub below : (g : ℕ) (y : KeyFuture) → get fs g ≡ Some y → g < i
  pub low : RoundsBelow e i
  pub few : e.futures ≤ i
  pub fits : i < 2 ^ 64

-- the map or group o and its future f made a step, which left this of the future
pub record SteppedTable (once : Bool) (old : KeptTable) (fs : Names KeyFuture) (i f o : ℕ) (p : Option KeyFuture) (out : Tables → Outcome Tables) (answer : Answer) (new : KeptTable) (before after : Waking ℕ) : Type 0 where
  pub step : KeyStep
  -- it is that of the model
  pub is : (h : Tables) → get h.tables o ≡ Some (table_seen old) → ((n : ℕ) → others_of h f o n ≡ others fs f n) → out h ≡ applied h f o step
  pub replied : answer ≡ step.reply
  pub table : table_seen new ≡ step.table
  pub future : option_map key_future_seen p ≡ step.future
  pub mine : IsOf of_table p o
  pub woken : after.wakers ≡ before.wakers ++ step.wakes
  pub counted : after.registered + table_keeps old ≡ before.registered + table_keeps new
  pub kept : AreTogether once new (turned_to fs f p)
  pub few : new.futures ≤ old.futures + 1
  pub low : RoundsBelow new (i + 1)

-- maps, or groups, with their futures. The names that are bounded are those of rounds
abbrev pub table_form : Bool → PartForm
table_form once = record {
  Object = KeptTable;
  Future = KeyFuture;
  SeenObject = Table;
  SeenFuture = ModelFuture;
  Hall = Tables;
  object_seen = table_seen;
  future_seen = key_future_seen;
  hall = λ ts fs. record { tables = ts; futures = fs };
  objects = λ h. h.tables;
  futures = λ h. h.futures;
  registered = registered;
  of = of_table;
  seen_of = λ x. x.table;
  settles = settles_in;
  Good = AreTogether once;
  size = λ e. e.futures;
  keeps = table_keeps;
  Low = RoundsBelow;
  objects_are = λ ts fs. refl;
  futures_are = λ ts fs. refl;
  of_is = λ x. refl;
  size_is = λ e fs good. good.futures;
}

-- ---- what is new
pub record IsNewKeyed (k : NamedKeyed) : Type 0 where
  pub entries : (n : ℕ) → entry_at k.table n ≡ None
  pub numbers : (key : ℕ) → number_of nat_eq k.table key ≡ None
  pub wakes : k.wakes ≡ []
