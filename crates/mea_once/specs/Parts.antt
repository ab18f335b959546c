-- the cells of one kind as the hall keeps them: what is seen of them, and what they keep to
use Rattle.std.specs.Prelude.{ℕ, ◌≡◌, ◌+◌, ◌≤◌, ◌<◌, ◌==◌, ◌++◌, Bool, true, false, cond, [], ◌∷◌, Option, Some, None, Result, Ok, Err, refl}
use Rattle.std.specs.Option.{option_map}
use Rattle.std.specs.FinMap.{get, len, empty}
use Rattle.mea_family.specs.declared.answer.Answer.{Answer}
use Rattle.mea_base.specs.declared.no_memory.NoMemory.{NoMemory}
use Rattle.mea_base.specs.Ready.{Waking}
use Rattle.mea_by_name.specs.declared.named_waker.NamedWaker.{NamedWaker}
use Rattle.mea_by_name.specs.ByName.{Names, seen, count}
use Rattle.mea_by_name.specs.NamedQueue.{Waiting}
use Rattle.mea_by_name.specs.LackingQueue.{who}
use Rattle.mea_sem_core.specs.Core.{held_of}
use Rattle.mea_sem_core.specs.declared.acquire.Acquire.{Acquire}
use Rattle.mea_sem_core.specs.declared.acquire.Acquire.TheVariants as acquire
use Rattle.mea_sets.specs.WaitSet.{Registered}
use Rattle.mea_cores_by_name.specs.Linked.{names_in, Linked}
use Rattle.mea_cores_by_name.specs.SetLinked.{set_names, SlotIs, AreBelow}
use Rattle.mea_once_core.specs.declared.cell_stage.CellStage.{CellStage}
use Rattle.mea_once_core.specs.declared.cell_stage.CellStage.TheVariants.{New, Queued, Running, Done}
use Rattle.mea_once_model.specs.declared.errand.Initialiser.{Initialiser}
use Rattle.mea_once_model.specs.declared.errand.Initialiser.TheVariants.{Gives}
use Rattle.mea_once_model.specs.declared.errand.Errand.{Errand}
use Rattle.mea_once_model.specs.declared.errand.Errand.TheVariants.{Calls, Alone, Awaits}
use Rattle.mea_once_model.specs.Cells.{Cell, CellFuture, Cells, Step, is_alone, settles_in, registered, turned_to, poll}
use Rattle.mea_once.specs.declared.future_entry.FutureEntry.{FutureEntry}
use Rattle.mea_once.specs.declared.poll_reply.PollReply.{PollReply}
use Rattle.mea_once.specs.Cores.{NamedCell, IsSoundCell}
use Rattle.mea_once.specs.Entries.{KeptCell, keeps, left_by}
use Rattle.mea_once.specs.PartForm.{PartForm, IsOf}

-- ---- what is seen of each thing
abbrev pub is_polled : CellStage → Bool
is_polled New = false
is_polled _ = true

abbrev pub runner_of : Option NamedWaker → Waiting
runner_of None = []
runner_of (Some k) = (k.name, k.waker) ∷ []

abbrev pub cell_seen : KeptCell → Cell
cell_seen e =
    record {
      value = e.cell.value;
      taken = e.cell.permit.free == 0;
      queue = who (names_in e.cell.permit.queue);
      runner = runner_of e.running;
      waits = set_names e.cell.waits;
    }

abbrev pub future_seen : FutureEntry → CellFuture
future_seen x = record { cell = x.cell; errand = x.errand; polled = is_polled x.stage }

abbrev pub cells_seen : Names KeptCell → Names FutureEntry → Cells
cells_seen es fs = record { cells = seen cell_seen es; futures = seen future_seen fs }

-- ---- what is kept to
-- who asks for its turn, and neither waits for the cell nor uses it alone
abbrev pub is_caller : Errand → Bool
is_caller (Alone r) = false
is_caller Awaits = false
is_caller _ = true

abbrev pub is_wait : Errand → Bool
is_wait Awaits = true
is_wait _ = false

abbrev pub gives_nothing : Initialiser → Bool
gives_nothing (Gives v) = v == 0
gives_nothing _ = true

-- what the futures of a call that runs once do, and those of a cell
abbrev pub fits : Bool → Errand → Bool
fits once (Calls r) = cond once (gives_nothing r) false
fits once Awaits = once
fits once _ = cond once false true

-- the acquire by which a future is known in the queue; one whose turn it is has no number there any more
abbrev pub acquire_at : CellStage → Acquire
acquire_at (Queued n) = acquire.Queued 1 n
acquire_at _ = acquire.New 1

abbrev pub acquire_of : FutureEntry → Acquire
acquire_of x = acquire_at x.stage

abbrev pub runs_at : CellStage → Bool
runs_at Running = true
runs_at _ = false

abbrev pub is_running : FutureEntry → Bool
is_running x = runs_at x.stage

-- the stage of one that asks for its turn, or does not
abbrev pub StageFits : Bool → CellStage → Type 0
StageFits true Done = ⊥
StageFits false (Queued n) = ⊥
StageFits false Running = ⊥
StageFits false Done = ⊥
StageFits _ _ = Unit {0}

pub record IsFuture (once : Bool) (waits : Registered NamedWaker) (f : ℕ) (x : FutureEntry) : Type 0 where
  pub fits : fits once x.errand ≡ true
  pub stage : StageFits (is_caller x.errand) x.stage
  pub slot : SlotIs waits f x.wait
  -- who does not wait until the cell is full has no place among those who do
  pub place : is_wait x.errand ≡ false → x.wait ≡ None

-- it may have an initialiser that was polled
abbrev pub MayRun : FutureEntry → Type 0
MayRun x = cond (is_alone x.errand) true (is_running x) ≡ true

-- a cell and its futures go together
pub record Tied (once : Bool) (e : KeptCell) (fs : Names FutureEntry) : Type 0 where
  pub linked : Linked e.cell.permit.queue e.cell.permit.granted (seen acquire_of fs)
  pub held : held_of e.cell.permit ≡ count is_running fs
  pub runner : (k : NamedWaker) → e.running ≡ Some k → (x : FutureEntry) × (get fs k.name ≡ Some x) × MayRun x
  pub each : (f : ℕ) (x : FutureEntry) → get fs f ≡ Some x → IsFuture once e.cell.waits f x
  -- who uses the cell alone is alone
  pub single : (f g : ℕ) (x y : FutureEntry) → get fs f ≡ Some x → get fs g ≡ Some y → is_alone x.errand ≡ true → f ≡ g
  pub futures : e.futures ≡ len fs
  pub alone : e.alone ≡ count (λ (x : FutureEntry). is_alone x.errand) fs

pub record AreKept (once : Bool) (e : KeptCell) (fs : Names FutureEntry) : Type 0 where
  pub sound : IsSoundCell e.cell
  -- its wakers are handed on after each event
  pub quiet : e.cell.permit.wakes ≡ []
  pub tied : Tied once e fs

abbrev pub of_future : FutureEntry → ℕ
of_future x = x.cell

-- a cell and its futures, of which f is one, are kept; the names of all who live and who wait are below n
pub record Stands (once : Bool) (e : KeptCell) (f : ℕ) (x : FutureEntry) : Type 0 where
  pub fs : Names FutureEntry
  pub n : ℕ
  pub kept : AreKept once e fs
  pub there : get fs f ≡ Some x
  pub below : (g : ℕ) (y : FutureEntry) → get fs g ≡ Some y → g < n
  pub low : AreBelow e.cell.waits.wakers n

-- the cell and its future f of the cell o made this step, which left this of the future
pub record Stepped (once : Bool) (old : KeptCell) (fs : Names FutureEntry) (n f o : ℕ) (p : Option FutureEntry) (s : Step) (answer : Answer) (new : KeptCell) (before after : Waking ℕ) : Type 0 where
  pub replied : answer ≡ s.reply
  pub cell : cell_seen new ≡ s.cell
  pub future : option_map future_seen p ≡ s.future
  pub mine : IsOf of_future p o
  pub woken : after.wakers ≡ before.wakers ++ s.wakes
  pub counted : after.registered + keeps old ≡ before.registered + keeps new
  pub kept : AreKept once new (turned_to fs f p)
  pub few : new.futures ≤ old.futures + 1
  pub low : AreBelow new.cell.waits.wakers n

-- a poll of the future f with this waker: it made the step of the model, and told of it; or it wants memory, and nothing has changed
abbrev pub PollsCell : Bool → KeptCell → ℕ → FutureEntry → ℕ → Waking ℕ → Result PollReply NoMemory → KeptCell → FutureEntry → Waking ℕ → Type 0
PollsCell once e f x w before (Ok told) e' x' after =
    (s : Stands once e f x) → Stepped once e s.fs s.n f x.cell (left_by told.over x') (poll f w (future_seen x) (cell_seen e)) told.answer e' before after
PollsCell once e f x w before (Err none) e' x' after = (e' ≡ e) × (x' ≡ x) × (after ≡ before)

-- cells with their futures. The names that are bounded are of those who wait until a cell is full, also of those that have ended
abbrev pub cell_form : Bool → PartForm
cell_form once = record {
  Object = KeptCell;
  Future = FutureEntry;
  SeenObject = Cell;
  SeenFuture = CellFuture;
  Hall = Cells;
  object_seen = cell_seen;
  future_seen = future_seen;
  hall = λ cs fs. record { cells = cs; futures = fs };
  objects = λ h. h.cells;
  futures = λ h. h.futures;
  registered = registered;
  of = of_future;
  seen_of = λ x. x.cell;
  settles = settles_in;
  Good = AreKept once;
  size = λ e. e.futures;
  keeps = keeps;
  Low = λ e n. AreBelow e.cell.waits.wakers n;
  objects_are = λ cs fs. refl;
  futures_are = λ cs fs. refl;
  of_is = λ x. refl;
  size_is = λ e fs good. good.tied.futures;
}

-- ---- what is new
pub record IsNewCell (c : NamedCell) (v : Option ℕ) : Type 0 where
  pub value : c.value ≡ v
  pub free : c.permit.free ≡ 1
  pub queue : c.permit.queue ≡ []
  pub granted : c.permit.granted ≡ empty
  pub held : held_of c.permit ≡ 0
  pub wakes : c.permit.wakes ≡ []
  pub waits : c.waits.wakers ≡ []
  pub sound : IsSoundCell c

-- ---- what the calls of a part ask for
-- the initialiser of a call that runs once gives nothing
abbrev pub FitsSettled : Bool → Initialiser → Type 0
FitsSettled once r = once ≡ true → gives_nothing r ≡ true
