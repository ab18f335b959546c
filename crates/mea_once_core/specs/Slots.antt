-- what a call of an entry's cell does to the entries
use Rattle.std.specs.Prelude.{◌≡◌, ◌≢◌, ◌+◌, ◌++◌, length, ℕ, List, Option, Some, None, Result, Ok, IfOk, OnErr, IsSome, slice_index_or}
use Rattle.mea_base.specs.declared.no_memory.NoMemory.{NoMemory}
use Rattle.mea_sets.specs.Poll.{Poll, Ready}
use Rattle.mea_base.specs.Outbox.{Wakes}
use Rattle.mea_once_core.specs.Cell.{Cell, rested, PollsInit, Ends, queues_more, AddAtMost}
use Rattle.mea_once_core.specs.declared.entry.Entry.{Entry}
use Rattle.mea_once_core.specs.declared.init_call.InitCall.{InitCall}
use Rattle.mea_once_core.specs.declared.cell_stage.CellStage.{CellStage}

module _ {V W : Type 0} where
  -- the slot under this number has become this, and each other is as it was
  pub record SetsSlot (old new : List (Option (Entry V W))) (n : ℕ) (o : Option (Entry V W)) : Type 0 where
    pub changed : slice_index_or new n None ≡ o
    pub others : (m : ℕ) → m ≢ n → slice_index_or new m None ≡ slice_index_or old m None

  -- a call of the entry's cell has ended
  pub record EndsSlot (old : List (Option (Entry V W))) (n : ℕ) (e : Entry V W) (stage : CellStage) (new : List (Option (Entry V W))) : Type 0 where
    pub cell : Cell V W
    pub ends : Ends e.cell stage cell
    pub few : AddAtMost 0 e.cell cell
    pub sets : SetsSlot old new n (Some (record e { cell = cell }))

  -- the wakers that the entry's cell had made ready went to an outbox
  pub record RestsSlot (old : List (Option (Entry V W))) (n : ℕ) (e : Entry V W) (out out' : Wakes W) (new : List (Option (Entry V W))) : Type 0 where
    pub sets : SetsSlot old new n (Some (record e { cell = rested e.cell }))
    pub wakers : out'.wakers ≡ out.wakers ++ e.cell.permit.wakes
    pub spare : out'.spare + length e.cell.permit.wakes ≡ out.spare

module _ {V E W I : Type 0} (answers : I → W → Poll (Result V E) → I → Type 0) where
  -- a call of the entry's cell was polled
  pub record PollsSlot (old : List (Option (Entry V W))) (n : ℕ) (e : Entry V W) (call : InitCall I) (w : W) (r : Result (Poll (Result (Unit {0}) E)) (W × NoMemory)) (new : List (Option (Entry V W))) (call' : InitCall I) : Type 0 where
    pub cell : Cell V W
    pub polls : PollsInit answers e.cell call w r cell call'
    pub few : AddAtMost (queues_more e.cell call.stage) e.cell cell
    pub stays : OnErr r (cell ≡ e.cell)
    pub no_memory : OnErr r (queues_more e.cell call.stage ≡ 1)
    pub fills : IfOk r (λ poll. poll ≡ Ready (Ok tt) → IsSome cell.value)
    pub sets : SetsSlot old new n (Some (record e { cell = cell }))
