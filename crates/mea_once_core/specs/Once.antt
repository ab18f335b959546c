-- what a contract sees of a `OnceCore`, and what its calls do
use Rattle.std.specs.Prelude.{ℕ, ◌≡◌, ◌++◌, List, [], Option, Some, None, IsSome, Result, Ok, Err, refl}
use Rattle.std.specs.Coded.{Coded, code_by, coded×, coded_ℕ, coded_list}
use Rattle.mea_base.specs.declared.no_memory.NoMemory.{NoMemory}
use Rattle.mea_sets.specs.Poll.{Poll, Ready, Pending}
use Rattle.mea_sets.specs.Countdown.{Count, count_code, count_from, decreased, woken_by}
use Rattle.mea_once_core.specs.Permit.{free_permit}
use Rattle.mea_once_core.specs.Cell as cell
use Rattle.mea_once_core.specs.Cell.{Cell, cell_code, PollsInit, PollsTurn, Ends}
use Rattle.mea_once_core.specs.declared.cell_turn.CellTurn.{CellTurn}
use Rattle.mea_once_core.specs.declared.cell_stage.CellStage.{CellStage}
use Rattle.mea_once_core.specs.declared.init_call.InitCall.{InitCall}

-- a call that runs once: a cell that is full once a call has completed, a count of 1 for those who wait for
-- that, and the wakers that are ready
pub record Once (W : Type 0) : Type 0 where
  pub cell : Cell (Unit {0}) W
  pub done : Count W
  pub wakes : List W

-- what lets a value without content, and a `Once`, be the value of a model
abbrev pub unit_code : Coded (Unit {0})
unit_code = code_by ℕ coded_ℕ (λ _. 0) (λ _. tt) (λ _. refl)

abbrev pub once_code : {W : Type 0} → Coded W → Coded (Once W)
once_code {W} code =
    code_by
    (Cell (Unit {0}) W × (Count W × List W))
    (coded× (cell_code unit_code code) (coded× (count_code code) (coded_list code)))
    (λ o. (o.cell, (o.done, o.wakes)))
    (λ p. record { cell = p.0; done = p.1.0; wakes = p.1.1 })
    (λ _. refl)

-- what the caller is told: there is no error that it could be told
abbrev pub answered : {E : Type 0} → Poll (Result (Unit {0}) E) → Poll (Unit {0})
answered Pending = Pending
answered (Ready _) = Ready tt

module _ {W : Type 0} where
  -- one that nobody has called
  abbrev pub uncalled : Once W
  uncalled = record { cell = record { value = None; permit = free_permit }; done = count_from 1; wakes = [] }

  -- what holds of every once
  pub record IsSound (o : Once W) : Type 0 where
    pub cell : cell.IsSound o.cell
    -- the count has ended exactly where the cell is full
    pub uncompleted : o.cell.value ≡ None → o.done.number ≡ 1
    pub completed : IsSome o.cell.value → o.done.number ≡ 0
    -- the cell's own wakers have gone to those of the once
    pub quiet : o.cell.permit.wakes ≡ []

  -- where the cell is full, the count ends
  abbrev pub count_after : Option (Unit {0}) → Count W → Count W
  count_after None done = done
  count_after (Some _) done = decreased done 1

  -- and the wakers of those who wait for that leave
  abbrev pub woken : Option (Unit {0}) → Count W → List W
  woken None done = []
  woken (Some _) done = woken_by done 1

  -- a cell whose wakers have gone elsewhere
  abbrev pub quieted : Cell (Unit {0}) W → Cell (Unit {0}) W
  quieted c = record c { permit = record c.permit { wakes = [] } }

  -- the once after its cell has become c: where that is full all who wait for it are woken, and then the
  -- next caller
  abbrev pub with_cell : Once W → Cell (Unit {0}) W → Once W
  with_cell o c = record { cell = quieted c; done = count_after c.value o.done; wakes = (o.wakes ++ woken c.value o.done) ++ c.permit.wakes }

  abbrev pub reply_of : {E : Type 0} → Result (Poll (Result (Unit {0}) E)) (W × NoMemory) → Result (Poll (Unit {0})) (W × NoMemory)
  reply_of (Ok poll) = Ok (answered poll)
  reply_of (Err e) = Err e

  -- what a poll of a call for its turn does: it is that of the cell
  pub record TurnsCall (o : Once W) (stage : CellStage) (w : W) (r : Result (CellTurn W) (W × NoMemory)) (o' : Once W) (stage' : CellStage) : Type 0 where
    pub left : Cell (Unit {0}) W
    pub polls : PollsTurn stage o.cell w r left stage'
    pub is : o' ≡ with_cell o left

  -- what the end of a call does
  pub record EndsCall (o : Once W) (stage : CellStage) (o' : Once W) : Type 0 where
    pub left : Cell (Unit {0}) W
    pub ends : Ends o.cell stage left
    pub is : o' ≡ with_cell o left

-- what one poll of a call does: it is the poll of the cell
module _ {E W I : Type 0} (answers : I → W → Poll (Result (Unit {0}) E) → I → Type 0) where
  pub record PollsCall (o : Once W) (call : InitCall I) (w : W) (r : Result (Poll (Unit {0})) (W × NoMemory)) (o' : Once W) (call' : InitCall I) : Type 0 where
    pub answer : Result (Poll (Result (Unit {0}) E)) (W × NoMemory)
    pub left : Cell (Unit {0}) W
    pub polls : PollsInit answers o.cell call w answer left call'
    pub reply : r ≡ reply_of answer
    pub is : o' ≡ with_cell o left
