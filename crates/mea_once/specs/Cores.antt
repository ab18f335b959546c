-- the core of a cell as a hall uses it: what it is seen as, and what its calls do. A call that runs once is a cell whose value
-- tells nothing
use Rattle.std.specs.Prelude.{ℕ, ◌≡◌, ◌≢◌, ◌+◌, ◌≤◌, ◌⊎◌, Bool, true, false, [], Option, Some, None, is_some, Result, Ok, Err}
use Rattle.std.specs.Option.{option_map}
use Rattle.std.specs.FinMap.{get, remove}
use Rattle.mea_by_name.specs.declared.named_waker.NamedWaker.{NamedWaker}
use Rattle.mea_sets.specs.declared.place.Place.{Place}
use Rattle.mea_sets.specs.WaitSet.{Registered, with_waker, slot_after, drained}
use Rattle.mea_sem_core.specs.Core.{Core, AreApart, waiting, held_of, paid_of}
use Rattle.mea_sem_core.specs.Ones.{AskForOne}
use Rattle.mea_sem_core.specs.Calls as sem_calls
use Rattle.mea_sets.specs.Poll.{Poll, Ready, Pending}
use Rattle.mea_once_core.specs.Cell.{Cell}
use Rattle.mea_once_core.specs.Once.{Once}
use Rattle.mea_once_core.specs.Permit.{IsNext, IsWaiting, Waits, Leaves, HoldsAs, held_at, passed_on}
use Rattle.mea_once_core.specs.declared.cell_stage.CellStage.{CellStage}
use Rattle.mea_once_core.specs.declared.cell_stage.CellStage.TheVariants.{New, Queued, Running, Done}
use Rattle.mea_once_core.specs.declared.cell_turn.CellTurn.{CellTurn}
use Rattle.mea_once_core.specs.declared.cell_turn.CellTurn.TheVariants as turns
use Rattle.mea_once_model.specs.declared.errand.Initialiser.{Initialiser}
use Rattle.mea_once_model.specs.declared.errand.Initialiser.TheVariants.{Unsettled, Gives, Fails}

-- a cell: its value or none, the one permit of its callers with the wakers that are ready, and who waits until it is full
pub record NamedCell : Type 0 where
  pub value : Option ℕ
  pub permit : Core NamedWaker
  pub waits : Registered NamedWaker

-- what a hall has to know of a cell's permit: one lives, for which each that waits asks, and who waits was not granted it
pub record IsOnePermit (s : Core NamedWaker) : Type 0 where
  pub one : s.live ≡ 1
  pub asks : AskForOne s.queue
  pub apart : AreApart s.queue
  pub granted_apart : (n : ℕ) → waiting s.queue n ≢ None → get s.granted n ≡ None
  pub total : s.free + held_of s + paid_of s ≡ s.live

pub record IsSoundCell (c : NamedCell) : Type 0 where
  pub permit : IsOnePermit c.permit
  -- who has the permit computes, and the cell is empty
  pub empty : 1 ≤ held_of c.permit → c.value ≡ None

-- what a poll for its turn does to a call, by its stage, at a permit whose cell is full or is not
pub data TurnsTo (full : Bool) (s : Core NamedWaker) (w : NamedWaker) : CellStage → CellTurn NamedWaker → Core NamedWaker → CellStage → Type 0 where
  FindsFull : full ≡ true → TurnsTo full s w New turns.Full s Done
  FindsLate : (n : ℕ) → IsNext s n → full ≡ true → TurnsTo full s w (Queued n) turns.Full (passed_on (record s { granted = remove s.granted n })) Done
  TakesFree : full ≡ false → s.free ≡ 1 → TurnsTo full s w New (turns.Mine w) (record s { free = 0 }) Running
  TakesNext : (n : ℕ) → IsNext s n → full ≡ false → TurnsTo full s w (Queued n) (turns.Mine w) (record s { granted = remove s.granted n }) Running
  GoesOn : full ≡ false → TurnsTo full s w Running (turns.Mine w) s Running
  LinesUp : (n : ℕ) (t : Core NamedWaker) → full ≡ false → s.free ≡ 0 → Waits s t w n → TurnsTo full s w New turns.Pending t (Queued n)
  WaitsOn : (n : ℕ) → IsWaiting s n → TurnsTo full s w (Queued n) turns.Pending (record s { queue = sem_calls.with_waker s.queue n w }) (Queued n)

pub record TurnsCell (c : NamedCell) (stage : CellStage) (w : NamedWaker) (turn : CellTurn NamedWaker) (c' : NamedCell) (stage' : CellStage) : Type 0 where
  pub turns : TurnsTo (is_some c.value) c.permit w stage turn c'.permit stage'
  pub rest : c' ≡ record c { permit = c'.permit }
  pub held : HoldsAs c.permit stage c'.permit stage'
  pub sound : IsSoundCell c'

-- all who wait until it is full leave
abbrev pub Drains : Registered NamedWaker → Registered NamedWaker → Type 0
Drains s t = (t ≡ drained s) ⊎ ((s.wakers ≡ []) × (t ≡ s))

-- who has the turn fills the cell: all who wait for that are woken, and the turn goes to the next
pub record FillsCell (c : NamedCell) (v : ℕ) (c' : NamedCell) : Type 0 where
  pub value : c'.value ≡ Some v
  pub permit : c'.permit ≡ passed_on (record c.permit { wakes = c.waits.wakers })
  pub waits : Drains c.waits c'.waits
  pub held : held_of c'.permit ≡ 0
  pub sound : IsSoundCell c'

-- who has the turn gives it up, and it goes to the next
pub record GivesUpCell (c c' : NamedCell) : Type 0 where
  pub cell : c' ≡ record c { permit = passed_on c.permit }
  pub held : held_of c'.permit ≡ 0
  pub sound : IsSoundCell c'

-- a call ends
pub record LeavesCell (c : NamedCell) (stage : CellStage) (c' : NamedCell) : Type 0 where
  pub leaves : Leaves c.permit stage c'.permit
  pub rest : c' ≡ record c { permit = c'.permit }
  pub held : held_of c'.permit + held_at stage ≡ held_of c.permit
  pub sound : IsSoundCell c'

-- a wait was polled: it is over where the cell is full, and else its waker is registered
abbrev pub WaitsCell : NamedCell → Option Place → NamedWaker → Bool → NamedCell → Option Place → Type 0
WaitsCell c slot w true c' slot' = (is_some c.value ≡ true) × (c' ≡ c) × (slot' ≡ slot)
WaitsCell c slot w false c' slot' = (is_some c.value ≡ false) × (c' ≡ record c { waits = with_waker c.waits slot w }) × (slot' ≡ slot_after c.waits slot)

-- the value of an empty cell after an initialiser that runs alone
abbrev pub value_by : Initialiser → Option ℕ
value_by (Gives v) = Some v
value_by _ = None

-- an initialiser runs alone where the cell is empty
abbrev pub RunsAlone : Option ℕ → NamedCell → Initialiser → NamedCell → Type 0
RunsAlone None c r c' = c' ≡ record c { value = value_by r }
RunsAlone (Some v) c r c' = c' ≡ c

-- what a scripted initialiser answers to a poll, and what is told of it where it runs alone
abbrev pub answer_of : Initialiser → Poll (Result ℕ ℕ)
answer_of Unsettled = Pending
answer_of (Gives v) = Ready (Ok v)
answer_of (Fails e) = Ready (Err e)

abbrev pub reply_of : Initialiser → Poll (Result (Unit {0}) ℕ)
reply_of Unsettled = Pending
reply_of (Gives v) = Ready (Ok tt)
reply_of (Fails e) = Ready (Err e)

abbrev pub reply_by : Option ℕ → Initialiser → Poll (Result (Unit {0}) ℕ)
reply_by None r = reply_of r
reply_by (Some v) r = Ready (Ok tt)

-- what a call that runs once is seen as
abbrev pub once_seen : Once NamedWaker → NamedCell
once_seen o = record { value = option_map (λ _. 0) o.cell.value; permit = record o.cell.permit { wakes = o.wakes }; waits = o.done.waiting }

-- what a cell is seen as: nobody waits until it is full but for its turn
abbrev pub cell_seen : Cell ℕ NamedWaker → NamedCell
cell_seen c = record { value = c.value; permit = c.permit; waits = record { wakers = []; drains = 0 } }

-- whose turn it is has the permit, and who finds the cell full finds a value
abbrev pub TurnFits : CellTurn NamedWaker → NamedCell → Type 0
TurnFits turns.Full c = is_some c.value ≡ true
TurnFits (turns.Mine k) c = 1 ≤ held_of c.permit
TurnFits turns.Pending c = Unit {0}

-- where it is one's turn, no waker is ready yet
abbrev pub TurnIsQuiet : CellTurn NamedWaker → NamedCell → Type 0
TurnIsQuiet (turns.Mine k) c = c.permit.wakes ≡ []
TurnIsQuiet _ c = Unit {0}
