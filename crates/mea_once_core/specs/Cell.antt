-- what a contract sees of a `CellCore`, and what its calls do
use Rattle.std.specs.Prelude.{ℕ, ◌≡◌, ◌+◌, ◌≤◌, ◌==◌, ◌&&◌, if◌then◌else◌, is_none, length, [], Option, Some, None, IsSome, Result, Ok, Err, MatchResult, MatchOption, refl}
use Rattle.std.specs.Option.{option_map_or}
use Rattle.std.specs.Coded.{Coded, code_by, coded×, coded_option}
use Rattle.std.specs.FinMap as map
use Rattle.mea_base.specs.declared.no_memory.NoMemory.{NoMemory}
use Rattle.mea_sets.specs.Poll.{Poll, Ready, Pending}
use Rattle.mea_sem_core.specs.Core.{Core, core_code, held_of}
use Rattle.mea_sem_core.specs.Calls.{with_waker}
use Rattle.mea_once_core.specs.Permit.{IsPermit, IsNext, IsWaiting, MayAsk, Waits, Leaves, passed_on, free_permit}
use Rattle.mea_once_core.specs.declared.cell_stage.CellStage.{CellStage}
use Rattle.mea_once_core.specs.declared.cell_stage.CellStage.TheVariants.{New, Queued, Running, Done}
use Rattle.mea_once_core.specs.declared.cell_turn.CellTurn.{CellTurn}
use Rattle.mea_once_core.specs.declared.cell_turn.CellTurn.TheVariants as cell_turn
use Rattle.mea_once_core.specs.declared.init_call.InitCall.{InitCall}
use Rattle.mea_once_core.specs.declared.insert_call.InsertCall.{InsertCall}

-- a cell: a value or none, and the one permit of those that may fill it
pub record Cell (T W : Type 0) : Type 0 where
  pub value : Option T
  pub permit : Core W

-- what lets a `Cell` be the value of a model
abbrev pub cell_code : {T W : Type 0} → Coded T → Coded W → Coded (Cell T W)
cell_code {T} {W} value_code waker_code =
    code_by
    (Option T × Core W)
    (coded× (coded_option value_code) (core_code waker_code))
    (λ c. (c.value, c.permit))
    (λ p. record { value = p.0; permit = p.1 })
    (λ _. refl)

-- the call that a checked poll uses where it is not one of the cell's
abbrev pub renewed_init : {I : Type 0} → InitCall I → InitCall I
renewed_init call = record call { stage = New }

abbrev pub renewed_insert : {T : Type 0} → InsertCall T → InsertCall T
renewed_insert call = option_map_or (λ _. record call { stage = New }) call.value call

module _ {T W : Type 0} where
  -- what holds of every cell
  pub record IsSound (c : Cell T W) : Type 0 where
    pub permit : IsPermit c.permit
    -- who has the permit computes, and the cell is empty
    pub empty : 1 ≤ held_of c.permit → c.value ≡ None

  -- how many calls more wait once a call at this stage was polled: 1 for a new one that finds the permit taken
  abbrev pub queues_more : Cell T W → CellStage → ℕ
  queues_more c New = if is_none c.value && (c.permit.free == 0) then 1 else 0
  queues_more c (Queued _) = 0
  queues_more c Running = 0
  queues_more c Done = 0

  -- the next poll of a call at this stage finds the value there
  abbrev pub Finds : Cell T W → CellStage → Type 0
  Finds c New = IsSome c.value
  Finds c (Queued number) = IsSome c.value × IsNext c.permit number
  Finds c Running = ⊥
  Finds c Done = ⊥

  -- who waits and who is woken after a step are those that waited and were woken before it, and at most k more
  abbrev pub AddAtMost : ℕ → Cell T W → Cell T W → Type 0
  AddAtMost k c c' = length c'.permit.queue + length c'.permit.wakes ≤ length c.permit.queue + length c.permit.wakes + k

  -- ---- who has the permit, and ends with a value, with none, or finds one there

  -- the value is there, and the permit goes to the next
  abbrev pub filled : Cell T W → T → Cell T W
  filled c v = record { value = Some v; permit = passed_on c.permit }

  -- the permit goes to the next
  abbrev pub given_up : Cell T W → Cell T W
  given_up c = record c { permit = passed_on c.permit }

  -- a cell whose wakers have gone elsewhere
  abbrev pub rested : Cell T W → Cell T W
  rested c = record c { permit = record c.permit { wakes = [] } }

  -- a cell that keeps its value, with a permit that nobody has or waits for
  abbrev pub alone : Cell T W → Cell T W
  alone c = record { value = c.value; permit = free_permit }

module _ {T E : Type 0} where
  -- what the caller is told where its initialiser answered this
  abbrev pub reply_of : Poll (Result T E) → Poll (Result (Unit {0}) E)
  reply_of Pending = Pending
  reply_of (Ready (Ok v)) = Ready (Ok tt)
  reply_of (Ready (Err e)) = Ready (Err e)

  -- the stage of the call after that
  abbrev pub stage_after : Poll (Result T E) → CellStage
  stage_after Pending = Running
  stage_after (Ready _) = Done

  -- the value of a cell after that, where the permit stays as it is
  abbrev pub value_after : Poll (Result T E) → Option T → Option T
  value_after Pending v = v
  value_after (Ready (Ok v)) _ = Some v
  value_after (Ready (Err e)) v = v

module _ {T W : Type 0} where
  -- what a poll for one's turn does, by the stage of the call: a first poll looks first, and else asks for the
  -- permit; whose turn has come looks again
  abbrev pub PollsTurn : CellStage → Cell T W → W → Result (CellTurn W) (W × NoMemory) → Cell T W → CellStage → Type 0
  PollsTurn New c w r c' stage' =
      MatchOption c.value
      ((c.permit.free ≡ 1 → (r ≡ Ok (cell_turn.Mine w)) × (c' ≡ record c { permit = record c.permit { free = 0 } }) × (stage' ≡ Running))
      × (c.permit.free ≡ 0 → MatchResult r
      (λ turn. (turn ≡ cell_turn.Pending) × ((number : ℕ) × Waits c.permit c'.permit w number × (c'.value ≡ c.value) × (stage' ≡ Queued number)))
      (λ e. (e.0 ≡ w) × (c' ≡ c) × (stage' ≡ New))))
      (λ _. (r ≡ Ok cell_turn.Full) × (c' ≡ c) × (stage' ≡ Done))
  PollsTurn (Queued number) c w r c' stage' =
      (IsNext c.permit number → MatchOption c.value
      ((r ≡ Ok (cell_turn.Mine w)) × (c' ≡ record c { permit = record c.permit { granted = map.remove c.permit.granted number } }) × (stage' ≡ Running))
      (λ _. (r ≡ Ok cell_turn.Full) × (c' ≡ given_up (record c { permit = record c.permit { granted = map.remove c.permit.granted number } })) × (stage' ≡ Done)))
      × (IsWaiting c.permit number → (r ≡ Ok cell_turn.Pending) × (c' ≡ record c { permit = record c.permit { queue = with_waker c.permit.queue number w } }) × (stage' ≡ Queued number))
  PollsTurn Running c w r c' stage' = (r ≡ Ok (cell_turn.Mine w)) × (c' ≡ c) × (stage' ≡ Running)
  PollsTurn Done c w r c' stage' = ⊥

  -- whose turn it is has the permit of an empty cell
  abbrev pub HasTurn : CellTurn W → Cell T W → CellStage → Type 0
  HasTurn cell_turn.Full c stage = IsSome c.value × (stage ≡ Done)
  HasTurn (cell_turn.Mine _) c stage = (1 ≤ held_of c.permit) × (stage ≡ Running)
  HasTurn cell_turn.Pending c stage = Unit {0}

module _ {T W E : Type 0} where
  -- the cell after the initialiser of who has the permit answered this
  abbrev pub settled : Poll (Result T E) → Cell T W → Cell T W
  settled Pending c = c
  settled (Ready (Ok v)) c = filled c v
  settled (Ready (Err e)) c = given_up c

module _ {T E W I : Type 0} (answers : I → W → Poll (Result T E) → I → Type 0) where
  -- who has the permit polls its initialiser, once
  pub record RunsInit (c : Cell T W) (i : I) (w : W) (poll : Poll (Result (Unit {0}) E)) (c' : Cell T W) (call' : InitCall I) : Type 0 where
    pub answer : Poll (Result T E)
    pub answered : answers i w answer call'.init
    pub reply : poll ≡ reply_of answer
    pub cell : c' ≡ settled answer c
    pub stage : call'.stage ≡ stage_after answer

  -- whose turn has come looks again: a value that is there by now is enough, and the permit goes to the next
  abbrev pub Enters : Cell T W → I → W → Poll (Result (Unit {0}) E) → Cell T W → InitCall I → Type 0
  Enters c i w poll c' call' =
      MatchOption c.value (RunsInit c i w poll c' call')
      (λ v. (poll ≡ Ready (Ok tt)) × (c' ≡ given_up c) × (call' ≡ record { init = i; stage = Done }))

  -- a first poll looks first, and else asks for the permit
  abbrev pub Starts : Cell T W → InitCall I → W → Result (Poll (Result (Unit {0}) E)) (W × NoMemory) → Cell T W → InitCall I → Type 0
  Starts c call w r c' call' =
      MatchOption c.value
      ((c.permit.free ≡ 1 → MatchResult r (λ poll. RunsInit (record c { permit = record c.permit { free = 0 } }) call.init w poll c' call') (λ _. ⊥))
      × (c.permit.free ≡ 0 → MatchResult r
      (λ poll. (poll ≡ Pending) × ((number : ℕ) × Waits c.permit c'.permit w number × (c'.value ≡ c.value) × (call' ≡ record call { stage = Queued number })))
      (λ e. (e.0 ≡ w) × (c' ≡ c) × (call' ≡ call))))
      (λ v. (r ≡ Ok (Ready (Ok tt))) × (c' ≡ c) × (call' ≡ record call { stage = Done }))

  -- what one poll does, by the stage of the call
  abbrev pub PollsStage : CellStage → Cell T W → InitCall I → W → Result (Poll (Result (Unit {0}) E)) (W × NoMemory) → Cell T W → InitCall I → Type 0
  PollsStage New c call w r c' call' = Starts c call w r c' call'
  PollsStage (Queued number) c call w r c' call' =
      (IsNext c.permit number → MatchResult r (λ poll. Enters (record c { permit = record c.permit { granted = map.remove c.permit.granted number } }) call.init w poll c' call') (λ _. ⊥))
      × (IsWaiting c.permit number → (r ≡ Ok Pending) × (c' ≡ record c { permit = record c.permit { queue = with_waker c.permit.queue number w } }) × (call' ≡ call))
  PollsStage Running c call w r c' call' = MatchResult r (λ poll. RunsInit c call.init w poll c' call') (λ _. ⊥)
  PollsStage Done c call w r c' call' = Unit {0}

  abbrev pub PollsInit : Cell T W → InitCall I → W → Result (Poll (Result (Unit {0}) E)) (W × NoMemory) → Cell T W → InitCall I → Type 0
  PollsInit c call w r c' call' = PollsStage call.stage c call w r c' call'

  -- who has the whole cell polls an initialiser where it is empty; the permit stays free
  pub record RunsAlone (c : Cell T W) (i : I) (w : W) (poll : Poll (Result (Unit {0}) E)) (c' : Cell T W) (i' : I) : Type 0 where
    pub answer : Poll (Result T E)
    pub answered : answers i w answer i'
    pub reply : poll ≡ reply_of answer
    pub cell : c' ≡ record c { value = value_after answer c.value }

  abbrev pub PollsMut : Cell T W → I → W → Poll (Result (Unit {0}) E) → Cell T W → I → Type 0
  PollsMut c i w poll c' i' =
      MatchOption c.value (RunsAlone c i w poll c' i')
      (λ v. (poll ≡ Ready (Ok tt)) × (c' ≡ c) × (i' ≡ i))

module _ {T W : Type 0} where
  -- what the end of a call does to its cell
  abbrev pub Ends : Cell T W → CellStage → Cell T W → Type 0
  Ends c stage c' = Leaves c.permit stage c'.permit × (c'.value ≡ c.value)

  -- ---- putting a value

  -- the call has its value, is one of the cell's and was not ready yet
  abbrev pub MayInsert : Cell T W → InsertCall T → Type 0
  MayInsert c call = IsSome call.value × MayAsk c.permit call.stage

  -- who has the permit puts its value into the cell; where one is there by now its own comes back, and the
  -- permit goes to the next in either case
  abbrev pub Puts : Cell T W → T → Poll (Result (Unit {0}) T) → Cell T W → Type 0
  Puts c v poll c' =
      MatchOption c.value ((poll ≡ Ready (Ok tt)) × (c' ≡ filled c v))
      (λ there. (poll ≡ Ready (Err v)) × (c' ≡ given_up c))

  -- by the stage of the call: a first poll looks first, and else asks for the permit
  abbrev pub Inserts : CellStage → Cell T W → T → W → Result (Poll (Result (Unit {0}) T)) (W × NoMemory) → Cell T W → InsertCall T → Type 0
  Inserts New c v w r c' call' =
      MatchOption c.value
      ((c.permit.free ≡ 1 → (r ≡ Ok (Ready (Ok tt))) × (c' ≡ record c { value = Some v }) × (call' ≡ record { value = None; stage = Done }))
      × (c.permit.free ≡ 0 → MatchResult r
      (λ poll. (poll ≡ Pending) × ((number : ℕ) × Waits c.permit c'.permit w number × (c'.value ≡ c.value) × (call' ≡ record { value = Some v; stage = Queued number })))
      (λ e. (e.0 ≡ w) × (c' ≡ c) × (call' ≡ record { value = Some v; stage = New }))))
      (λ there. (r ≡ Ok (Ready (Err v))) × (c' ≡ c) × (call' ≡ record { value = None; stage = Done }))
  Inserts (Queued number) c v w r c' call' =
      (IsNext c.permit number → MatchResult r (λ poll. Puts (record c { permit = record c.permit { granted = map.remove c.permit.granted number } }) v poll c' × (call' ≡ record { value = None; stage = Done })) (λ _. ⊥))
      × (IsWaiting c.permit number → (r ≡ Ok Pending) × (c' ≡ record c { permit = record c.permit { queue = with_waker c.permit.queue number w } }) × (call' ≡ record { value = Some v; stage = Queued number }))
  Inserts Running c v w r c' call' = Unit {0}
  Inserts Done c v w r c' call' = Unit {0}

  -- what one poll does; where the value is gone it is ready again, and changes nothing
  abbrev pub PollsInsert : Cell T W → InsertCall T → W → Result (Poll (Result (Unit {0}) T)) (W × NoMemory) → Cell T W → InsertCall T → Type 0
  PollsInsert c call w r c' call' =
      MatchOption call.value ((r ≡ Ok (Ready (Ok tt))) × (c' ≡ c) × (call' ≡ call))
      (λ v. Inserts call.stage c v w r c' call')
