-- one permit that is handed from caller to caller, and what a call does with it
use Rattle.std.specs.Prelude.{ℕ, ◌≡◌, ◌+◌, ◌≤◌, ◌==◌, ◌++◌, ◌⊎◌, if◌then◌else◌, List, [], ◌∷◌, false, Result, Ok, MatchResult}
use Rattle.std.specs.FinMap as map
use Rattle.mea_base.specs.declared.no_memory.NoMemory.{NoMemory}
use Rattle.mea_base.specs.declared.turn.Turn.{Turn}
use Rattle.mea_base.specs.declared.turn.Turn.TheVariants.{Ready, Pending}
use Rattle.mea_sem_core.specs.Ones.{AskForOne}
use Rattle.mea_sem_core.specs.Core as core
use Rattle.mea_sem_core.specs.Core.{Waiter, Acquires, Owes, Core, held_of}
use Rattle.mea_sem_core.specs.Calls.{IsGrantedAs, IsWaitingAs, Queues, with_waker, without_acquire}
use Rattle.mea_sem_core.specs.declared.acquire.Acquire.{Acquire}
use Rattle.mea_sem_core.specs.declared.acquire.Acquire.TheVariants as acquire
use Rattle.mea_once_core.specs.declared.cell_stage.CellStage.{CellStage}
use Rattle.mea_once_core.specs.declared.cell_stage.CellStage.TheVariants.{New, Queued, Running, Done}

-- the acquire of one permit that stands for a call at a stage
abbrev pub acquire_of : CellStage → Acquire
acquire_of New = acquire.New 1
acquire_of (Queued number) = acquire.Queued 1 number
acquire_of Running = acquire.Done 1
acquire_of Done = acquire.Done 1

-- the stage of a call whose acquire is at this stage
abbrev pub stage_of : Acquire → CellStage
stage_of (acquire.New _) = New
stage_of (acquire.Queued _ number) = Queued number
stage_of (acquire.Done _) = Running
stage_of (acquire.Refused _) = Done

-- how many permits a call at this stage has
abbrev pub held_at : CellStage → ℕ
held_at New = 0
held_at (Queued _) = 0
held_at Running = 1
held_at Done = 0

-- a permit that nobody has or waits for
abbrev pub free_permit : {W : Type 0} → Core W
free_permit = record { free = 1; live = 1; queue = []; granted = map.empty; cut = map.empty; closed = false; wakes = [] }

module _ {W : Type 0} where
  -- what holds of every permit
  pub record IsPermit (s : Core W) : Type 0 where
    pub sound : core.IsSound s
    -- one permit lives, so no two calls have it
    pub one : s.live ≡ 1
    pub asks : AskForOne s.queue
    -- nobody closes it
    pub is_open : s.closed ≡ false

  -- the permit goes to the first that waits, and its waker is ready; where nobody waits it is free
  abbrev pub passed_to : List (Waiter W × ℕ) → Core W → Core W
  passed_to [] s = record s { free = 1 }
  passed_to ((Acquires number demand waker, lack) ∷ q) s = record s { queue = q; granted = map.insert s.granted number 1; wakes = s.wakes ++ waker ∷ [] }
  passed_to ((Owes, lack) ∷ q) s = s

  abbrev pub passed_on : Core W → Core W
  passed_on s = passed_to s.queue s

  -- ---- a call, by its stage

  -- its turn has come, and it was not polled since
  abbrev pub IsNext : Core W → ℕ → Type 0
  IsNext s number = IsGrantedAs s 1 number

  abbrev pub IsWaiting : Core W → ℕ → Type 0
  IsWaiting s number = IsWaitingAs s 1 number

  -- it has not the permit yet, and is one of this permit's
  abbrev pub MayAsk : Core W → CellStage → Type 0
  MayAsk s New = Unit {0}
  MayAsk s (Queued number) = IsNext s number ⊎ IsWaiting s number
  MayAsk s Running = ⊥
  MayAsk s Done = ⊥

  -- it is one of this permit's, and was not ready yet
  abbrev pub MayPoll : Core W → CellStage → Type 0
  MayPoll s New = Unit {0}
  MayPoll s (Queued number) = IsNext s number ⊎ IsWaiting s number
  MayPoll s Running = 1 ≤ held_of s
  MayPoll s Done = ⊥

  -- it is one of this permit's
  abbrev pub MayEnd : Core W → CellStage → Type 0
  MayEnd s New = Unit {0}
  MayEnd s (Queued number) = IsNext s number ⊎ IsWaiting s number
  MayEnd s Running = 1 ≤ held_of s
  MayEnd s Done = Unit {0}

  -- a call that has to wait stands last in the queue, under a number that is fresh
  abbrev pub Waits : Core W → Core W → W → ℕ → Type 0
  Waits s s' w number = Queues s s' 1 w number

  -- how many calls more wait once a call at this stage has asked: 1 for a new one that finds the permit taken
  abbrev pub asks_more : Core W → CellStage → ℕ
  asks_more s New = if s.free == 0 then 1 else 0
  asks_more s (Queued _) = 0
  asks_more s Running = 0
  asks_more s Done = 0

  -- what asking for the permit does: ready with the permit, or pending in the queue
  abbrev pub Asks : Core W → CellStage → W → Result (Turn W) (W × NoMemory) → Core W → CellStage → Type 0
  Asks s New w r s' stage' =
      (s.free ≡ 1 → (r ≡ Ok (Ready w)) × (s' ≡ record s { free = 0 }) × (stage' ≡ Running))
      × (s.free ≡ 0 → MatchResult r
      (λ turn. (turn ≡ Pending) × ((number : ℕ) × Waits s s' w number × (stage' ≡ Queued number)))
      (λ e. (e.0 ≡ w) × (s' ≡ s) × (stage' ≡ New)))
  Asks s (Queued number) w r s' stage' =
      (IsNext s number → (r ≡ Ok (Ready w)) × (s' ≡ record s { granted = map.remove s.granted number }) × (stage' ≡ Running))
      × (IsWaiting s number → (r ≡ Ok Pending) × (s' ≡ record s { queue = with_waker s.queue number w }) × (stage' ≡ Queued number))
  Asks s Running w r s' stage' = Unit {0}
  Asks s Done w r s' stage' = Unit {0}

  -- who is ready has the permit, which nobody had; else it is as it was
  abbrev pub TakesPermit : Core W → Turn W → Core W → Type 0
  TakesPermit s (Ready _) s' = (held_of s ≡ 0) × (held_of s' ≡ 1)
  TakesPermit s Pending s' = held_of s' ≡ held_of s

  -- the permit is had by whom it was, but for a call that came from one stage to another
  abbrev pub HoldsAs : Core W → CellStage → Core W → CellStage → Type 0
  HoldsAs s stage s' stage' = held_of s' + held_at stage ≡ held_of s + held_at stage'

  -- what the end of a call does: it gives up its place, or the permit, which goes to the next
  abbrev pub Leaves : Core W → CellStage → Core W → Type 0
  Leaves s New s' = s' ≡ s
  Leaves s (Queued number) s' =
      (IsNext s number → s' ≡ passed_on (record s { granted = map.remove s.granted number }))
      × (IsWaiting s number → s' ≡ record s { queue = without_acquire s.queue number })
  Leaves s Running s' = s' ≡ passed_on s
  Leaves s Done s' = s' ≡ s
