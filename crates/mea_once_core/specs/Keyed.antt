-- what a contract sees of a map and of a group of calls by key, and what their calls do
use Rattle.std.specs.Prelude.{◌≡◌, ◌+◌, ◌≤◌, ◌++◌, ◌&&◌, ◌⊎◌, ℕ, List, Option, Some, None, not, IsSome, Bool, Result, Ok, Err, MatchResult, MatchOption, refl}
use Rattle.std.specs.Option.{option_and_then}
use Rattle.std.specs.Coded.{Coded, code_by, coded×, coded_list}
use Rattle.mea_base.specs.declared.no_memory.NoMemory.{NoMemory}
use Rattle.mea_sets.specs.Poll.{Poll, Ready, Pending}
use Rattle.mea_once_core.specs.Permit.{MayPoll, MayEnd}
use Rattle.mea_once_core.specs.Cell.{Cell, PollsInit, Ends, Finds, queues_more, rested}
use Rattle.mea_once_core.specs.Links.{Shown, left, Changes}
use Rattle.mea_once_core.specs.Table.{Table, table_code, entry_at, number_of, HasCaller, HasRoom, IsSame, Sets, Joins, Makes, Unlists, NumbersGo, is_last, fresh_entry}
use Rattle.mea_once_core.specs.declared.init_call.InitCall.{InitCall}
use Rattle.mea_once_core.specs.declared.cell_stage.CellStage.{CellStage}
use Rattle.mea_once_core.specs.declared.cell_stage.CellStage.TheVariants as stage
use Rattle.mea_once_core.specs.declared.key_call.KeyCall.{KeyCall}
use Rattle.mea_once_core.specs.declared.key_call.KeyStage.{KeyStage}
use Rattle.mea_once_core.specs.declared.key_call.KeyStage.TheVariants.{New, Calls, Kept, Done}

-- a table of cells, and the wakers that they have made ready, in their order
pub record Keyed (K V W : Type 0) : Type 0 where
  pub table : Table K V W
  pub wakes : List W

-- what lets a `Keyed` be the value of a model
abbrev pub keyed_code : {K V W : Type 0} → Coded K → Coded V → Coded W → Coded (Keyed K V W)
keyed_code {K} {V} {W} key_code value_code waker_code =
    code_by
    (Table K V W × List W)
    (coded× (table_code key_code value_code waker_code) (coded_list waker_code))
    (λ k. (k.table, k.wakes))
    (λ p. record { table = p.0; wakes = p.1 })
    (λ _. refl)

module _ {V W : Type 0} where
  -- the entry with one caller less; an empty one that has no other leaves the table before that
  abbrev pub without_caller : Shown V W → Option (Shown V W)
  without_caller e = left (record e { listed = e.listed && not (is_last e) })

-- there was no memory, and the waker comes back
abbrev pub IsErrWith : {W A : Type 0} → W → Result A (Option W × NoMemory) → Type 0
IsErrWith w (Ok _) = ⊥
IsErrWith w (Err failed) = failed.0 ≡ Some w

module _ {K V W E I : Type 0} where
  -- a first poll that finds a value there: a clone of it, or want of memory, with the key kept
  abbrev pub HandsFirst : K → InitCall I → W → Shown V W → Result (Poll (Result V E)) (Option W × NoMemory) → InitCall I → KeyStage K → Type 0
  HandsFirst key call w e r call' stage' =
      MatchResult r
      (λ poll. (v : V) × (e.cell.value ≡ Some v) × (poll ≡ Ready (Ok v)) × (call' ≡ call) × (stage' ≡ Done))
      (λ failed. (failed.0 ≡ Some w) × (call' ≡ call) × (stage' ≡ New key))

module _ {K V W : Type 0} (eq : K → K → Bool) where
  -- entries, numbers and wakers are as they were
  abbrev pub IsSameKeyed : Keyed K V W → Keyed K V W → Type 0
  IsSameKeyed k k' = IsSame eq k.table k'.table × (k'.wakes ≡ k.wakes)

  -- a caller leaves its entry; the last one of an empty entry takes it out of the table, and its key with it
  pub record LeavesEntry (k : Keyed K V W) (n : ℕ) (e : Shown V W) (k' : Keyed K V W) : Type 0 where
    pub entries : Changes k.table.slots k'.table.slots n (without_caller e)
    pub numbers : NumbersGo eq (e.listed && is_last e) k.table k'.table n
    pub wakes : k'.wakes ≡ k.wakes

  -- where a value is for one round alone, the table gives the entry up, which stays for its callers
  pub record GivesUp (once : Bool) (k : Keyed K V W) (n : ℕ) (e : Shown V W) (k' : Keyed K V W) : Type 0 where
    pub entries : Changes k.table.slots k'.table.slots n (Some (record e { listed = e.listed && not once }))
    pub numbers : NumbersGo eq (e.listed && once) k.table k'.table n
    pub wakes : k'.wakes ≡ k.wakes

  -- the key's entry leaves the table, if that has one
  abbrev pub Discards : Keyed K V W → K → Keyed K V W → Type 0
  Discards k key k' =
      MatchOption (number_of eq k.table key) (IsSameKeyed k k')
      (λ n. Unlists eq k.table k'.table n × (k'.wakes ≡ k.wakes))

  -- the value that a key has
  abbrev pub value_for : Keyed K V W → K → Option V
  value_for k key = option_and_then (λ n. option_and_then (λ e. e.cell.value) (entry_at k.table n)) (number_of eq k.table key)

  -- ---- what calls ask for

  -- a new call finds room at its key's entry; another is a caller of an entry, whose cell knows it, or has a value for it
  abbrev pub MayPollAt : {I : Type 0} → KeyStage K → Keyed K V W → InitCall I → Type 0
  MayPollAt (New key) k call = HasRoom eq k.table key × (call.stage ≡ stage.New)
  MayPollAt (Calls n) k call = (e : Shown V W) × (entry_at k.table n ≡ Some e) × (1 ≤ e.callers) × MayPoll e.cell.permit call.stage
  MayPollAt (Kept n) k call = (e : Shown V W) × (entry_at k.table n ≡ Some e) × (1 ≤ e.callers) × IsSome e.cell.value
  MayPollAt Done k call = ⊥

  abbrev pub MayPollKey : {I : Type 0} → Keyed K V W → KeyCall K I → Type 0
  MayPollKey k call = MayPollAt call.stage k call.call

  -- the poll of such a call takes memory beside that for a clone: a new one makes an entry for its key, or queues at the one
  -- that its key has; another queues at its own
  abbrev pub TakesMemoryAt : {I : Type 0} → KeyStage K → Keyed K V W → InitCall I → Type 0
  TakesMemoryAt (New key) k call = (n : ℕ) (e : Shown V W) → number_of eq k.table key ≡ Some n → entry_at k.table n ≡ Some e → queues_more e.cell call.stage ≡ 1
  TakesMemoryAt (Calls n) k call = (e : Shown V W) → entry_at k.table n ≡ Some e → queues_more e.cell call.stage ≡ 1
  TakesMemoryAt (Kept n) k call = ⊥
  TakesMemoryAt Done k call = ⊥

  abbrev pub TakesMemory : {I : Type 0} → Keyed K V W → KeyCall K I → Type 0
  TakesMemory k call = TakesMemoryAt call.stage k call.call

  abbrev pub MayEndAt : {I : Type 0} → KeyStage K → Keyed K V W → InitCall I → Type 0
  MayEndAt (New key) k call = Unit {0}
  MayEndAt (Calls n) k call = (e : Shown V W) × (entry_at k.table n ≡ Some e) × (1 ≤ e.callers) × MayEnd e.cell.permit call.stage
  MayEndAt (Kept n) k call = HasCaller k.table n
  MayEndAt Done k call = Unit {0}

  abbrev pub MayEndKey : {I : Type 0} → Keyed K V W → KeyCall K I → Type 0
  MayEndKey k call = MayEndAt call.stage k call.call

  -- ---- ends

  -- a call of the entry's cell ends, and its wakers go to those of the map
  pub record EndsCell (k : Keyed K V W) (n : ℕ) (e : Shown V W) (stage : CellStage) (k' : Keyed K V W) : Type 0 where
    pub cell : Cell V W
    pub ends : Ends e.cell stage cell
    pub sets : Sets eq k.table k'.table n (Some (record e { cell = rested cell }))
    pub wakes : k'.wakes ≡ k.wakes ++ cell.permit.wakes

  -- and then the caller leaves
  abbrev pub EndsCaller : Keyed K V W → ℕ → Shown V W → CellStage → Keyed K V W → Type 0
  EndsCaller k n e stage k' = (between : Keyed K V W) × (ended : EndsCell k n e stage between) × LeavesEntry between n (record e { cell = rested ended.cell }) k'

  abbrev pub EndsAt : KeyStage K → Keyed K V W → CellStage → Keyed K V W → Type 0
  EndsAt (New key) k stage k' = IsSameKeyed k k'
  EndsAt (Calls n) k stage k' = (e : Shown V W) → entry_at k.table n ≡ Some e → EndsCaller k n e stage k'
  EndsAt (Kept n) k stage k' = (e : Shown V W) → entry_at k.table n ≡ Some e → LeavesEntry k n e k'
  EndsAt Done k stage k' = IsSameKeyed k k'

  -- ---- polls

  -- a clone of the value goes to the caller, which leaves its entry; where there is no memory for the clone, this comes back
  -- and the caller is at this stage
  abbrev pub HandsOut : {E : Type 0} → Option W → KeyStage K → Keyed K V W → ℕ → Shown V W → Result (Poll (Result V E)) (Option W × NoMemory) → Keyed K V W → KeyStage K → Type 0
  HandsOut back stage k n e r k' stage' =
      MatchResult r
      (λ poll. (v : V) × (e.cell.value ≡ Some v) × (poll ≡ Ready (Ok v)) × LeavesEntry k n e k' × (stage' ≡ Done))
      (λ failed. (failed.0 ≡ back) × IsSameKeyed k k' × (stage' ≡ stage))

  -- an initialiser has filled the cell: where a value is for one round alone, the table gives the entry up; the value is
  -- handed out, or kept for the next poll
  abbrev pub Computed : {E : Type 0} → Bool → Keyed K V W → ℕ → Shown V W → Result (Poll (Result V E)) (Option W × NoMemory) → Keyed K V W → KeyStage K → Type 0
  Computed once k n e r k' stage' = (between : Keyed K V W) × GivesUp once k n e between × HandsOut None (Kept n) between n (record e { listed = e.listed && not once }) r k' stage'

  -- by what the poll of the cell told
  abbrev pub AfterCellPoll : {E : Type 0} → Bool → Result (Poll (Result (Unit {0}) E)) (W × NoMemory) → Keyed K V W → ℕ → Shown V W → Result (Poll (Result V E)) (Option W × NoMemory) → Keyed K V W → KeyStage K → Type 0
  AfterCellPoll once (Ok Pending) k n e r k' stage' = (r ≡ Ok Pending) × IsSameKeyed k k' × (stage' ≡ Calls n)
  AfterCellPoll once (Ok (Ready (Err x))) k n e r k' stage' = (r ≡ Ok (Ready (Err x))) × LeavesEntry k n e k' × (stage' ≡ Done)
  AfterCellPoll once (Ok (Ready (Ok _))) k n e r k' stage' = Computed once k n e r k' stage'
  AfterCellPoll once (Err failed) k n e r k' stage' = (r ≡ Err (Some failed.0, failed.1)) × IsSameKeyed k k' × (stage' ≡ Calls n)

module _ {K V W E I : Type 0} (answers : I → W → Poll (Result V E) → I → Type 0) (eq : K → K → Bool) where
  -- the cell of the caller's entry is polled, and its wakers go to those of the map
  pub record StepsCell (k : Keyed K V W) (n : ℕ) (e : Shown V W) (call : InitCall I) (w : W) (r : Result (Poll (Result (Unit {0}) E)) (W × NoMemory)) (cell : Cell V W) (k' : Keyed K V W) (call' : InitCall I) : Type 0 where
    pub polls : PollsInit answers e.cell call w r cell call'
    pub sets : Sets eq k.table k'.table n (Some (record e { cell = rested cell }))
    pub wakes : k'.wakes ≡ k.wakes ++ cell.permit.wakes

  -- a caller whose next poll finds a value there: the clone comes first, and where there is no memory for it nothing has
  -- changed; else the permit goes to the next and the caller leaves
  abbrev pub FindsValue : Keyed K V W → ℕ → Shown V W → InitCall I → W → Result (Poll (Result V E)) (Option W × NoMemory) → Keyed K V W → InitCall I → KeyStage K → Type 0
  FindsValue k n e call w r k' call' stage' =
      MatchResult r
      (λ poll. (v : V) × (e.cell.value ≡ Some v) × (poll ≡ Ready (Ok v))
      × ((cell : Cell V W) × (between : Keyed K V W) × StepsCell k n e call w (Ok (Ready (Ok tt))) cell between call' × LeavesEntry eq between n (record e { cell = rested cell }) k') × (stage' ≡ Done))
      (λ failed. (failed.0 ≡ Some w) × IsSameKeyed eq k k' × (call' ≡ call) × (stage' ≡ Calls n))

  -- another caller polls the cell, and what follows is by what that tells
  abbrev pub AsksCell : Bool → Keyed K V W → ℕ → Shown V W → InitCall I → W → Result (Poll (Result V E)) (Option W × NoMemory) → Keyed K V W → InitCall I → KeyStage K → Type 0
  AsksCell once k n e call w r k' call' stage' =
      (told : Result (Poll (Result (Unit {0}) E)) (W × NoMemory)) × (cell : Cell V W) × (between : Keyed K V W)
      × StepsCell k n e call w told cell between call' × AfterCellPoll eq once told between n (record e { cell = rested cell }) r k' stage'

  abbrev pub PollsCaller : Bool → Keyed K V W → ℕ → Shown V W → InitCall I → W → Result (Poll (Result V E)) (Option W × NoMemory) → Keyed K V W → InitCall I → KeyStage K → Type 0
  PollsCaller once k n e call w r k' call' stage' =
      (Finds e.cell call.stage → FindsValue k n e call w r k' call' stage')
      × (¬ Finds e.cell call.stage → AsksCell once k n e call w r k' call' stage')

  -- the first poll at an entry that the table has: a value that is there is handed out at once, and else the call is a caller
  abbrev pub StartsAt : Bool → Keyed K V W → K → ℕ → Shown V W → InitCall I → W → Result (Poll (Result V E)) (Option W × NoMemory) → Keyed K V W → InitCall I → KeyStage K → Type 0
  StartsAt once k key n e call w r k' call' stage' =
      MatchOption e.cell.value
      (((told : Result (Poll (Result (Unit {0}) E)) (W × NoMemory)) × (cell : Cell V W) × (between : Keyed K V W) × (joined : Keyed K V W)
      × StepsCell k n e call w told cell between call' × Joins eq between.table joined.table n × (joined.wakes ≡ between.wakes)
      × AfterCellPoll eq once told joined n (record e { cell = rested cell; callers = e.callers + 1 }) r k' stage')
      ⊎ ((failed : W × NoMemory) × (cell : Cell V W) × StepsCell k n e call w (Err failed) cell k' call' × (r ≡ Err (Some failed.0, failed.1)) × (stage' ≡ New key)))
      (λ v. HandsFirst key call w e r call' stage' × IsSameKeyed eq k k')

  -- the first poll of a key that the table has not: it makes an empty entry and is its caller, or there is no memory
  abbrev pub StartsNew : Bool → Keyed K V W → K → InitCall I → W → Result (Poll (Result V E)) (Option W × NoMemory) → Keyed K V W → InitCall I → KeyStage K → Type 0
  StartsNew once k key call w r k' call' stage' =
      ((n : ℕ) × (made : Keyed K V W) × Makes eq k.table made.table key n (fresh_entry) × (made.wakes ≡ k.wakes)
      × AsksCell once made n (fresh_entry) call w r k' call' stage')
      ⊎ (IsErrWith w r × IsSameKeyed eq k k' × (call' ≡ call) × (stage' ≡ New key))

  abbrev pub PollsAt : Bool → KeyStage K → Keyed K V W → InitCall I → W → Result (Poll (Result V E)) (Option W × NoMemory) → Keyed K V W → InitCall I → KeyStage K → Type 0
  PollsAt once (New key) k call w r k' call' stage' =
      MatchOption (number_of eq k.table key) (StartsNew once k key call w r k' call' stage')
      (λ n. (e : Shown V W) → entry_at k.table n ≡ Some e → StartsAt once k key n e call w r k' call' stage')
  PollsAt once (Calls n) k call w r k' call' stage' = (e : Shown V W) → entry_at k.table n ≡ Some e → PollsCaller once k n e call w r k' call' stage'
  PollsAt once (Kept n) k call w r k' call' stage' = (e : Shown V W) → entry_at k.table n ≡ Some e → HandsOut eq (Some w) (Kept n) k n e r k' stage' × (call' ≡ call)
  PollsAt once Done k call w r k' call' stage' = Unit {0}

  -- what one poll does; `once` tells whether a value is for one round alone
  abbrev pub PollsKey : Bool → Keyed K V W → KeyCall K I → W → Result (Poll (Result V E)) (Option W × NoMemory) → Keyed K V W → KeyCall K I → Type 0
  PollsKey once k call w r k' call' = PollsAt once call.stage k call.call w r k' call'.call call'.stage

-- the initialiser of a call that still needs it may be polled: of one that was never polled or is a caller, and
-- of none whose value was kept or that was ready
module _ {K I : Type 0} (may_poll : I → Type 0) where
  abbrev pub MayRunAt : KeyStage K → I → Type 0
  MayRunAt (New _) i = may_poll i
  MayRunAt (Calls _) i = may_poll i
  MayRunAt (Kept _) i = Unit {0}
  MayRunAt Done i = Unit {0}

  abbrev pub MayRun : KeyCall K I → Type 0
  MayRun call = MayRunAt call.stage call.call.init
