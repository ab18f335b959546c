-- what a contract sees of a `OnceTable`, and what its calls do
use Rattle.std.specs.Prelude.{◌≡◌, ◌+◌, ◌<◌, ◌≤◌, ◌++◌, length, ℕ, List, Option, Some, None, is_none, not, ◌==◌, ◌&&◌, Bool, true, false, Result, Ok, IfOk, OnErr, IsSome, refl}
use Rattle.std.specs.Coded.{Coded, code_by, coded×, coded_ℕ, coded_list, coded_option}
use Rattle.mea_base.specs.declared.no_memory.NoMemory.{NoMemory}
use Rattle.mea_sets.specs.Poll.{Poll, Ready}
use Rattle.mea_once_core.specs.declared.init_call.InitCall.{InitCall}
use Rattle.mea_once_core.specs.declared.cell_stage.CellStage.{CellStage}
use Rattle.mea_base.specs.Outbox.{Wakes}
use Rattle.mea_once_core.specs.Cell.{Cell, rested, cell_code, PollsInit, Ends, queues_more, AddAtMost}
use Rattle.mea_once_core.specs.Permit.{free_permit}
use Rattle.mea_once_core.specs.Links.{Shown, shown_at, Changes, SameEntries, unlisted, number_in, SameNumbers, Renumbers, Forgets}
use Rattle.mea_once_core.specs.declared.entry.Entry.{Entry}

-- the entry or nothing under each number, and the keys of the table with their numbers
pub record Table (K V W : Type 0) : Type 0 where
  pub slots : List (Option (Entry V W))
  pub pairs : List (K × ℕ)

-- what lets a `Table` be the value of a model
abbrev pub entry_code : {V W : Type 0} → Coded V → Coded W → Coded (Entry V W)
entry_code {V} {W} value_code waker_code =
    code_by
    (Cell V W × (ℕ × Option ℕ))
    (coded× (cell_code value_code waker_code) (coded× coded_ℕ (coded_option coded_ℕ)))
    (λ e. (e.cell, (e.callers, e.place)))
    (λ p. record { cell = p.0; callers = p.1.0; place = p.1.1 })
    (λ _. refl)

abbrev pub table_code : {K V W : Type 0} → Coded K → Coded V → Coded W → Coded (Table K V W)
table_code {K} {V} {W} key_code value_code waker_code =
    code_by
    (List (Option (Entry V W)) × List (K × ℕ))
    (coded× (coded_list (coded_option (entry_code value_code waker_code))) (coded_list (coded× key_code coded_ℕ)))
    (λ t. (t.slots, t.pairs))
    (λ p. record { slots = p.0; pairs = p.1 })
    (λ _. refl)

-- an empty entry with one caller alone
abbrev pub is_last : {V W : Type 0} → Shown V W → Bool
is_last e = (e.callers == 1) && is_none e.cell.value

module _ {K V W : Type 0} where
  -- the entry with this number, if it is in use
  abbrev pub entry_at : Table K V W → ℕ → Option (Shown V W)
  entry_at t n = shown_at t.slots n

  -- the number of the entry that the table has for a key
  abbrev pub number_of : (K → K → Bool) → Table K V W → K → Option ℕ
  number_of eq t key = number_in eq t.pairs key

  -- the entry is in use and has a caller
  abbrev pub HasCaller : Table K V W → ℕ → Type 0
  HasCaller t n = (e : Shown V W) × (entry_at t n ≡ Some e) × (1 ≤ e.callers)

  module _ (eq : K → K → Bool) where
    -- entries and numbers are as they were
    abbrev pub IsSame : Table K V W → Table K V W → Type 0
    IsSame t t' = SameEntries t.slots t'.slots × SameNumbers eq t.pairs t'.pairs

    -- the entry of the key, if the table has one, has room for a further caller
    abbrev pub HasRoom : Table K V W → K → Type 0
    HasRoom t key = (n : ℕ) (e : Shown V W) → number_of eq t key ≡ Some n → entry_at t n ≡ Some e → e.callers < 18446744073709551615

    -- the entry has become this; the numbers are as they were
    abbrev pub Sets : Table K V W → Table K V W → ℕ → Option (Shown V W) → Type 0
    Sets t t' n o = Changes t.slots t'.slots n o × SameNumbers eq t.pairs t'.pairs

    -- a further caller of an entry
    abbrev pub Joins : Table K V W → Table K V W → ℕ → Type 0
    Joins t t' n = (e : Shown V W) → entry_at t n ≡ Some e → Sets t t' n (Some (record e { callers = e.callers + 1 }))

    -- a new entry for the key, under a number that was not in use
    pub record Makes (t t' : Table K V W) (key : K) (n : ℕ) (e : Shown V W) : Type 0 where
      pub fresh : entry_at t n ≡ None
      pub entries : Changes t.slots t'.slots n (Some e)
      pub numbers : Renumbers eq t.pairs t'.pairs key (Some n)

    -- the entry leaves the table, and stays in use as long as it has a caller
    abbrev pub Unlists : Table K V W → Table K V W → ℕ → Type 0
    Unlists t t' n = (e : Shown V W) → entry_at t n ≡ Some e → Changes t.slots t'.slots n (unlisted e) × Forgets eq t.pairs t'.pairs n

    -- whether the key that had a number has none any more, or all have theirs
    abbrev pub NumbersGo : Bool → Table K V W → Table K V W → ℕ → Type 0
    NumbersGo true t t' n = Forgets eq t.pairs t'.pairs n
    NumbersGo false t t' n = SameNumbers eq t.pairs t'.pairs

    -- the table gives an empty entry up that has one caller alone
    pub record Retires (t : Table K V W) (n : ℕ) (e : Shown V W) (t' : Table K V W) : Type 0 where
      pub entries : Changes t.slots t'.slots n (Some (record e { listed = e.listed && not (is_last e) }))
      pub numbers : NumbersGo (e.listed && is_last e) t t' n

    -- a call of an entry's cell has ended
    pub record EndsEntry (t : Table K V W) (n : ℕ) (e : Shown V W) (stage : CellStage) (t' : Table K V W) : Type 0 where
      pub cell : Cell V W
      pub ends : Ends e.cell stage cell
      pub few : AddAtMost 0 e.cell cell
      pub sets : Sets t t' n (Some (record e { cell = cell }))

    -- the wakers that an entry's cell had made ready went to an outbox
    pub record RestsEntry (t : Table K V W) (n : ℕ) (e : Shown V W) (out out' : Wakes W) (t' : Table K V W) : Type 0 where
      pub sets : Sets t t' n (Some (record e { cell = rested e.cell }))
      pub wakers : out'.wakers ≡ out.wakers ++ e.cell.permit.wakes
      pub spare : out'.spare + length e.cell.permit.wakes ≡ out.spare

module _ {K V W E I : Type 0} (answers : I → W → Poll (Result V E) → I → Type 0) (eq : K → K → Bool) where
  -- a call of an entry's cell was polled
  pub record PollsEntry (t : Table K V W) (n : ℕ) (e : Shown V W) (call : InitCall I) (w : W) (r : Result (Poll (Result (Unit {0}) E)) (W × NoMemory)) (t' : Table K V W) (call' : InitCall I) : Type 0 where
    pub cell : Cell V W
    pub polls : PollsInit answers e.cell call w r cell call'
    pub few : AddAtMost (queues_more e.cell call.stage) e.cell cell
    pub stays : OnErr r (cell ≡ e.cell)
    pub no_memory : OnErr r (queues_more e.cell call.stage ≡ 1)
    pub fills : IfOk r (λ poll. poll ≡ Ready (Ok tt) → IsSome cell.value)
    pub sets : Sets eq t t' n (Some (record e { cell = cell }))

-- a new entry's cell
abbrev pub empty_cell : {V W : Type 0} → Cell V W
empty_cell = record { value = None; permit = free_permit }

-- a new entry, with its one caller
abbrev pub fresh_entry : {V W : Type 0} → Shown V W
fresh_entry = record { cell = empty_cell; callers = 1; listed = true }
