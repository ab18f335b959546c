-- what it does to a table to give a key a value, and what a table that was made from pairs has
use Rattle.std.specs.Prelude.{◌≡◌, ◌≢◌, ℕ, List, [], ◌∷◌, Option, Some, None, Bool, true, if◌then◌else◌}
use Rattle.std.specs.Option.{option_and_then, option_or}
use Rattle.mea_once_core.specs.Cell.{Cell}
use Rattle.mea_once_core.specs.Permit.{free_permit}
use Rattle.mea_once_core.specs.Links.{Shown, unlisted, Renumbers}
use Rattle.mea_once_core.specs.Table.{Table, entry_at, number_of}

module _ {V W : Type 0} where
  -- a cell with a value, for which no call waits or computes
  abbrev pub full_cell : V → Cell V W
  full_cell v = record { value = Some v; permit = free_permit }

  -- an entry that the table has, with this cell and no caller
  abbrev pub listed_entry : Cell V W → Shown V W
  listed_entry c = record { cell = c; callers = 0; listed = true }

module _ {K V W : Type 0} (eq : K → K → Bool) where
  -- the key has a new entry with this cell and no caller; the one that it had stays for its callers alone
  pub record Inserts (t t' : Table K V W) (key : K) (c : Cell V W) : Type 0 where
    pub number : ℕ
    pub fresh : entry_at t number ≡ None
    pub entry : entry_at t' number ≡ Some (listed_entry c)
    pub replaced : (m : ℕ) (e : Shown V W) → number_of eq t key ≡ Some m → entry_at t m ≡ Some e → entry_at t' m ≡ unlisted e
    pub others : (m : ℕ) → m ≢ number → number_of eq t key ≢ Some m → entry_at t' m ≡ entry_at t m
    pub numbers : Renumbers eq t.pairs t'.pairs key (Some number)

  -- the value in the cell of a key's entry
  abbrev pub value_in : Table K V W → K → Option V
  value_in t key = option_and_then (λ n. option_and_then (λ e. e.cell.value) (entry_at t n)) (number_of eq t key)

-- the value of the last pair that a key has
abbrev pub last_value : {K V : Type 0} → (K → K → Bool) → List (K × V) → K → Option V
last_value eq [] key = None
last_value eq (p ∷ ps) key = option_or (last_value eq ps key) (if eq p.0 key then Some p.1 else None)

-- the entry has a value, and no call of it lives
abbrev pub IsIdle : {V W : Type 0} → Shown V W → Type 0
IsIdle {V} e = (v : V) × (e ≡ listed_entry (full_cell v))
