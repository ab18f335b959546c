-- entries by number, and the numbers by key
use Rattle.std.specs.Prelude.{◌≡◌, ◌≢◌, ◌-◌, ◌==◌, ◌&&◌, ℕ, List, Option, Some, None, Bool, false, is_some, not, cond, slice_get, slice_index_or, if◌then◌else◌}
use Rattle.std.specs.Option.{option_map}
use Rattle.std.specs.Map.{lookup}
use Rattle.slab.specs.Slab.{Slab, get}
use Rattle.mea_once_core.specs.Cell.{Cell}
use Rattle.mea_once_core.specs.declared.entry.Entry.{Entry}

-- each pair of the table has its entry, which knows its place, and each place that an entry knows is its own
pub record AreLinked {K V W : Type 0} (entries : Slab (Entry V W)) (pairs : List (K × ℕ)) : Type 0 where
  pub found : (p : ℕ) (k : K) (n : ℕ) → slice_get pairs p ≡ Some (k, n) → (e : Entry V W) × (get entries n ≡ Some e) × (e.place ≡ Some p)
  pub placed : (n p : ℕ) (e : Entry V W) → get entries n ≡ Some e → e.place ≡ Some p → (k : K) × (slice_get pairs p ≡ Some (k, n))

-- an entry as callers see it: its cell, how many callers it has, and whether the table has it
pub record Shown (V W : Type 0) : Type 0 where
  pub cell : Cell V W
  pub callers : ℕ
  pub listed : Bool

module _ {V W : Type 0} where
  abbrev pub shown : Entry V W → Shown V W
  shown e = record { cell = e.cell; callers = e.callers; listed = is_some e.place }

  -- the entry with this number, if it is in use
  abbrev pub shown_at : List (Option (Entry V W)) → ℕ → Option (Shown V W)
  shown_at slots n = option_map shown (slice_index_or slots n None)

  -- the entry with this number has become this, and each other is as it was
  pub record Changes (old new : List (Option (Entry V W))) (n : ℕ) (o : Option (Shown V W)) : Type 0 where
    pub changed : shown_at new n ≡ o
    pub others : (m : ℕ) → m ≢ n → shown_at new m ≡ shown_at old m

  -- each entry is as it was
  abbrev pub SameEntries : List (Option (Entry V W)) → List (Option (Entry V W)) → Type 0
  SameEntries old new = (n : ℕ) → shown_at new n ≡ shown_at old n

  -- an entry that the table has not any more stays for its callers
  abbrev pub unlisted : Shown V W → Option (Shown V W)
  unlisted e = if e.callers == 0 then None else Some (record e { listed = false })

  -- an entry with one caller less stays in the table, or for the others
  abbrev pub left : Shown V W → Option (Shown V W)
  left e = if (e.callers == 1) && not e.listed then None else Some (record e { callers = e.callers - 1 })

module _ {K : Type 0} (eq : K → K → Bool) where
  -- the number that a key has
  abbrev pub number_in : List (K × ℕ) → K → Option ℕ
  number_in pairs k = lookup (eq k) pairs

  -- the number of each key is as it was
  abbrev pub SameNumbers : List (K × ℕ) → List (K × ℕ) → Type 0
  SameNumbers old new = (k : K) → number_in new k ≡ number_in old k

  -- this key has this number now, or none, and each other has its own
  abbrev pub Renumbers : List (K × ℕ) → List (K × ℕ) → K → Option ℕ → Type 0
  Renumbers old new key o = (k : K) → number_in new k ≡ cond (eq key k) o (number_in old k)

  -- the key that had this number has none any more
  abbrev pub Forgets : List (K × ℕ) → List (K × ℕ) → ℕ → Type 0
  Forgets old new n = (key : K) × (number_in old key ≡ Some n) × Renumbers old new key None
