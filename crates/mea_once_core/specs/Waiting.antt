-- how many calls wait in the cells of entries
use Rattle.std.specs.Prelude.{◌≡◌, ℕ, List, [], Option, Some, None, length}
use Rattle.std.specs.List.{sum_by}
use Rattle.std.specs.Option.{option_map}
use Rattle.mea_once_core.specs.Links.{Shown, shown, shown_at}
use Rattle.mea_once_core.specs.declared.entry.Entry.{Entry}

module _ {V W : Type 0} where
  abbrev pub waiting_at : Option (Shown V W) → ℕ
  waiting_at None = 0
  waiting_at (Some e) = length e.cell.permit.queue

  -- how many calls wait in all cells together
  abbrev pub waiting_in : List (Option (Entry V W)) → ℕ
  waiting_in slots = sum_by {X = Option (Entry V W)} (λ o. waiting_at (option_map shown o)) slots

  -- no cell keeps a waker that is ready
  abbrev pub AreQuiet : List (Option (Entry V W)) → Type 0
  AreQuiet slots = (n : ℕ) (e : Shown V W) → shown_at slots n ≡ Some e → e.cell.permit.wakes ≡ []
