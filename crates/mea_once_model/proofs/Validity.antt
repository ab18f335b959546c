-- what holds of all objects holds at a greater number, and of a cell with the same futures
use Rattle.std.proofs.Common.{◌≡◌, ℕ, ◌≤◌, Some, arith}
use Rattle.std.specs.FinMap.{get}
use Rattle.mea_by_name.specs.ByName.{Names}
use Rattle.mea_once_model.specs.Cells.{Cell, CellFuture, Cells}
use Rattle.mea_once_model.specs.Tables.{Table, KeyFuture, Tables}
use Rattle.mea_once_model.specs.OnceHall.{OnceHall}
use Rattle.mea_once_model.specs.Valid.{IsCell, HasCells, IsTable, HasTables, IsValid}

pub alike : (c : Cell) (fs gs : Names CellFuture) → ((f : ℕ) (x : CellFuture) → get fs f ≡ Some x → get gs f ≡ Some x) → ((f : ℕ) (x : CellFuture) → get gs f ≡ Some x → get fs f ≡ Some x) → IsCell c fs → IsCell c gs
alike c fs gs to back is = record {
  queued = λ f w waits. let x = is.queued f w waits in (x.0, to f x.0 x.1, x.2);
  running = λ f w runs. let x = is.running f w runs in (x.0, to f x.0 x.1, x.2);
  one = λ f g x y there here. is.one f g x y (back f x there) (back g y here);
  taken = λ f x there. is.taken f x (back f x there);
  alone = λ f g x y there here. is.alone f g x y (back f x there) (back g y here);
}

module _ (n m : ℕ) (later : n ≤ m) where
  pub cells_later : (h : Cells) → HasCells h n → HasCells h m
  cells_later h is = record {
    each = is.each;
    below = λ o some. let low = is.below o some in omega (arith, low, later);
    futures = record { at = λ f x there. let home = is.futures.at f x there in (let low = home.0 in omega (arith, low, later), home.1) };
  }

  table_later : (t : Table) (fs : Names KeyFuture) → IsTable t fs n → IsTable t fs m
  table_later t fs is = record { rounds = is.rounds; called = is.called; below = λ q some. let low = is.below q some in omega (arith, low, later) }

  pub tables_later : (h : Tables) → HasTables h n → HasTables h m
  tables_later h is = record {
    valid = is.valid;
    each = λ o t there. table_later t _ (is.each o t there);
    below = λ o some. let low = is.below o some in omega (arith, low, later);
    futures = record { at = λ f x there. let home = is.futures.at f x there in (let low = home.0 in omega (arith, low, later), home.1) };
  }

  pub valid_later : (h : OnceHall) → IsValid h n → IsValid h m
  valid_later h is = record { onces = cells_later h.onces is.onces; cells = cells_later h.cells is.cells; maps = tables_later h.maps is.maps; groups = tables_later h.groups is.groups }
