use Rattle.std.proofs.Common.{length, ap, arith}
use Rattle.mea_pool_core.specs.Shelf.{Shelf, lent_count}
use Rattle.mea_pool_core.proofs.Shelves.{length_zip}
use Rattle.mea_pool_core.proofs.shelf.Shelf.len.Goals as goal

pub returns-clause-count : goal.returns-clause-count
returns-clause-count g c =
    omega (arith, c.len.ensures, c.self.inside.slots.ok, length_zip c.self.inside.slots.items c.self.inside.resources.items c.self.invariant.paired, ap (λ (s : Shelf g.row.R.Denot). length s.idle) c.self.view_is)

pub returns-clause-all : goal.returns-clause-all
returns-clause-all g c =
    omega (
      arith,
      length_zip c.self.inside.slots.items c.self.inside.resources.items c.self.invariant.paired,
      ap (λ (s : Shelf g.row.R.Denot). length s.idle) c.self.view_is,
      ap (λ (s : Shelf g.row.R.Denot). lent_count s.lent) c.self.view_is,
      ap (λ (s : Shelf g.row.R.Denot). length s.lent) c.self.view_is,
      c.self.invariant.counted,
    )
