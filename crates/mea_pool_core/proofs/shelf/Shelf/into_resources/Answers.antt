use Rattle.std.proofs.Common.{ap, sym, ◌∙◌}
use Rattle.mea_pool_core.specs.Shelf.{Shelf, resources_of}
use Rattle.mea_pool_core.proofs.Shelves.{resources_zip}
use Rattle.mea_pool_core.proofs.shelf.Shelf.into_resources.Goals as goal

pub returns : goal.returns
returns g c = c.into_vec.ensures.items ∙ sym (resources_zip c.self.inside.slots.items c.self.inside.resources.items c.self.invariant.paired) ∙ ap (λ (s : Shelf g.row.R.Denot). resources_of s.idle) c.self.view_is
