use Rattle.std.proofs.Common.{[], ◌∷◌, ◌++◌, set, false, ◌∙◌}
use Rattle.std.specs.Prelude.{zip}
use Rattle.mea_pool_core.proofs.Shelves.{zip_push}
use Rattle.mea_pool_core.proofs.shelf.Shelf.put_back.Goals as goal

pub returns-clause-is : goal.returns-clause-is
returns-clause-is g c =
    let idle = (λ i. zip (c.push_back_reserved.ensures.items i) (c.push_back_reserved-2.ensures.items i))
    ∙ zip_push c.self.inside.slots.items c.self.inside.resources.items c.lease.inside.slot c.lease.inside.resource c.self.invariant.paired
    ∙ (λ i. (c.self.view_is i).idle ++ c.lease.view_is i ∷ []) in
    λ i. record { idle = idle i; lent = set (c.self.view_is i).lent (c.lease.view_is i).0 false }
