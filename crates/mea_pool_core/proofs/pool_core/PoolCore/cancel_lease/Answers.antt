use Rattle.std.proofs.Common.{subst, sym, ◌∙◌}
use Rattle.mea_pool_core.specs.Pool.{Pool}
use Rattle.mea_pool_core.specs.Calls.{Belongs, CancelsLease}
use Rattle.mea_pool_core.specs.Parts.{pool_of}
use Rattle.mea_pool_core.proofs.Pools.{cancels, cancel_keeps}
use Rattle.mea_pool_core.proofs.pool_core.PoolCore.cancel_lease.Goals as goal

pub invariant_of-self : goal.invariant_of-self
invariant_of-self g c =
    cancel_keeps c.self.inside.shelf c.self.inside.places c.cancel.new.self c.self.inside.gate c.open_if.new.self c.args.wait c.self.invariant c.cancel.ensures
    (λ all shut. c.open_if.ensures.opens (c.are_drained-drained.ensures ∙ all) shut) (λ same. c.open_if.ensures.same (c.are_drained-drained.ensures ∙ same))
    (subst (λ (p : Pool g.row.R.Denot g.row.W.Denot). Belongs p c.args.wait) (sym c.self.view_is) c.requires)

pub returns : goal.returns
returns g c =
    subst (λ (p : Pool g.row.R.Denot g.row.W.Denot). CancelsLease p c.args.wait (pool_of c.self.inside.shelf c.cancel.new.self c.open_if.new.self)) c.self.view_is
    (cancels c.self.inside.shelf c.self.inside.places c.cancel.new.self c.self.inside.gate c.open_if.new.self c.args.wait c.self.invariant c.cancel.ensures
    (λ all shut. c.open_if.ensures.opens (c.are_drained-drained.ensures ∙ all) shut) (λ same. c.open_if.ensures.same (c.are_drained-drained.ensures ∙ same)))
