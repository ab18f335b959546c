use Rattle.std.proofs.Common.{subst, sym}
use Rattle.mea_pool_core.specs.Pool.{Pool}
use Rattle.mea_pool_core.specs.Calls.{MayEndDrain, EndsDrain}
use Rattle.mea_pool_core.specs.Parts.{pool_of}
use Rattle.mea_pool_core.proofs.Polls.{end_drains, end_drains_keeps}
use Rattle.mea_pool_core.proofs.pool_core.PoolCore.end_drain.Goals as goal

pub end-requires : goal.end-requires
end-requires g c = subst (λ (p : Pool g.row.R.Denot g.row.W.Denot). MayEndDrain p c.args.wait) (sym c.self.view_is) c.requires

pub invariant_of-self : goal.invariant_of-self
invariant_of-self g c = end_drains_keeps c.self.inside.shelf c.self.inside.places c.self.inside.gate c.end.new.self c.args.wait c.self.invariant c.end.ensures

pub returns : goal.returns
returns g c =
    subst (λ (p : Pool g.row.R.Denot g.row.W.Denot). EndsDrain p c.args.wait (pool_of c.self.inside.shelf c.self.inside.places c.end.new.self)) c.self.view_is
    (end_drains c.self.inside.shelf c.self.inside.places c.self.inside.gate c.end.new.self c.args.wait c.self.invariant c.end.ensures)
