use Rattle.std.proofs.Common.{◌≡◌, true, ap, subst, sym, arith, ◌∙◌}
use Rattle.mea_pool_core.specs.Shelf.{is_lent}
use Rattle.mea_pool_core.specs.Pool.{Pool, with_lease}
use Rattle.mea_pool_core.proofs.Pools.{back}
use Rattle.mea_pool_core.proofs.pool_core.PoolCore.put_back.Goals as goal

pub put_back-requires : goal.put_back-requires
put_back-requires g c = subst (λ (p : Pool g.row.R.Denot g.row.W.Denot). is_lent p.lent c.args.lease.0 ≡ true) (sym c.self.view_is) c.requires

pub give_back-requires : goal.give_back-requires
give_back-requires g c = omega (arith, c.self.invariant.held, c.put_back.ensures.fewer)

pub invariant_of-self : goal.invariant_of-self
invariant_of-self g c =
    (back c.self.inside.shelf c.put_back.new.self c.self.inside.places c.give_back.new.self c.self.inside.gate c.open_if.new.self c.args.lease c.self.invariant c.put_back.ensures.is c.put_back.ensures.fewer c.give_back.ensures
    (λ all shut. c.open_if.ensures.opens (c.are_drained-drained.ensures ∙ all) shut) (λ same. c.open_if.ensures.same (c.are_drained-drained.ensures ∙ same))).are

pub returns : goal.returns
returns g c =
    (back c.self.inside.shelf c.put_back.new.self c.self.inside.places c.give_back.new.self c.self.inside.gate c.open_if.new.self c.args.lease c.self.invariant c.put_back.ensures.is c.put_back.ensures.fewer c.give_back.ensures
    (λ all shut. c.open_if.ensures.opens (c.are_drained-drained.ensures ∙ all) shut) (λ same. c.open_if.ensures.same (c.are_drained-drained.ensures ∙ same))).is
    ∙ ap (λ (p : Pool g.row.R.Denot g.row.W.Denot). with_lease p c.args.lease) c.self.view_is
