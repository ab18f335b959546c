use Rattle.std.proofs.Common.{ap, sym, ◌∙◌}
use Rattle.mea_pool_core.specs.Pool.{Pool, drained}
use Rattle.mea_pool_core.proofs.Pools.{drains, drains_again}
use Rattle.mea_pool_core.proofs.pool_core.PoolCore.drain.Goals as goal

pub returns-then-are_closed : goal.returns-then-are_closed
returns-then-are_closed g c = drains_again c.args.self.now (sym (ap (λ (p : Pool g.row.R.Denot g.row.W.Denot). p.draining) c.self.view_is) ∙ sym c.are_closed.ensures ∙ c.if-are_closed.true)

pub close-requires : goal.close-requires
close-requires g c = sym c.are_closed.ensures ∙ c.if-are_closed.false

pub invariant_of-self : goal.invariant_of-self
invariant_of-self g c =
    (drains c.self.inside.shelf c.self.inside.places c.close.new.self c.self.inside.gate c.open_if.new.self c.self.invariant (sym c.are_closed.ensures ∙ c.if-are_closed.false) c.close.ensures
    (λ all shut. c.open_if.ensures.opens (c.are_drained-drained.ensures ∙ all) shut) (λ same. c.open_if.ensures.same (c.are_drained-drained.ensures ∙ same))).are

pub returns : goal.returns
returns g c =
    (drains c.self.inside.shelf c.self.inside.places c.close.new.self c.self.inside.gate c.open_if.new.self c.self.invariant (sym c.are_closed.ensures ∙ c.if-are_closed.false) c.close.ensures
    (λ all shut. c.open_if.ensures.opens (c.are_drained-drained.ensures ∙ all) shut) (λ same. c.open_if.ensures.same (c.are_drained-drained.ensures ∙ same))).is
    ∙ ap (λ (p : Pool g.row.R.Denot g.row.W.Denot). drained p) c.self.view_is
