use Rattle.std.proofs.Common.{Bool, Some, None, subst}
use Rattle.mea_pool_core.specs.Pool.{Pool}
use Rattle.mea_pool_core.specs.Places.{TriesPlace}
use Rattle.mea_pool_core.specs.Calls.{TriesLease}
use Rattle.mea_pool_core.specs.Parts.{pool_of}
use Rattle.mea_pool_core.proofs.Polls.{tried_room, tried_got, tried_none}
use Rattle.mea_pool_core.proofs.pool_core.PoolCore.try_lease.Goals as goal

pub lend-requires : goal.lend-requires
lend-requires g c =
    tried_room c.self.inside.shelf c.self.inside.places c.try_take.new.self c.self.inside.gate c.self.invariant
    (subst (λ (b : Bool). TriesPlace c.self.inside.places b c.try_take.new.self) c.if-not-try_take.false c.try_take.ensures)

pub invariant_of-self : goal.invariant_of-self
invariant_of-self g c =
    (tried_none c.self.inside.shelf c.self.inside.places c.try_take.new.self c.self.inside.gate c.self.invariant
    (subst (λ (b : Bool). TriesPlace c.self.inside.places b c.try_take.new.self) c.if-not-try_take.true c.try_take.ensures)).0

pub returns-then-not-try_take : goal.returns-then-not-try_take
returns-then-not-try_take g c =
    subst (λ (p : Pool g.row.R.Denot g.row.W.Denot). TriesLease p None (pool_of c.self.inside.shelf c.try_take.new.self c.self.inside.gate)) c.self.view_is
    (tried_none c.self.inside.shelf c.self.inside.places c.try_take.new.self c.self.inside.gate c.self.invariant
    (subst (λ (b : Bool). TriesPlace c.self.inside.places b c.try_take.new.self) c.if-not-try_take.true c.try_take.ensures)).1

pub invariant_of-self-2 : goal.invariant_of-self-2
invariant_of-self-2 g c =
    (tried_got c.self.inside.shelf c.lend.new.self c.self.inside.places c.try_take.new.self c.self.inside.gate c.lend.result c.self.invariant
    (subst (λ (b : Bool). TriesPlace c.self.inside.places b c.try_take.new.self) c.if-not-try_take.false c.try_take.ensures) c.lend.ensures).0

pub returns : goal.returns
returns g c =
    subst (λ (p : Pool g.row.R.Denot g.row.W.Denot). TriesLease p (Some c.lend.result) (pool_of c.lend.new.self c.try_take.new.self c.self.inside.gate)) c.self.view_is
    (tried_got c.self.inside.shelf c.lend.new.self c.self.inside.places c.try_take.new.self c.self.inside.gate c.lend.result c.self.invariant
    (subst (λ (b : Bool). TriesPlace c.self.inside.places b c.try_take.new.self) c.if-not-try_take.false c.try_take.ensures) c.lend.ensures).1
