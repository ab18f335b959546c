use Rattle.std.proofs.Common.{sym, ◌∙◌}
use Rattle.mea_pool_core.proofs.PlaceCalls.{drained_where_closed, drained_no_more}
use Rattle.mea_pool_core.proofs.places.Places.are_drained.Goals as goal

pub returns-then-is_closed : goal.returns-then-is_closed
returns-then-is_closed g c =
    rw (c.available_permits.ensures.is, c.live.ensures.is)
    (drained_where_closed c.self.inside.permits c.args.self.now c.self.view_is c.self.invariant (sym c.is_closed.ensures.is ∙ c.if-is_closed.true))

pub returns-else-is_closed : goal.returns-else-is_closed
returns-else-is_closed g c = c.if-is_closed.false ∙ drained_no_more c.self.inside.permits c.args.self.now c.self.view_is (sym c.is_closed.ensures.is ∙ c.if-is_closed.false)
