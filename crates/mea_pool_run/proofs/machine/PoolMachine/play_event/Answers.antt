use Rattle.std.proofs.Common.{◌+◌, ◌∙◌}
use Rattle.mea_pool_run.proofs.Events.{whatever, next_pool, next_stands, next_text, below_as}
use Rattle.mea_pool_run.proofs.machine.PoolMachine.play_event.Goals as goal

pub returns-clause-next : goal.returns-clause-next
returns-clause-next c =
    whatever c.put_pool_reply.result (next_pool _ c.play.new.self.pool c.take_wakes.new.self.pool c.play.new.self.things c.take_wakes.new.self.things _
    c.in_ok-reply.ensures.goes c.in_ok-take_wakes.ensures.things c.in_ok-take_wakes.ensures.pool)

pub returns-clause-stands : goal.returns-clause-stands
returns-clause-stands c =
    whatever c.put_pool_reply.result (next_stands _ c.play.new.self.pool c.take_wakes.new.self.pool c.play.new.self.things c.take_wakes.new.self.things _
    c.in_ok-reply.ensures.goes c.in_ok-take_wakes.ensures.things c.in_ok-take_wakes.ensures.pool)

pub returns-clause-below : goal.returns-clause-below
returns-clause-below c =
    whatever c.put_pool_reply.result (below_as c.play.new.self.things c.take_wakes.new.self.things (c.args.number + 1) c.in_ok-take_wakes.ensures.things c.in_ok-reply.ensures.below)

pub returns-clause-text : goal.returns-clause-text
returns-clause-text c =
    next_text _ c.play.new.self.pool c.play.new.self.things _ c.put_pool_reply.result _ _ c.as_slice.result.now c.in_ok-reply.ensures.goes
    (c.as_slice.ensures.value ∙ c.in_ok-take_wakes.ensures.wakes) c.put_pool_reply.ensures.ok
