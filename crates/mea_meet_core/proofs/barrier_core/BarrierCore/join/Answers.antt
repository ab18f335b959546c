use Rattle.mea_meet_core.proofs.Barriers.{joins}
use Rattle.mea_meet_core.proofs.barrier_core.BarrierCore.join.Goals as goal

pub returns-in-Ok : goal.returns-in-Ok
returns-in-Ok g c =
    let waits = rw (← c.self.view_is) at c.requires.waits in
    rw (← c.self.view_is) (joins c.self.inside.size c.self.inside.round c.self.inside.arrived c.self.inside.waiting c.self.inside.outbox.wakers c.args.waker c.register_with_room.new.self c.register_with_room.new.slot c.register_with_room.new.out.wakers c.self.invariant.within waits c.in-Ok.ensures.ok.0 c.in-Ok.ensures.ok.1 c.in-Ok.ensures.out.0)
