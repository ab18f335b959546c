use Rattle.std.proofs.Common.{arith, rules}
use Rattle.mea_chan_core.proofs.Senders.{makes_way}
use Rattle.mea_chan_core.proofs.bounded.BoundedCore.try_recv.Goals as goal

pub release_if_waiting-requires : goal.release_if_waiting-requires
release_if_waiting-requires g c = omega (arith, c.self.invariant.waiting.few)

pub move_wakes-requires : goal.move_wakes-requires
move_wakes-requires g c =
    let stays = (makes_way c.self.inside.waiting c.release_if_waiting.new.self c.self.invariant.waiting c.release_if_waiting.ensures.waits c.release_if_waiting.ensures.idle).0 in
    omega (arith, stays.room, c.self.invariant.room)

pub invariant_of-self : goal.invariant_of-self
invariant_of-self g c =
    let stays = (makes_way c.self.inside.waiting c.release_if_waiting.new.self c.self.invariant.waiting c.release_if_waiting.ensures.waits c.release_if_waiting.ensures.idle).0 in
    search rules
