use Rattle.std.proofs.Common.{arith, rules}
use Rattle.mea_sem_core.proofs.Ones.{ones_no_debt, ones_lacks}
use Rattle.mea_chan_core.proofs.Senders.{wakes_all}
use Rattle.mea_chan_core.proofs.bounded.BoundedCore.close.Goals as goal

pub wake_queue-requires-clause-no_debt : goal.wake_queue-requires-clause-no_debt
wake_queue-requires-clause-no_debt g c = ones_no_debt c.self.inside.waiting.queue c.self.invariant.waiting.ones

pub wake_queue-requires-clause-few : goal.wake_queue-requires-clause-few
wake_queue-requires-clause-few g c = omega (arith, ones_lacks c.self.inside.waiting.queue c.self.invariant.waiting.ones, c.self.invariant.waiting.few)

pub move_wakes-requires : goal.move_wakes-requires
move_wakes-requires g c =
    let stays = wakes_all c.self.inside.waiting c.wake_queue.new.self c.self.invariant.waiting c.wake_queue.ensures.is in
    omega (arith, stays.room, c.self.invariant.room)

pub invariant_of-self : goal.invariant_of-self
invariant_of-self g c =
    let stays = wakes_all c.self.inside.waiting c.wake_queue.new.self c.self.invariant.waiting c.wake_queue.ensures.is in
    search rules
