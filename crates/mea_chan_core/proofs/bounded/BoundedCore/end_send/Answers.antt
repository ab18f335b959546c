use Rattle.std.proofs.Common.{arith, rules}
use Rattle.mea_chan_core.proofs.Senders.{cancels_keeps}
use Rattle.mea_chan_core.proofs.bounded.BoundedCore.end_send.Goals as goal

pub move_wakes-requires : goal.move_wakes-requires
move_wakes-requires g c =
    let stays = cancels_keeps c.self.inside.waiting c.cancel.new.self c.args.send.acquire c.self.invariant.waiting c.args.send.one (rw (← c.self.view_is) at c.requires) c.cancel.ensures.cancels in
    omega (arith, stays.room, c.self.invariant.room)

pub invariant_of-self : goal.invariant_of-self
invariant_of-self g c =
    let stays = cancels_keeps c.self.inside.waiting c.cancel.new.self c.args.send.acquire c.self.invariant.waiting c.args.send.one (rw (← c.self.view_is) at c.requires) c.cancel.ensures.cancels in
    search rules

pub returns-clause-ends : goal.returns-clause-ends
returns-clause-ends g c = rw (← c.self.view_is) (c.cancel.new.self, c.cancel.ensures.cancels, λ i. record { queued = c.self.inside.messages.items; capacity = c.self.inside.capacity; senders = c.self.inside.senders; ended = c.self.inside.ended; waker = c.self.inside.waker; waiting = c.move_wakes.ensures.taken i; wakes = c.move_wakes.ensures.moved i })
