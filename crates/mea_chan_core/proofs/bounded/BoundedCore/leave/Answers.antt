use Rattle.std.proofs.Common.{refl, rules}
use Rattle.mea_chan_core.proofs.Senders.{loses_keeps}
use Rattle.mea_chan_core.proofs.bounded.BoundedCore.leave.Goals as goal

pub invariant_of-self : goal.invariant_of-self
invariant_of-self g c =
    let quiet = loses_keeps c.self.inside.waiting c.lose_acquire.new.self c.args.acquire c.self.invariant.waiting (rw (← c.self.view_is) at c.requires.belongs) c.lose_acquire.ensures.loses in
    search rules

pub returns : goal.returns
returns g c = rw (← c.self.view_is) (c.lose_acquire.new.self, c.lose_acquire.ensures.loses, refl)
