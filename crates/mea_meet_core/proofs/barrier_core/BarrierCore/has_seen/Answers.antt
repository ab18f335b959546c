use Rattle.std.proofs.lemmas.Bool.Decides.{nat_tests}
use Rattle.std.proofs.lemmas.Grind.{common_steps}
use Rattle.std.proofs.Common.{arith}
use Rattle.mea_meet_core.proofs.Barriers.{has_seen-within}
use Rattle.mea_meet_core.proofs.barrier_core.BarrierCore.has_seen.Goals as goal

pub returns-then-round-self : goal.returns-then-round-self
returns-then-round-self g c =
    let seen = has_seen-within c.self.inside.size c.self.inside.round c.self.inside.arrived c.self.inside.waiting c.self.inside.outbox.wakers c.args.round c.args.slot.now c.self.invariant.within in
    rw (← c.self.view_is, seen) (grind (arith, nat_tests, common_steps))

pub returns-else-round-self : goal.returns-else-round-self
returns-else-round-self g c =
    let seen = has_seen-within c.self.inside.size c.self.inside.round c.self.inside.arrived c.self.inside.waiting c.self.inside.outbox.wakers c.args.round c.args.slot.now c.self.invariant.within in
    rw (← c.self.view_is, seen) (grind (arith, nat_tests, common_steps))
