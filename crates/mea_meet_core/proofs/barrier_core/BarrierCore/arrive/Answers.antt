use Rattle.std.proofs.Common.{sym, ◌∙◌}
use Rattle.mea_meet_core.proofs.Barriers.{completes_round, overflows}
use Rattle.mea_meet_core.proofs.barrier_core.BarrierCore.arrive.Goals as goal

pub returns-clause-arrives : goal.returns-clause-arrives
returns-clause-arrives g c =
    let leads = rw (← c.self.view_is) at (sym c.leads.ensures ∙ c.if-not-leads.false) in
    rw (← c.self.view_is) (completes_round c.self.inside.size c.self.inside.round c.self.inside.arrived c.self.inside.waiting c.self.inside.outbox.wakers c.args.waker c.drain_into.new.self c.drain_into.new.out.wakers c.self.invariant.within c.if-self.false leads c.drain_into.ensures.drained c.drain_into.ensures.moved)

pub returns-then-self-clause-arrives : goal.returns-then-self-clause-arrives
returns-then-self-clause-arrives g c =
    let leads = rw (← c.self.view_is) at (sym c.leads.ensures ∙ c.if-not-leads.false) in
    rw (← c.self.view_is) (overflows c.self.inside.size c.self.inside.round c.self.inside.arrived c.self.inside.waiting c.self.inside.outbox.wakers c.args.waker c.args.wait.now c.self.invariant.within c.if-self.true leads c.requires)
