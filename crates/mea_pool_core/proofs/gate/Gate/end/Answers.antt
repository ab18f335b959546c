use Rattle.std.proofs.Common.{subst, sym}
use Rattle.mea_pool_core.specs.declared.drain_wait.DrainWait.{DrainWait}
use Rattle.mea_pool_core.specs.declared.drain_wait.DrainWait.TheVariants.{Listed}
use Rattle.mea_pool_core.specs.Gate.{Gate, MayEndAt, EndsGate, gate_of}
use Rattle.mea_pool_core.proofs.Gates.{ended, end_keeps}
use Rattle.mea_pool_core.proofs.gate.Gate.end.Goals as goal

pub invariant_of-self : goal.invariant_of-self
invariant_of-self g c =
    let known = subst (λ (h : Gate g.row.W.Denot). MayEndAt h.waiting h.told (Listed c.in-Listed.number)) (sym c.self.view_is) (subst (λ (d : DrainWait). MayEndAt c.args.self.now.waiting c.args.self.now.told d) c.in-Listed.is c.requires) in
    end_keeps c.self.inside.flag c.end_wait.new.lock c.self.inside.waits c.end_wait.new.self c.in-Listed.number c.self.invariant known c.end_wait.ensures.ends.0 c.end_wait.ensures.ends.1

pub returns-in-Listed : goal.returns-in-Listed
returns-in-Listed g c =
    let known = subst (λ (h : Gate g.row.W.Denot). MayEndAt h.waiting h.told (Listed c.in-Listed.number)) (sym c.self.view_is) (subst (λ (d : DrainWait). MayEndAt c.args.self.now.waiting c.args.self.now.told d) c.in-Listed.is c.requires) in
    subst (λ (d : DrainWait). EndsGate c.args.self.now d (gate_of c.end_wait.new.lock c.end_wait.new.self)) (sym c.in-Listed.is)
    (subst (λ (h : Gate g.row.W.Denot). EndsGate h (Listed c.in-Listed.number) (gate_of c.end_wait.new.lock c.end_wait.new.self)) c.self.view_is
    (ended c.self.inside.flag c.end_wait.new.lock c.self.inside.waits c.end_wait.new.self c.in-Listed.number c.self.invariant known c.end_wait.ensures.ends.0 c.end_wait.ensures.ends.1))
