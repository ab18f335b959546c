use Rattle.std.proofs.Common.{ap, sym, subst, ◌∙◌, arith}
use Rattle.mea_task_core.specs.Machine.{move}
use Rattle.mea_task_core.specs.Turns.{ComesToYield}
use Rattle.mea_task_core.proofs.Plays.{kept_move, yield_is, yield_fits}
use Rattle.mea_task_core.proofs.executor.Executor.yield_turn.Goals as goal

pub push-requires : goal.push-requires
push-requires c =
    let next = subst (λ m. ComesToYield m c.args.task) (sym c.self.view_is) c.requires in
    let less = yield_fits _ c.args.task c.self.invariant.sound next in
    omega (arith, less, c.self.invariant.places)

pub invariant_of-self : goal.invariant_of-self
invariant_of-self c =
    let next = subst (λ m. ComesToYield m c.args.task) (sym c.self.view_is) c.requires in
    kept_move _ _ c.self.inside.hall c.self.inside.hall c.self.inside.queue.room _ c.self.invariant
    (yield_is _ c.args.task c.index_mut.result.now c.pass.new.self c.index_mut.ensures.value c.push.new.self.tasks next c.pass.ensures (ap (λ q. q.tasks) c.push.ensures)) c.self.invariant.quiet c.self.invariant.numbers
    (let room = ap (λ q. q.room) c.push.ensures in omega (arith, room))

pub returns : goal.returns
returns c =
    let next = subst (λ m. ComesToYield m c.args.task) (sym c.self.view_is) c.requires in
    yield_is _ c.args.task c.index_mut.result.now c.pass.new.self c.index_mut.ensures.value c.push.new.self.tasks next c.pass.ensures (ap (λ q. q.tasks) c.push.ensures) ∙ ap move c.self.view_is
