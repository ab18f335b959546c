use Rattle.std.proofs.Common.{ap, sym, subst, ◌∙◌, arith}
use Rattle.mea_task_core.specs.Machine.{move}
use Rattle.mea_task_core.specs.Turns.{ComesToItsEnd}
use Rattle.mea_task_core.proofs.Plays.{kept_move, finish_is}
use Rattle.mea_task_core.proofs.executor.Executor.finish.Goals as goal

pub invariant_of-self : goal.invariant_of-self
invariant_of-self c =
    let next = subst (λ m. ComesToItsEnd m c.args.task) (sym c.self.view_is) c.requires in
    kept_move _ _ c.self.inside.hall c.self.inside.hall c.self.inside.queue.room _ c.self.invariant
    (finish_is _ c.args.task c.index_mut.result.now c.end.new.self c.index_mut.ensures.value next c.end.ensures) c.self.invariant.quiet c.self.invariant.numbers (omega arith)

pub returns : goal.returns
returns c =
    let next = subst (λ m. ComesToItsEnd m c.args.task) (sym c.self.view_is) c.requires in
    finish_is _ c.args.task c.index_mut.result.now c.end.new.self c.index_mut.ensures.value next c.end.ensures ∙ ap move c.self.view_is
