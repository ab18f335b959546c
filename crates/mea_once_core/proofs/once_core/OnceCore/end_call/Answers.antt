use Rattle.std.proofs.Common.{subst}
use Rattle.mea_once_core.specs.Once.{Once, EndsCall}
use Rattle.mea_once_core.proofs.Onces.{ends_call}
use Rattle.mea_once_core.proofs.once_core.OnceCore.end_call.Goals as goal

pub returns-clause-ends : goal.returns-clause-ends
returns-clause-ends g c =
    let o : Once g.row.W.Denot = record { cell = c.self.inside.cell; done = c.self.inside.done.count; wakes = c.self.inside.outbox.wakers } in
    subst (λ (s : Once g.row.W.Denot). EndsCall s c.args.call.stage (record { cell = c.settle.new.cell; done = c.settle.new.done.count; wakes = c.settle.new.outbox.wakers })) c.self.view_is
    (ends_call o c.args.call.stage c.end_init.new.self c.settle.new.cell c.settle.new.done c.settle.new.outbox.wakers c.end_init.ensures.ends (c.settle.ensures.cell, c.settle.ensures.done, c.settle.ensures.wakers))
