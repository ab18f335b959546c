use Rattle.std.proofs.Common.{ap, ◌∙◌, arith}
use Rattle.mea_task_core.specs.Machine.{Machine, move}
use Rattle.mea_task_core.proofs.Ends.{polls_fit}
use Rattle.mea_task_core.proofs.Plays.{kept_move, begin_is, rest_is}
use Rattle.mea_task_core.proofs.executor.Executor.begin.Goals as goal

pub overflow_add-self : goal.overflow_add-self
overflow_add-self c = let few = polls_fit _ c.self.invariant.sound in omega (arith, few)

pub invariant_of-self : goal.invariant_of-self
invariant_of-self c =
    let off = ap (λ (m : Machine). m.running) c.self.view_is ∙ c.requires in
    let first = ap (λ q. q.tasks) c.in-Some.ensures.some in
    kept_move _ _ c.self.inside.hall c.self.inside.hall c.self.inside.queue.room _ c.self.invariant (begin_is _ c.in-Some.task _ off first) c.self.invariant.quiet c.self.invariant.numbers
    (let room = ap (λ q. q.room) c.in-Some.ensures.some in omega (arith, room))

pub returns-in-Some : goal.returns-in-Some
returns-in-Some c =
    let off = ap (λ (m : Machine). m.running) c.self.view_is ∙ c.requires in
    let first = ap (λ q. q.tasks) c.in-Some.ensures.some in
    begin_is _ c.in-Some.task _ off first ∙ ap move c.self.view_is

pub returns-in_default : goal.returns-in_default
returns-in_default c =
    let off = ap (λ (m : Machine). m.running) c.self.view_is ∙ c.requires in
    let none = c.in_default.ensures.none in
    rest_is _ c.pop.new.self.tasks off none.0 (ap (λ q. q.tasks) none.1) ∙ ap move c.self.view_is
