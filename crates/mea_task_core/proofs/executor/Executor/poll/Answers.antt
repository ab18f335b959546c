use Rattle.std.proofs.Common.{◌<◌, sym, subst, ◌∙◌, ap, arith, refl, length}
use Rattle.std.proofs.lemmas.Option.{slice_get_within}
use Rattle.mea_events.specs.declared.sem_event.SemEvent.TheVariants as events
use Rattle.mea_task_core.specs.contracts.executor.Executor.{the_view}
use Rattle.mea_task_core.specs.Machine.{Machine, move}
use Rattle.mea_task_core.specs.Turns.{ComesToPoll}
use Rattle.mea_task_core.proofs.Plays.{HasPlayed, has_played, kept_move, read_is, inside_steps, wait_is, ready_is, wakes_nobody}
use Rattle.mea_task_core.proofs.executor.Executor.poll.Goals as goal
use Rattle.mea_task_core.proofs.executor.Executor.poll.Goals.{In-Ok}

-- the task comes to its poll, and that was played
comes : (c : In-Ok) → ComesToPoll (the_view c.self.inside) c.args.task c.args.future
comes c = subst (λ m. ComesToPoll m c.args.task c.args.future) (sym c.self.view_is) c.requires

event : (c : In-Ok) → HasPlayed (the_view c.self.inside) (events.Poll c.args.future c.args.task) c.in-Ok.answer c.act.new.self
event c = has_played (the_view c.self.inside) c.self.inside.hall c.act.new.self (events.Poll c.args.future c.args.task) c.in-Ok.answer refl c.self.invariant.quiet c.in-Ok.ensures.played

pub invariant_of-self-then-is_pending : goal.invariant_of-self-then-is_pending
invariant_of-self-then-is_pending c =
    let m : Machine = the_view c.self.inside in
    let at = (goal.at.invariant_of-self-then-is_pending c).In-Ok in
    let is = wait_is m c.args.task c.index_mut.result.now c.come_to.new.self c.index_mut.ensures.value c.args.future c.in-Ok.answer c.act.new.self (comes at) (event at) (sym c.is_pending.ensures ∙ c.if-is_pending.true) c.come_to.ensures in
    kept_move m _ c.self.inside.hall c.act.new.self c.self.inside.queue.room _ c.self.invariant is (wakes_nobody m c.args.future c.args.task c.in-Ok.answer c.act.new.self (event at)) (event at).next (omega arith)

pub returns-then-is_pending-clause-ok : goal.returns-then-is_pending-clause-ok
returns-then-is_pending-clause-ok c =
    let m : Machine = the_view c.self.inside in
    let at = (goal.at.returns-then-is_pending-clause-ok c).In-Ok in
    wait_is m c.args.task c.index_mut.result.now c.come_to.new.self c.index_mut.ensures.value c.args.future c.in-Ok.answer c.act.new.self (comes at) (event at) (sym c.is_pending.ensures ∙ c.if-is_pending.true) c.come_to.ensures
    ∙ ap move c.self.view_is

pub index_mut-requires-else-is_pending : goal.index_mut-requires-else-is_pending
index_mut-requires-else-is_pending c =
    let next = (comes (goal.at.index_mut-requires-else-is_pending c).In-Ok).2 in
    omega (arith, slice_get_within c.self.inside.tasks.items c.args.task next.task next.there, c.self.inside.tasks.ok.0)

pub pass-requires : goal.pass-requires
pass-requires c =
    let next = (comes (goal.at.pass-requires c).In-Ok).2 in
    subst (λ z. z.position < length z.steps) (sym (read_is c.self.inside.tasks.items c.args.task next.task c.index_mut-else-is_pending.result.now next.there c.index_mut-else-is_pending.ensures.value))
    (inside_steps next.task _ next.next)

pub invariant_of-self-else-is_pending : goal.invariant_of-self-else-is_pending
invariant_of-self-else-is_pending c =
    let m : Machine = the_view c.self.inside in
    let at = (goal.at.invariant_of-self-else-is_pending c).In-Ok in
    let is = ready_is m c.args.task c.index_mut-else-is_pending.result.now c.pass.new.self c.index_mut-else-is_pending.ensures.value c.args.future c.in-Ok.answer c.act.new.self (comes at) (event at) (sym c.is_pending.ensures ∙ c.if-is_pending.false) c.pass.ensures in
    kept_move m _ c.self.inside.hall c.act.new.self c.self.inside.queue.room _ c.self.invariant is (wakes_nobody m c.args.future c.args.task c.in-Ok.answer c.act.new.self (event at)) (event at).next (omega arith)

pub returns-else-is_pending-clause-ok : goal.returns-else-is_pending-clause-ok
returns-else-is_pending-clause-ok c =
    let m : Machine = the_view c.self.inside in
    let at = (goal.at.returns-else-is_pending-clause-ok c).In-Ok in
    ready_is m c.args.task c.index_mut-else-is_pending.result.now c.pass.new.self c.index_mut-else-is_pending.ensures.value c.args.future c.in-Ok.answer c.act.new.self (comes at) (event at) (sym c.is_pending.ensures ∙ c.if-is_pending.false) c.pass.ensures
    ∙ ap move c.self.view_is
