use Rattle.std.proofs.Common.{◌≡◌, ap, sym, subst, ◌∙◌, arith, Some, refl}
use Rattle.std.proofs.lemmas.Option.{slice_get_within}
use Rattle.mea_events.specs.declared.sem_event.SemEvent.TheVariants as events
use Rattle.mea_sem_model.specs.Cause.{cause_of}
use Rattle.mea_task_core.specs.contracts.executor.Executor.{the_view}
use Rattle.mea_task_core.specs.Machine.{move}
use Rattle.mea_task_core.specs.Turns.{release, ComesToGive}
use Rattle.mea_task_core.proofs.Plays.{kept_move, name_is, fail_is, refused_is}
use Rattle.mea_task_core.proofs.Gives.{HasGiven, gives_known, has_given, wakes_fit, wakes_there, giver_there, giver_inside, give_is, give_keeps}
use Rattle.mea_task_core.proofs.executor.Executor.give.Goals as goal
use Rattle.mea_task_core.proofs.executor.Executor.give.Goals.{In-Ok, In-Err}

-- the release, as it was played
gave : (c : In-Ok) → HasGiven (the_view c.self.inside) c.args.task c.args.semaphore c.args.count c.in-Ok.field-0 c.act.new.self
gave c =
    let next = subst (λ m. ComesToGive m c.args.task c.args.semaphore c.args.count) (sym c.self.view_is) c.requires in
    let known = gives_known (the_view c.self.inside) c.args.task c.args.semaphore c.args.count c.self.invariant.sound next in
    has_given (the_view c.self.inside) c.args.task c.args.semaphore c.args.count c.index.result.now c.in-Ok.field-0 c.self.inside.hall c.act.new.self c.self.inside.queue.room refl c.self.invariant next
    (name_is c.self.inside.semaphores.items c.args.semaphore c.index.result.now known c.index.ensures) c.in-Ok.ensures.allowed c.in-Ok.ensures.played

-- and as it was refused
comes : (c : In-Err) → ComesToGive (the_view c.self.inside) c.args.task c.args.semaphore c.args.count
comes c = subst (λ m. ComesToGive m c.args.task c.args.semaphore c.args.count) (sym c.self.view_is) c.requires

refused : (c : In-Err) → cause_of c.self.inside.hall.hall (release (the_view c.self.inside) c.args.semaphore c.args.count) ≡ Some c.in-Err.field-0
refused c =
    let known = gives_known (the_view c.self.inside) c.args.task c.args.semaphore c.args.count c.self.invariant.sound (comes c) in
    subst (λ k. cause_of c.self.inside.hall.hall (events.Release k c.args.count) ≡ Some c.in-Err.field-0) (name_is c.self.inside.semaphores.items c.args.semaphore c.index.result.now known c.index.ensures)
    (refused_is _ c.in-Err.field-0 c.in-Err.ensures.refused (c.in-Err.ensures.no_memory tt))

pub index-requires : goal.index-requires
index-requires c =
    let next = subst (λ m. ComesToGive m c.args.task c.args.semaphore c.args.count) (sym c.self.view_is) c.requires in
    omega (arith, gives_known (the_view c.self.inside) c.args.task c.args.semaphore c.args.count c.self.invariant.sound next, c.self.inside.semaphores.ok.0)

pub wake_all-requires-clause-tasks : goal.wake_all-requires-clause-tasks
wake_all-requires-clause-tasks c = wakes_there (the_view c.self.inside) c.args.task c.args.semaphore c.args.count c.in-Ok.field-0 c.act.new.self (gave (goal.at.wake_all-requires-clause-tasks c).In-Ok)

pub wake_all-requires-clause-room : goal.wake_all-requires-clause-room
wake_all-requires-clause-room c =
    omega (arith, wakes_fit (the_view c.self.inside) c.args.task c.args.semaphore c.args.count c.in-Ok.field-0 c.act.new.self (gave (goal.at.wake_all-requires-clause-room c).In-Ok), c.self.invariant.places)

pub index_mut-requires : goal.index_mut-requires
index_mut-requires c =
    let there = giver_there (the_view c.self.inside) c.args.task c.args.semaphore c.args.count c.in-Ok.field-0 c.act.new.self (gave (goal.at.index_mut-requires c).In-Ok)
    c.wake_all.new.hall c.wake_all.ensures.hall c.wake_all.new.tasks.items c.wake_all.ensures.tasks in
    omega (arith, there, c.wake_all.new.tasks.ok.0)

pub pass-requires : goal.pass-requires
pass-requires c =
    giver_inside (the_view c.self.inside) c.args.task c.args.semaphore c.args.count c.in-Ok.field-0 c.act.new.self (gave (goal.at.pass-requires c).In-Ok)
    c.wake_all.new.hall c.wake_all.ensures.hall c.wake_all.new.tasks.items c.wake_all.ensures.tasks c.index_mut.result.now c.index_mut.ensures.value

pub invariant_of-self : goal.invariant_of-self
invariant_of-self c =
    give_keeps (the_view c.self.inside) c.args.task c.args.semaphore c.args.count c.in-Ok.field-0 c.act.new.self (gave (goal.at.invariant_of-self c).In-Ok)
    c.wake_all.new.hall c.wake_all.ensures.hall c.wake_all.new.tasks.items c.wake_all.ensures.tasks c.index_mut.result.now c.pass.new.self c.index_mut.ensures.value c.pass.ensures
    c.wake_all.new.queue.tasks (ap (λ q. q.tasks) c.wake_all.ensures.queue) c.self.inside.hall c.self.inside.queue.room _ c.self.invariant
    (let room = ap (λ q. q.room) c.wake_all.ensures.queue in omega (arith, room))

pub returns-in-Ok : goal.returns-in-Ok
returns-in-Ok c =
    give_is (the_view c.self.inside) c.args.task c.args.semaphore c.args.count c.in-Ok.field-0 c.act.new.self (gave (goal.at.returns-in-Ok c).In-Ok)
    c.wake_all.new.hall c.wake_all.ensures.hall c.wake_all.new.tasks.items c.wake_all.ensures.tasks c.index_mut.result.now c.pass.new.self c.index_mut.ensures.value c.pass.ensures
    c.wake_all.new.queue.tasks (ap (λ q. q.tasks) c.wake_all.ensures.queue) ∙ ap move c.self.view_is

pub index_mut-requires-in-Err : goal.index_mut-requires-in-Err
index_mut-requires-in-Err c =
    let next = comes (goal.at.index_mut-requires-in-Err c).In-Err in
    omega (arith, slice_get_within c.self.inside.tasks.items c.args.task next.task next.there, c.self.inside.tasks.ok.0)

pub invariant_of-self-in-Err : goal.invariant_of-self-in-Err
invariant_of-self-in-Err c =
    let at = (goal.at.invariant_of-self-in-Err c).In-Err in
    let is = fail_is (the_view c.self.inside) c.args.task c.index_mut-in-Err.result.now c.end.new.self c.index_mut-in-Err.ensures.value c.in-Err.field-0 c.args.semaphore c.args.count c.act.new.self.hall (ap (λ p. p.hall) c.in-Err.ensures.err) (comes at) (refused at) c.end.ensures in
    kept_move (the_view c.self.inside) _ c.self.inside.hall c.act.new.self c.self.inside.queue.room _ c.self.invariant is (ap (λ p. p.wakes) c.in-Err.ensures.err ∙ c.self.invariant.quiet)
    (ap (λ p. p.next) c.in-Err.ensures.err ∙ c.self.invariant.numbers) (omega arith)

pub returns-in-Err : goal.returns-in-Err
returns-in-Err c =
    let at = (goal.at.returns-in-Err c).In-Err in
    fail_is (the_view c.self.inside) c.args.task c.index_mut-in-Err.result.now c.end.new.self c.index_mut-in-Err.ensures.value c.in-Err.field-0 c.args.semaphore c.args.count c.act.new.self.hall (ap (λ p. p.hall) c.in-Err.ensures.err) (comes at) (refused at) c.end.ensures
    ∙ ap move c.self.view_is
