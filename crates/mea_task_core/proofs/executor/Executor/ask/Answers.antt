use Rattle.std.proofs.Common.{ap, sym, subst, ◌∙◌, arith, refl}
use Rattle.std.proofs.lemmas.Option.{slice_get_within}
use Rattle.mea_events.specs.declared.sem_event.SemEvent.TheVariants as events
use Rattle.mea_task_core.specs.contracts.executor.Executor.{the_view}
use Rattle.mea_task_core.specs.Machine.{Machine, name_of, move}
use Rattle.mea_task_core.specs.Turns.{ComesToAsk}
use Rattle.mea_task_core.proofs.Plays.{HasPlayed, played_by, kept_move, ask_is, name_is, takes_known}
use Rattle.mea_task_core.proofs.executor.Executor.ask.Goals as goal
use Rattle.mea_task_core.proofs.executor.Executor.ask.Goals.{In-Ok}

-- the task comes to its take, and the acquire was played
comes : (c : In-Ok) → ComesToAsk (the_view c.self.inside) c.args.task c.args.semaphore c.args.demand
comes c = subst (λ m. ComesToAsk m c.args.task c.args.semaphore c.args.demand) (sym c.self.view_is) c.requires

event : (c : In-Ok) → HasPlayed (the_view c.self.inside) (events.Acqf (name_of (the_view c.self.inside) c.args.semaphore) c.args.demand) c.in-Ok.field-0 c.act.new.self
event c =
    let known = takes_known (the_view c.self.inside) c.args.task c.args.semaphore c.args.demand c.self.invariant.sound (comes c) in
    played_by (the_view c.self.inside) c.self.inside.hall c.act.new.self (λ k. events.Acqf k c.args.demand) c.in-Ok.field-0 c.args.semaphore c.index.result.now refl c.self.invariant.quiet
    (name_is c.self.inside.semaphores.items c.args.semaphore c.index.result.now known c.index.ensures) c.in-Ok.ensures.played

pub index-requires : goal.index-requires
index-requires c =
    let next = subst (λ m. ComesToAsk m c.args.task c.args.semaphore c.args.demand) (sym c.self.view_is) c.requires in
    omega (arith, takes_known (the_view c.self.inside) c.args.task c.args.semaphore c.args.demand c.self.invariant.sound next, c.self.inside.semaphores.ok.0)

pub index_mut-requires : goal.index_mut-requires
index_mut-requires c =
    let next = comes (goal.at.index_mut-requires c).In-Ok in
    omega (arith, slice_get_within c.self.inside.tasks.items c.args.task next.task next.there, c.self.inside.tasks.ok.0)

pub invariant_of-self-2 : goal.invariant_of-self-2
invariant_of-self-2 c =
    let m : Machine = the_view c.self.inside in
    let at = (goal.at.invariant_of-self-2 c).In-Ok in
    let is = ask_is m c.args.task c.index_mut.result.now c.come_to.new.self c.index_mut.ensures.value c.args.semaphore c.args.demand c.in-Ok.field-0 c.act.new.self (comes at) c.come_to.ensures (event at) in
    kept_move m _ c.self.inside.hall c.act.new.self c.self.inside.queue.room _ c.self.invariant is (event at).wakes (event at).next (omega arith)

pub returns-clause-ok : goal.returns-clause-ok
returns-clause-ok c =
    let at = (goal.at.returns-clause-ok c).In-Ok in
    ask_is (the_view c.self.inside) c.args.task c.index_mut.result.now c.come_to.new.self c.index_mut.ensures.value c.args.semaphore c.args.demand c.in-Ok.field-0 c.act.new.self (comes at) c.come_to.ensures (event at)
    ∙ ap move c.self.view_is
