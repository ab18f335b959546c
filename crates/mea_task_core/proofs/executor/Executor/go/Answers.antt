use Rattle.std.proofs.Common.{ap, sym, subst, ◌∙◌, arith, Some, None}
use Rattle.std.proofs.lemmas.Option.{slice_get_within}
use Rattle.mea_task_core.specs.declared.step.Step.TheVariants.{Take, Give, Yield}
use Rattle.mea_task_core.specs.contracts.executor.Executor.{the_view}
use Rattle.mea_task_core.specs.Task.{future_in}
use Rattle.mea_task_core.specs.Machine.{Machine}
use Rattle.mea_task_core.specs.Turns.{ComesToItsEnd, ComesToYield, ComesToAsk, ComesToPoll, ComesToGive}
use Rattle.mea_task_core.proofs.Moves.{running_there, asks_next, polls_next}
use Rattle.mea_task_core.proofs.Plays.{read_is, comes_to_read, comes_as}
use Rattle.mea_task_core.proofs.executor.Executor.go.Goals as goal

pub index-requires : goal.index-requires
index-requires c =
    let there = running_there (the_view c.self.inside) c.self.invariant.sound c.in-Some.task c.in-Some.is in
    let within = slice_get_within c.self.inside.tasks.items c.in-Some.task there.0 there.1 in
    omega (arith, within, c.self.inside.tasks.ok.0)

pub index-requires-in-Some-Take : goal.index-requires-in-Some-Take
index-requires-in-Some-Take c =
    let there = running_there (the_view c.self.inside) c.self.invariant.sound c.in-Some.task c.in-Some.is in
    let within = slice_get_within c.self.inside.tasks.items c.in-Some.task there.0 there.1 in
    omega (arith, within, c.self.inside.tasks.ok.0)

pub finish-requires : goal.finish-requires
finish-requires c =
    let m : Machine = the_view c.self.inside in
    let there = running_there m c.self.invariant.sound c.in-Some.task c.in-Some.is in
    subst (λ a. ComesToItsEnd a c.in-Some.task) c.self.view_is
    (comes_to_read m c.in-Some.task there.0 c.index.result.now None c.in-Some.is there.1 c.index.ensures (sym c.in-None.is ∙ c.next.ensures))

pub ask-requires : goal.ask-requires
ask-requires c =
    let m : Machine = the_view c.self.inside in
    let there = running_there m c.self.invariant.sound c.in-Some.task c.in-Some.is in
    let next = comes_to_read m c.in-Some.task there.0 c.index.result.now (Some (Take c.in-Some-Take.semaphore c.in-Some-Take.demand)) c.in-Some.is there.1 c.index.ensures
    (sym (c.in-Some-Take.is ∙ ap (λ s. Some s) c.in-Some-Take.field-0-is) ∙ c.next.ensures) in
    subst (λ a. ComesToAsk a c.in-Some.task c.in-Some-Take.semaphore c.in-Some-Take.demand) c.self.view_is
    (comes_as m c.in-Some.task _ _ _ next (λ y at. asks_next m c.in-Some.task y c.self.invariant.sound c.in-Some.is at c.in-Some-Take.semaphore c.in-Some-Take.demand
    (ap (λ x. future_in x.phase) (sym (read_is c.self.inside.tasks.items c.in-Some.task y c.index-in-Some-Take.result.now at c.index-in-Some-Take.ensures)) ∙ sym c.future.ensures ∙ c.in-None-future.is)))

pub poll-requires : goal.poll-requires
poll-requires c =
    let m : Machine = the_view c.self.inside in
    let there = running_there m c.self.invariant.sound c.in-Some.task c.in-Some.is in
    let next = comes_to_read m c.in-Some.task there.0 c.index.result.now (Some (Take c.in-Some-Take.semaphore c.in-Some-Take.demand)) c.in-Some.is there.1 c.index.ensures
    (sym (c.in-Some-Take.is ∙ ap (λ s. Some s) c.in-Some-Take.field-0-is) ∙ c.next.ensures) in
    subst (λ a. ComesToPoll a c.in-Some.task c.in-Some-future.future) c.self.view_is (
      c.in-Some-Take.semaphore,
      c.in-Some-Take.demand,
      comes_as m c.in-Some.task _ _ _ next (λ y at. polls_next m c.in-Some.task y c.self.invariant.sound c.in-Some.is at c.in-Some-Take.semaphore c.in-Some-Take.demand c.in-Some-future.future
          (ap (λ x. future_in x.phase) (sym (read_is c.self.inside.tasks.items c.in-Some.task y c.index-in-Some-Take.result.now at c.index-in-Some-Take.ensures)) ∙ sym c.future.ensures ∙ c.in-Some-future.is)),
    )

pub give-requires : goal.give-requires
give-requires c =
    let m : Machine = the_view c.self.inside in
    let there = running_there m c.self.invariant.sound c.in-Some.task c.in-Some.is in
    subst (λ a. ComesToGive a c.in-Some.task c.in-Some-Give.semaphore c.in-Some-Give.count) c.self.view_is
    (comes_to_read m c.in-Some.task there.0 c.index.result.now (Some (Give c.in-Some-Give.semaphore c.in-Some-Give.count)) c.in-Some.is there.1 c.index.ensures
    (sym (c.in-Some-Give.is ∙ ap (λ s. Some s) c.in-Some-Give.field-0-is) ∙ c.next.ensures))

pub yield_turn-requires : goal.yield_turn-requires
yield_turn-requires c =
    let m : Machine = the_view c.self.inside in
    let there = running_there m c.self.invariant.sound c.in-Some.task c.in-Some.is in
    subst (λ a. ComesToYield a c.in-Some.task) c.self.view_is
    (comes_to_read m c.in-Some.task there.0 c.index.result.now (Some Yield) c.in-Some.is there.1 c.index.ensures
    (sym (c.in-Some-Yield.is ∙ ap (λ s. Some s) c.in-Some-Yield.field-0-is) ∙ c.next.ensures))
