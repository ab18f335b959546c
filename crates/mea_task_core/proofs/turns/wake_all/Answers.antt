use Rattle.std.proofs.Common.{◌≤◌, ◌++◌, [], ◌∷◌, length, ap, sym, subst, ◌∙◌, arith, length-append, append_assoc}
use Rattle.std.proofs.lemmas.List.{length-set}
use Rattle.mea_task_core.specs.Task.{at_phase, woken_phase}
use Rattle.mea_task_core.specs.Machine.{woken}
use Rattle.mea_task_core.specs.Sound.{times}
use Rattle.mea_task_core.proofs.Tasks.{wake_is, first_times, later_times}
use Rattle.mea_task_core.proofs.turns.wake_all.Goals as goal

pub index_mut-requires : goal.index_mut-requires
index_mut-requires c =
    let taken = ap (λ p. p.wakes) c.in-Some.ensures.some in
    let less = c.loop-waker.invariant.there c.in-Some.waker (subst (λ ws. 1 ≤ times c.in-Some.waker ws) (sym taken) (first_times c.in-Some.waker c.next_wake.new.self.wakes)) in
    omega (arith, less, c.loop-waker.tasks.ok.0)

pub loop-waker-preserved : goal.loop-waker-preserved
loop-waker-preserved c =
    let before = c.loop-waker.invariant in
    let taken = ap (λ p. p.wakes) c.in-Some.ensures.some in
    let hall = sym (ap (λ p. p.hall) c.in-Some.ensures.some) ∙ ap (λ p. p.hall) before.hall in
    let number = sym (ap (λ p. p.next) c.in-Some.ensures.some) ∙ ap (λ p. p.next) before.hall in
    let within = before.there c.in-Some.waker (subst (λ ws. 1 ≤ times c.in-Some.waker ws) (sym taken) (first_times c.in-Some.waker c.next_wake.new.self.wakes)) in
    let one = wake_is c.loop-waker.tasks.items c.in-Some.waker c.index_mut.result.now c.wake.new.self within
    (c.wake.ensures ∙ ap (λ z. at_phase z (woken_phase z.phase)) c.index_mut.ensures.value) in
    let pushed = ap (λ q. q.tasks) c.push.ensures in
    record {
      hall = λ i. record { hall = hall i; wakes = c.next_wake.new.self.wakes; next = number i };
      tasks = ap (λ ts. woken ts c.next_wake.new.self.wakes) (sym one) ∙ ap (woken c.loop-waker.tasks.items) (sym taken) ∙ before.tasks;
      queue = ap (λ ts. ts ++ c.next_wake.new.self.wakes) pushed ∙ append_assoc c.loop-waker.queue.tasks (c.in-Some.waker ∷ []) c.next_wake.new.self.wakes ∙ ap (λ ws. c.loop-waker.queue.tasks ++ ws) (sym taken) ∙ before.queue;
      room = ap (λ q. q.room) c.push.ensures ∙ before.room;
      fits = omega (arith, before.fits, ap length taken, ap length pushed, length-append c.loop-waker.queue.tasks (c.in-Some.waker ∷ []), ap (λ q. q.room) c.push.ensures);
      there = λ w some. let less = before.there w (subst (λ ws. 1 ≤ times w ws) (sym taken) (later_times w c.in-Some.waker c.next_wake.new.self.wakes some)) in omega (arith, less, length-set c.loop-waker.tasks.items c.in-Some.waker c.wake.new.self);
    }
