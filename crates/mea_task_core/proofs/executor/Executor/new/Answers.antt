use Rattle.std.proofs.Common.{ap, sym, subst, arith, length}
use Rattle.mea_task_core.specs.Machine.{new_machine}
use Rattle.mea_task_core.specs.Sound.{IsSound}
use Rattle.mea_task_core.proofs.Ends.{sound_new}
use Rattle.mea_task_core.proofs.executor.Executor.new.Goals as goal

pub invariant_of-result : goal.invariant_of-result
invariant_of-result c =
    let hall = ap (λ p. p.hall) c.new.ensures in
    record {
      sound = subst IsSound (λ i. record { hall = sym hall i; events = 0; semaphores = sym c.new-2.ensures.items i; tasks = sym c.new-3.ensures.items i; queue = sym c.new-4.ensures i; running = new_machine.running; polls = 0; added = 0; allowance = 0 }) sound_new;
      quiet = ap (λ p. p.wakes) c.new.ensures;
      numbers = ap (λ p. p.next) c.new.ensures;
      places = (let none = ap length c.new-3.ensures.items in omega (arith, none));
    }
