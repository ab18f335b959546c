-- the semaphores that a task means are there
use Rattle.std.proofs.Common.{◌≡◌, ℕ, Option, Some, subst, length}
use Rattle.std.specs.Global.{Vec}
use Rattle.mea_base.proofs.Maps.{not_both}
use Rattle.mea_task_core.specs.declared.step.Step.{Step}
use Rattle.mea_task_core.specs.declared.faults.AddFault.{AddFault}
use Rattle.mea_task_core.specs.declared.faults.AddFault.TheVariants as faults
use Rattle.mea_task_core.specs.Machine.{Machine}
use Rattle.mea_task_core.specs.Adding.{first_unknown, IsFault}
use Rattle.mea_task_run.specs.Machine.{AreKnown, steps_in}
use Rattle.mea_task_run.proofs.Known.{none_unknown}

pub not_unknown : (m : Machine) (latest : Option (Vec Step)) (steps : Vec Step) (fault : AddFault) (k : ℕ) (back : Vec Step) → latest ≡ Some steps
    → AreKnown (length m.semaphores) (steps_in latest) → fault ≡ faults.Unknown k back → IsFault m steps.items fault → ⊥
not_unknown m latest steps fault k back is known which found =
    not_both (first_unknown m steps.items) k (none_unknown m steps.items (subst (λ l. AreKnown (length m.semaphores) (steps_in l)) is known))
    (subst (λ f. IsFault m steps.items f) which found).0
