use Rattle.std.proofs.Common.{subst, ◌≤◌}
use Rattle.mea_task_core.specs.Machine.{Machine}
use Rattle.mea_task_core.proofs.Ends.{few_polls}
use Rattle.mea_task_core.proofs.executor.Executor.polls.Goals as goal

pub returns-clause-few : goal.returns-clause-few
returns-clause-few c = subst (λ (m : Machine). c.self.inside.polls ≤ m.allowance) c.self.view_is (few_polls _ c.self.invariant.sound)
