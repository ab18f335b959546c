use Rattle.std.proofs.Common.{◌≡◌, ◌++◌, slice_get}
use Rattle.mea_task_core.specs.Settled.{state_at}
use Rattle.mea_task_run.specs.Results.{texts_below, task_text}
use Rattle.mea_task_run.proofs.results.put_tasks.Given as goal

-- the lines so far are put
abbrev pub invariant-loop-task : goal.invariant-loop-task
invariant-loop-task l = l.text.items ≡ l.fn.text.items ++ texts_below (λ t. task_text t (state_at (slice_get l.fn.executor.tasks t))) l.task
