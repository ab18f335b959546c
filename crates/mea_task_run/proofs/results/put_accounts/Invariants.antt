use Rattle.std.proofs.Common.{◌≡◌, ◌+◌, ◌++◌}
use Rattle.mea_task_core.specs.Machine.{Machine}
use Rattle.mea_task_run.specs.Results.{texts_below, account_text}
use Rattle.mea_task_run.proofs.results.put_accounts.Given as goal

-- the accounts so far are put, and each was an event
abbrev pub invariant-loop-semaphore : goal.invariant-loop-semaphore
invariant-loop-semaphore l = record {
  text : l.text.items ≡ l.fn.text.items ++ texts_below (account_text l.fn.executor) l.semaphore;
  executor : ◌≡◌ {A = Machine} l.executor (record l.fn.executor { events = l.fn.executor.events + l.semaphore });
}
