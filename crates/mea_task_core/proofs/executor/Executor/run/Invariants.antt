use Rattle.std.proofs.Common.{◌≡◌, ℕ}
use Rattle.mea_task_core.specs.Machine.{Machine, moves, is_at_rest}
use Rattle.mea_task_core.specs.Bounds.{work}
use Rattle.mea_task_core.specs.Sound.{IsSound}
use Rattle.mea_task_core.proofs.executor.Executor.run.Given as goal

-- so far some moves were made
abbrev pub invariant-loop-is_over : goal.invariant-loop-is_over
invariant-loop-is_over l = record {
  sound : IsSound l.fn.self;
  made : (n : ℕ) × (◌≡◌ {A = Machine} l.self (moves n l.fn.self));
  told : l.is_over ≡ is_at_rest l.self;
}

abbrev pub decreases-loop-is_over : goal.decreases-loop-is_over
decreases-loop-is_over l = work l.self
