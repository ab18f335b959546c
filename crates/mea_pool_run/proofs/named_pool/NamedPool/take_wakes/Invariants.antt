use Rattle.std.proofs.Common.{◌≡◌, ◌++◌, ℕ, [], length}
use Rattle.mea_by_name.specs.declared.named_waker.NamedWaker.{NamedWaker}
use Rattle.mea_pool_core.specs.Pool.{Pool}
use Rattle.mea_pool_run.specs.Kept.{wakers_of}
use Rattle.mea_pool_run.proofs.named_pool.NamedPool.take_wakes.Given as goal

-- what was taken and what is still there are what there was
abbrev pub invariant-loop-named : goal.invariant-loop-named
invariant-loop-named l = record {
  rest : ◌≡◌ {A = Pool ℕ NamedWaker} (record l.self.pool { wakes = [] }) (record l.fn.self.pool { wakes = [] });
  taken : l.wakes.items ++ wakers_of l.self.pool.wakes ≡ wakers_of l.fn.self.pool.wakes;
  things : l.self.things ≡ l.fn.self.things;
}

abbrev pub decreases-loop-named : goal.decreases-loop-named
decreases-loop-named l = length l.self.pool.wakes
