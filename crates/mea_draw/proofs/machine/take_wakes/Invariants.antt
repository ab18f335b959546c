use Rattle.std.proofs.Common.{◌≡◌, ◌++◌, [], length}
use Rattle.mea_hall.specs.World.{Play}
use Rattle.mea_draw.proofs.machine.take_wakes.Given as goal

-- what was taken and what is still there are what there was
abbrev pub invariant-loop-waker : goal.invariant-loop-waker
invariant-loop-waker l = record {
  rest : ◌≡◌ {A = Play} (record l.hall { wakes = [] }) (record l.fn.hall { wakes = [] });
  taken : l.wakes.items ++ l.hall.wakes ≡ l.fn.hall.wakes;
}

abbrev pub decreases-loop-waker : goal.decreases-loop-waker
decreases-loop-waker l = length l.hall.wakes
