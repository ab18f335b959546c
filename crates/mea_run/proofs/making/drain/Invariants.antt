use Rattle.std.proofs.Common.{◌≡◌, ◌+◌, length}
use Rattle.mea_hall.specs.World.{Play}
use Rattle.mea_run.proofs.making.drain.Given as goal

-- those taken and those left are those that were ready
abbrev pub invariant-loop-count : goal.invariant-loop-count
invariant-loop-count l = record {
  hall : ◌≡◌ {A = Play} l.hall (record l.fn.hall { wakes = l.hall.wakes });
  count : l.count + length l.hall.wakes ≡ length l.fn.hall.wakes;
}

abbrev pub decreases-loop-count : goal.decreases-loop-count
decreases-loop-count l = length l.hall.wakes
