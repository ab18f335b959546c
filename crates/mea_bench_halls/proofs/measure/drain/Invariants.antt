use Rattle.std.proofs.Common.{◌≡◌, length}
use Rattle.mea_hall.specs.World.{Play}
use Rattle.mea_bench_halls.proofs.measure.drain.Given as goal

-- only wakers are taken
abbrev pub invariant-loop : goal.invariant-loop
invariant-loop l = ◌≡◌ {A = Play} l.hall (record l.fn.hall { wakes = l.hall.wakes })

abbrev pub decreases-loop : goal.decreases-loop
decreases-loop l = length l.hall.wakes
