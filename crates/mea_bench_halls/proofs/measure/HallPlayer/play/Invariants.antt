use Rattle.std.proofs.Common.{◌≡◌}
use Rattle.mea_bench_halls.proofs.measure.HallPlayer.play.Given as goal

-- as many events were played as were gone over
abbrev pub invariant-loop-event : goal.invariant-loop-event
invariant-loop-event l = l.self.events ≡ l.event-index
