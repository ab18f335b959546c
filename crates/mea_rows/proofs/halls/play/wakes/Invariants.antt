use Rattle.std.proofs.Common.{◌≡◌}
use Rattle.mea_rows.proofs.halls.play.wakes.Given as goal

abbrev pub invariant-loop-waker : goal.invariant-loop-waker
invariant-loop-waker g l = g.H.Hall.next l.hall ≡ g.H.Hall.next l.fn.hall
