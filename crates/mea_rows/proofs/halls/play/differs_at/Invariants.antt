use Rattle.std.proofs.Common.{◌≤◌}
use Rattle.mea_rows.proofs.halls.play.differs_at.Given as goal

abbrev pub invariant-loop-number : goal.invariant-loop-number
invariant-loop-number g l = g.H.Hall.next l.hall ≤ l.number
