use Rattle.std.proofs.Common.{◌≡◌}
use Rattle.mea_crew_run.specs.Rounds.{GoOn}
use Rattle.mea_crew_run.proofs.worker.rounds_of.Given as goal

-- the receipts so far are those of the rounds so far
abbrev pub invariant-loop-round : goal.invariant-loop-round
invariant-loop-round g l = (l.pass.parts ≡ l.initial.pass.parts) × GoOn l.round l.initial.pass.noted.items l.pass.noted.items
