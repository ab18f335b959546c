use Rattle.std.proofs.Common.{◌≡◌, ◌≤◌, take}
use Rattle.mea_crew_run.specs.Crew.{answers}
use Rattle.mea_crew_run.specs.Rounds.{is_held, is_lacking}
use Rattle.mea_crew_run.proofs.running.tally_of.Given as goal

-- the answers of the entries so far are counted
abbrev pub invariant-loop-number : goal.invariant-loop-number
invariant-loop-number l = record {
  some : l.tally.some ≡ answers is_held (take l.number l.recorded.replies);
  none : l.tally.none ≡ answers is_lacking (take l.number l.recorded.replies);
  few_some : l.tally.some ≤ l.number;
  few_none : l.tally.none ≤ l.number;
}
