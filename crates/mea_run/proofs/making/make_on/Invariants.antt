use Rattle.std.proofs.Common.{◌≡◌, ◌+◌, ◌*◌, ◌<◌, ◌≤◌, []}
use Rattle.mea_run.specs.Generated.{script_of}
use Rattle.mea_run.proofs.Played.{IsPlayedTo, left_of}
use Rattle.mea_run.proofs.making.make_on.Given as goal

-- the script is played up to this round
abbrev pub invariant-loop-number : goal.invariant-loop-number
invariant-loop-number l = record {
  played : IsPlayedTo (script_of l.seed l.rounds) (left_of l.state l.number l.rounds) l.hall l.counts.pending l.counts.wakes;
  small : l.state < 2147483648;
  quiet : l.hall.wakes ≡ [];
  events : l.hall.events ≡ 1 + 9 * l.number;
  pending_fits : l.counts.pending ≤ l.hall.events;
  wakes_fit : l.counts.wakes ≤ 4194304 * l.hall.events;
}
