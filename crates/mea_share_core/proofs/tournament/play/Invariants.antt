use Rattle.std.proofs.Common.{◌≡◌, ◌<◌, ◌≤◌, ◌*◌, ◌+◌, ◌/◌, ℕ, None, length, get_or, slice_set}
use Rattle.mea_share_core.specs.Tournament.{IsTreeBut}
use Rattle.mea_share_core.proofs.tournament.play.Given as goal

abbrev pub invariant-loop-node : goal.invariant-loop-node
invariant-loop-node l = record {
  size : length l.nodes.items ≡ 2 * l.leaves;
  above : 0 < l.node;
  within : l.node < 2 * l.leaves;
  played : IsTreeBut (l.node / 2) l.leaves l.nodes.items;
  leaves : (k : ℕ) → l.leaves ≤ k → get_or l.nodes.items k None ≡ get_or (slice_set l.fn.nodes.items (l.leaves + l.place) l.fn.rank) k None;
}

abbrev pub decreases-loop-node : goal.decreases-loop-node
decreases-loop-node l = l.node
