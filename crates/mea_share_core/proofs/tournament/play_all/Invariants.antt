use Rattle.std.proofs.Common.{◌≡◌, ℕ, ◌<◌, ◌≤◌, None, get_or}
use Rattle.mea_share_core.specs.Tournament.{IsNode}
use Rattle.mea_share_core.proofs.tournament.play_all.Given as goal

abbrev pub invariant-loop-node : goal.invariant-loop-node
invariant-loop-node l = record {
  played : (k : ℕ) → 0 < k → l.node ≤ k → k < l.leaves → IsNode l.nodes k;
  leaves : (k : ℕ) → l.leaves ≤ k → get_or l.nodes k None ≡ get_or l.fn.nodes k None;
}
