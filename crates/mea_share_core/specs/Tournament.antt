-- a tournament: each inner node is the lesser of the two below it, and the leaves follow them
use Rattle.std.specs.Prelude.{ℕ, ◌≡◌, ◌≢◌, ◌+◌, ◌*◌, ◌<◌, List, Option, None, get_or, drop}
use Rattle.mea_share_core.specs.declared.rank.Rank.{Rank}
use Rattle.mea_share_core.specs.Rank.{lesser}

-- the node is the lesser of the two below it
abbrev pub IsNode : List (Option Rank) → ℕ → Type 0
IsNode tree k = get_or tree k None ≡ lesser (get_or tree (2 * k) None) (get_or tree (2 * k + 1) None)

abbrev pub IsTree : ℕ → List (Option Rank) → Type 0
IsTree leaves tree = (k : ℕ) → 0 < k → k < leaves → IsNode tree k

-- the same but for one node
abbrev pub IsTreeBut : ℕ → ℕ → List (Option Rank) → Type 0
IsTreeBut but leaves tree = (k : ℕ) → 0 < k → k < leaves → k ≢ but → IsNode tree k

abbrev pub leaves_of : ℕ → List (Option Rank) → List (Option Rank)
leaves_of leaves tree = drop leaves tree
