-- who is admitted first
use Rattle.std.specs.Prelude.{ℕ, ◌≡◌, ◌*◌, ◌<◌, ◌==◌, ◌&&◌, ◌||◌, Bool, true, false, List, Option, Some, None, IsSome, nat_lt, get_or, length, if◌then◌else◌}
use Rattle.mea_share_core.specs.declared.rank.Rank.{Rank}

-- the first holds less for its weight, by cross products, or as much and its number is less
abbrev pub is_before : Rank → Rank → Bool
is_before a b = nat_lt (a.held * b.weight) (b.held * a.weight) || ((a.held * b.weight == b.held * a.weight) && nat_lt a.sequence b.sequence)

-- the one that is admitted first of two, where there is one
abbrev pub lesser : Option Rank → Option Rank → Option Rank
lesser None b = b
lesser (Some a) None = Some a
lesser (Some a) (Some b) = if is_before b a then Some b else Some a

-- none is admitted before this one
abbrev pub NotBefore : Option Rank → Option Rank → Type 0
NotBefore None r = Unit {0}
NotBefore (Some a) None = false ≡ true
NotBefore (Some a) (Some r) = is_before a r ≡ false

-- one of the list that none of it is before; none where there is none
pub record IsNext (ranks : List (Option Rank)) (r : Option Rank) : Type 0 where
  pub first : (k : ℕ) → k < length ranks → NotBefore (get_or ranks k None) r
  pub there : IsSome r → (k : ℕ) × (k < length ranks) × (get_or ranks k None ≡ r)
