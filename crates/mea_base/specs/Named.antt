-- finite maps by name, as a `HashMap` whose keys are names stands for them
use Rattle.std.specs.Prelude.{◌≡◌, ℕ, cond, nat_eq, List, map, Option}
use Rattle.std.specs.Ordering.{nat_cmp}
use Rattle.std.specs.Map.{lookup}
use Rattle.std.specs.FinMap.{FinMap, from_entries}

-- what stands at a name among entries
abbrev pub at : {X : Type 0} → List (ℕ × X) → ℕ → Option X
at es q = lookup (nat_eq q) es

-- what the entries have at each name, seen through f, which may read the name
abbrev pub named : {X Y : Type 0} → (ℕ → X → Y) → List (ℕ × X) → FinMap nat_cmp Y
named {X} f es = from_entries {R = nat_cmp} (map (λ (e : ℕ × X). (e.0, f e.0 e.1)) es)

-- at one name there is this now, and every other name has what it had
abbrev pub ChangesAt : {X : Type 0} → List (ℕ × X) → List (ℕ × X) → ℕ → Option X → Type 0
ChangesAt {X} old new k o = (q : ℕ) → at new q ≡ cond (nat_eq k q) o (at old q)
