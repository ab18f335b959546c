-- a thing that stands beside a list of entries, under a name of its own
use Rattle.std.specs.Prelude.{ℕ, ◌≡◌, nat_eq, ◌&&◌, Bool, false, not, List, ◌∷◌, Option, Some, None, IsSome, is_some}
use Rattle.mea_base.specs.Named.{at}

-- the entries with the thing before them, if there is one
abbrev pub beside : {X : Type 0} → ℕ → Option X → List (ℕ × X) → List (ℕ × X)
beside k None es = es
beside k (Some x) es = (k, x) ∷ es

-- whether there is such a thing, and q is its name
abbrev pub stands : {X : Type 0} → ℕ → Option X → ℕ → Bool
stands k None q = false
stands k (Some x) q = nat_eq q k

-- whether the thing of name q stands there, or may be put there: nothing does, and the entries have none
abbrev pub may_stand : {X : Type 0} → ℕ → Option X → List (ℕ × X) → ℕ → Bool
may_stand k None es q = not (is_some (at es q))
may_stand k (Some x) es q = nat_eq q k

-- whether the thing of name q stands there, and the entries have none of name p
abbrev pub may_follow : {X : Type 0} → ℕ → Option X → List (ℕ × X) → ℕ → ℕ → Bool
may_follow k one es q p = stands k one q && not (is_some (at es p))

-- no entry has the name of the thing
abbrev pub IsApart : {X : Type 0} → ℕ → Option X → List (ℕ × X) → Type 0
IsApart k one es = IsSome one → at es k ≡ None
