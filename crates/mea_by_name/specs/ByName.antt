-- finite maps by name: what a `ByName` stands for, the things of one object, and what is seen of them
use Rattle.std.specs.Prelude.{ℕ, ◌≡◌, ◌<◌, ◌==◌, Bool, false, cond, List, Option, Some, None, IsSome}
use Rattle.std.specs.Ordering.{nat_cmp}
use Rattle.std.specs.FinMap.{FinMap, code, entries, get, retain_keys}
use Rattle.std.specs.Coded.{Coded, coded_ℕ}
use Rattle.mea_base.specs.Named.{named}
use Rattle.mea_base.specs.Totals.{total}

-- things by name
abbrev pub Names : Type 0 → Type 0
Names X = FinMap nat_cmp X

-- what lets a map by name be the value of a model
abbrev pub names_code : {X : Type 0} → Coded X → Coded (Names X)
names_code x = code coded_ℕ x

-- the map that a list of entries stands for
abbrev pub kept : {X : Type 0} → List (ℕ × X) → Names X
kept es = named (λ k x. x) es

-- each thing of a map, seen through f
abbrev pub seen : {X Y : Type 0} → (X → Y) → Names X → Names Y
seen f m = named (λ k x. f x) (entries m)

-- how many things pass a test
abbrev pub count : {X : Type 0} → (X → Bool) → Names X → ℕ
count p m = total (λ k x. cond (p x) 1 0) m

module _ {X : Type 0} (owner : X → ℕ) where
  -- whether what stands at a name is of o
  abbrev pub is_of : ℕ → Option X → Bool
  is_of o None = false
  is_of o (Some x) = owner x == o

  -- the things of o
  abbrev pub own : ℕ → Names X → Names X
  own o m = retain_keys m (λ k. is_of o (get m k))

  -- each thing has a name below n, and its owner is there
  pub record AreHome {R : Type 0} (rs : Names R) (xs : Names X) (n : ℕ) : Type 0 where
    pub at : (k : ℕ) (x : X) → get xs k ≡ Some x → (k < n) × IsSome (get rs (owner x))
