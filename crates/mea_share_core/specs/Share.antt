-- what one key has: its weight, its permits, those of its acquires that were admitted, and those that wait
use Rattle.std.specs.Prelude.{ℕ, ◌+◌, ◌-◌, ◌≤◌, List, [], ◌∷◌, Option, Some, None, IsSome, refl}
use Rattle.std.specs.Coded.{Coded, code_by, coded×, coded_ℕ}
use base.Stored.{coded_unit}
use Rattle.std.specs.Ordering.{nat_cmp}
use Rattle.std.specs.FinMap as map
use Rattle.mea_base.specs.Named.{named}

-- numbers, each with something
abbrev pub Numbers : Type 0 → Type 0
Numbers X = map.FinMap nat_cmp X

-- the map that a list of entries stands for
abbrev pub kept : {X : Type 0} → List (ℕ × X) → Numbers X
kept es = named (λ k x. x) es

-- a number alone, if there is one
abbrev pub lone : Option ℕ → List (ℕ × Unit {0})
lone None = []
lone (Some number) = (number, tt) ∷ []

abbrev pub numbers_code : {X : Type 0} → Coded X → Coded (Numbers X)
numbers_code x = map.code coded_ℕ x

-- numbers, and how many more can be put there with no memory taken
pub record Roomy : Type 0 where
  pub members : Numbers (Unit {0})
  pub spare : ℕ

abbrev pub roomy_code : Coded Roomy
roomy_code =
    code_by
    (Numbers (Unit {0}) × ℕ)
    (coded× (map.code coded_ℕ coded_unit) coded_ℕ)
    (λ r. (r.members, r.spare))
    (λ p. record { members = p.0; spare = p.1 })
    (λ _. refl)

-- the weight of a key, how many of its permits live, the numbers of its acquires that were admitted and not polled ready
-- since, and the waker under the number of each that waits
pub record Share (W : Type 0) : Type 0 where
  pub weight : ℕ
  pub living : ℕ
  pub admitted : Numbers (Unit {0})
  pub waiting : Numbers W

abbrev pub share_code : {W : Type 0} → Coded W → Coded (Share W)
share_code {W} code =
    code_by
    (ℕ × (ℕ × (Numbers (Unit {0}) × Numbers W)))
    (coded× coded_ℕ (coded× coded_ℕ (coded× (map.code coded_ℕ coded_unit) (map.code coded_ℕ code))))
    (λ s. (s.weight, (s.living, (s.admitted, s.waiting))))
    (λ p. record { weight = p.0; living = p.1.0; admitted = p.1.1.0; waiting = p.1.1.1 })
    (λ _. refl)

module _ {W : Type 0} where
  -- a key that was never named
  abbrev pub new_share : Share W
  new_share = record { weight = 1; living = 0; admitted = map.empty; waiting = map.empty }

  -- a key holds its living permits and what was admitted of it
  abbrev pub held_of : Share W → ℕ
  held_of s = s.living + map.len s.admitted

  -- how many wait
  abbrev pub waiting_of : Share W → ℕ
  waiting_of s = map.len s.waiting

  -- the number waits
  abbrev pub IsWaiting : Share W → ℕ → Type 0
  IsWaiting s n = IsSome (map.get s.waiting n)

  -- the number was admitted, and not polled ready since
  abbrev pub IsAdmitted : Share W → ℕ → Type 0
  IsAdmitted s n = IsSome (map.get s.admitted n)

  -- it has a permit more
  abbrev pub taken : Share W → Share W
  taken s = record s { living = s.living + 1 }

  -- the number waits with this waker
  abbrev pub queued : Share W → ℕ → W → Share W
  queued s n w = record s { waiting = map.insert s.waiting n w }

  -- the number waits no more
  abbrev pub left : Share W → ℕ → Share W
  left s n = record s { waiting = map.remove s.waiting n }

  -- the number waits no more, and was admitted
  abbrev pub admitting : Share W → ℕ → Share W
  admitting s n = record s { waiting = map.remove s.waiting n; admitted = map.insert s.admitted n tt }

  -- what was admitted is a living permit
  abbrev pub readied : Share W → ℕ → Share W
  readied s n = record s { living = s.living + 1; admitted = map.remove s.admitted n }

  -- what was admitted is given up
  abbrev pub given_up : Share W → ℕ → Share W
  given_up s n = record s { admitted = map.remove s.admitted n }

  -- it has a permit less
  abbrev pub released : Share W → Share W
  released s = record s { living = s.living - 1 }

  abbrev pub weighing : Share W → ℕ → Share W
  weighing s weight = record s { weight = weight }

  -- the first number that waits
  pub record IsOldest (s : Share W) (n : ℕ) : Type 0 where
    pub waits : IsWaiting s n
    pub oldest : (m : ℕ) → IsWaiting s m → n ≤ m
