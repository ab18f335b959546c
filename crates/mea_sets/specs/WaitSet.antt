-- what a contract sees of a `WaitSet`
use Rattle.std.specs.Prelude.{ℕ, ◌+◌, ◌==◌, List, [], ◌∷◌, ◌++◌, Option, Some, None, Bool, true, false, ◌&&◌, ◌||◌, nat_lt, length, slice_set, if◌then◌else◌, refl}
use Rattle.std.specs.Coded.{Coded, code_by, coded×, coded_ℕ, coded_list}
use Rattle.mea_sets.specs.declared.place.Place.{Place}

-- the registered wakers in the order of their registration, and how often the set was drained; the
-- waker at index i is registered under the number of that many drains and the index i
pub record Registered (W : Type 0) : Type 0 where
  pub wakers : List W
  pub drains : ℕ

-- what lets a `Registered` be the value of a model
abbrev pub registered_code : {W : Type 0} → Coded W → Coded (Registered W)
registered_code {W} code =
    code_by
    (List W × ℕ)
    (coded× (coded_list code) coded_ℕ)
    (λ s. (s.wakers, s.drains))
    (λ p. record { wakers = p.0; drains = p.1 })
    (λ _. refl)

-- the index of the number in a slot
abbrev pub index_of : Option Place → ℕ
index_of None = 0
index_of (Some place) = place.index

module _ {W : Type 0} where
  -- the pairs of a number and a waker whose numbers have these drains, with indices from i on
  abbrev pub pairs_from : ℕ → ℕ → List W → List (Place × W)
  pairs_from drains i [] = []
  pairs_from drains i (w ∷ ws) = (record { drains = drains; index = i }, w) ∷ pairs_from drains (i + 1) ws

  -- each registered waker with its number
  abbrev pub pairs_of : Registered W → List (Place × W)
  pairs_of s = pairs_from s.drains 0 s.wakers

  -- the slot holds the number of a registered waker
  abbrev pub is_registered : Registered W → Option Place → Bool
  is_registered s None = false
  is_registered s (Some place) = (place.drains == s.drains) && nat_lt place.index (length s.wakers)

  -- the slot is empty, or its number is not past the set's own
  abbrev pub has_given : Registered W → Option Place → Bool
  has_given s None = true
  has_given s (Some place) = nat_lt place.drains s.drains || ((place.drains == s.drains) && nat_lt place.index (length s.wakers))

  -- the number that the next waker is registered under
  abbrev pub fresh_place : Registered W → Place
  fresh_place s = record { drains = s.drains; index = length s.wakers }

  -- how many wakers are registered once one is registered under a slot
  abbrev pub length_with : Registered W → Option Place → ℕ
  length_with s slot = if is_registered s slot then length s.wakers else length s.wakers + 1

  -- the set after a waker was registered under a slot
  abbrev pub with_waker : Registered W → Option Place → W → Registered W
  with_waker s slot w =
      if is_registered s slot then record s { wakers = slice_set s.wakers (index_of slot) w } else record s { wakers = s.wakers ++ w ∷ [] }

  -- the slot after that
  abbrev pub slot_after : Registered W → Option Place → Option Place
  slot_after s slot = if is_registered s slot then slot else Some (fresh_place s)

  -- the set after its wakers have left
  abbrev pub drained : Registered W → Registered W
  drained s = record { wakers = []; drains = s.drains + 1 }

-- what registrations and drains make of a set
pub data Follows {W : Type 0} : Registered W → Registered W → Type 0 where
  Stays : (s : Registered W) → Follows s s
  Registers : (s t : Registered W) (slot : Option Place) (w : W) → Follows s t → Follows s (with_waker t slot w)
  Drains : (s t : Registered W) → Follows s t → Follows s (drained t)
