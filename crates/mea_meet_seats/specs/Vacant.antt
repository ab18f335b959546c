-- what a contract sees of `Vacancies`
use Rattle.std.specs.Prelude.{ℕ, List, [], ◌∷◌, refl}
use Rattle.std.specs.Coded.{Coded, code_by, coded×, coded_ℕ, coded_list}

-- the places that were given back, the oldest first, and how many more can be given back with no memory taken
pub record Vacant (P : Type 0) : Type 0 where
  pub places : List P
  pub spare : ℕ

-- what lets a `Vacant` be the value of a model
abbrev pub vacant_code : {P : Type 0} → Coded P → Coded (Vacant P)
vacant_code {P} code =
    code_by
    (List P × ℕ)
    (coded× (coded_list code) coded_ℕ)
    (λ v. (v.places, v.spare))
    (λ p. record { places = p.0; spare = p.1 })
    (λ _. refl)

module _ {P : Type 0} where
  -- the first of the places, or that of a new wait where there is none
  abbrev pub first_or : List P → P → P
  first_or [] new = new
  first_or (place ∷ _) new = place

  -- the places after the first
  abbrev pub others_of : List P → List P
  others_of [] = []
  others_of (_ ∷ places) = places
