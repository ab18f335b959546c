-- what a `Roomy` stands for
use Rattle.std.specs.Prelude.{ℕ, Option, refl}
use Rattle.std.specs.Coded.{Coded, code_by, coded×, coded_ℕ}
use Rattle.std.specs.FinMap.{insert}
use Rattle.std.specs.HashMap.{HashMap, spare}
use Rattle.mea_by_name.specs.ByName.{Names, names_code, kept}
use Rattle.mea_by_name.specs.Beside.{beside}

-- things by name, and for how many more there is room at the least
pub record Room (X : Type 0) : Type 0 where
  pub things : Names X
  pub spare : ℕ

-- what lets a `Room` be the value of a model
abbrev pub room_code : {X : Type 0} → Coded X → Coded (Room X)
room_code {X} x = code_by (Names X × ℕ) (coded× (names_code x) coded_ℕ) (λ r. (r.things, r.spare)) (λ p. record { things = p.0; spare = p.1 }) (λ _. refl)

-- what a hashed map stands for, and the thing beside it, if there is one
abbrev pub room_of : {X S : Type 0} → ℕ → Option X → HashMap ℕ X S → Room X
room_of k one m = record { things = kept (beside k one m.entries); spare = spare m }

-- the same room, with x at the name k
abbrev pub with_thing : {X : Type 0} → Room X → ℕ → X → Room X
with_thing r k x = record r { things = insert r.things k x }
