-- the part of a part
use Rattle.std.specs.Prelude.{◌≡◌, Option, Some, None, IsSome, refl, true, false}
use Rattle.std.proofs.Common.{sym, ◌∙◌, ap, subst}

-- the second part of the first part, where both are there
abbrev pub then_get : {U X : Type 0} → Option U → (U → Option X) → Option X
then_get None second = None
then_get (Some u) second = second u

-- the whole with its first part replaced, where that is there
abbrev pub then_put : {T U : Type 0} → Option U → T → (U → T) → T
then_put None x replaced = x
then_put (Some u) x replaced = replaced u

no_part : false ≡ true → ⊥
no_part e = cc

-- what was written into the second part of a first part is there, where that holds of each of the two
pub then_stays : {T U X : Type 0} (get_first : T → Option U) (put_first : T → U → T) (get_second : U → Option X) (put_second : U → X → U)
    → ((x : T) (u : U) → IsSome (get_first x) → get_first (put_first x u) ≡ Some u)
    → ((u : U) (y : X) → IsSome (get_second u) → get_second (put_second u y) ≡ Some y)
    → (x : T) (y : X) (o : Option U) → get_first x ≡ o → IsSome (then_get o get_second)
    → then_get (get_first (then_put o x (λ u. put_first x (put_second u y)))) get_second ≡ Some y
then_stays get_first put_first get_second put_second first second x y None e h = absurd (no_part h)
then_stays {T} {U} {X} get_first put_first get_second put_second first second x y (Some u) e h =
    let there : IsSome (get_first x) = subst IsSome (sym e) refl in
    ap (λ (o : Option U). then_get o get_second) (first x (put_second u y) there) ∙ second u y h

no_value : {X : Type 0} (y : X) → None ≡ Some y → ⊥
no_value y e = cc

-- to write what is in the second part of a first part changes nothing, where that holds of each of the two
pub then_rests : {T U X : Type 0} (get_first : T → Option U) (put_first : T → U → T) (get_second : U → Option X) (put_second : U → X → U)
    → ((x : T) (u : U) → get_first x ≡ Some u → put_first x u ≡ x) → ((u : U) (y : X) → get_second u ≡ Some y → put_second u y ≡ u)
    → (x : T) (y : X) (o : Option U) → get_first x ≡ o → then_get o get_second ≡ Some y → then_put o x (λ u. put_first x (put_second u y)) ≡ x
then_rests get_first put_first get_second put_second first second x y None e h = absurd (no_value y h)
then_rests get_first put_first get_second put_second first second x y (Some u) e h = ap (put_first x) (second u y h) ∙ first x u e
