-- what the first of a pair has to know
use Rattle.std.specs.Prelude.{◌≡◌, Some}

-- two values of one option are one
pub same_value : {X : Type 0} (x y : X) → Some x ≡ Some y → y ≡ x
same_value x y h = cc
