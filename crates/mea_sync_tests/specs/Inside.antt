-- what the inside of an option has to know
use Rattle.std.specs.Prelude.{◌≡◌, Option, Some}

-- to put what is inside an option there is that option
pub same_option : {X : Type 0} (x : Option X) (y : X) → x ≡ Some y → Some y ≡ x
same_option x y h = cc
