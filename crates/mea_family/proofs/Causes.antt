-- that there is no cause
use Rattle.std.proofs.Common.{◌≡◌, Bool, true, false, None, refl}
use Rattle.mea_family.specs.Causes.{unknown_unless}

pub known : (b : Bool) → unknown_unless b ≡ None → b ≡ true
known true e = refl
known false e = absurd (cc)
