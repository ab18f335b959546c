-- the numbers of those of a key that were admitted: none, one, or a table of them
use Rattle.std.specs.Prelude.{ℕ, List, [], ◌∷◌}
use Rattle.std.specs.HashMap.{spare}
use Rattle.mea_share_core.specs.declared.admitted.NumberSet.{NumberSet}
use Rattle.mea_share_core.specs.declared.admitted.NumberSet.TheVariants.{Empty, One, Many}

-- the numbers of a set, as a table has them
abbrev pub numbers_of : NumberSet → List (ℕ × Unit {0})
numbers_of Empty = []
numbers_of (One number) = (number, tt) ∷ []
numbers_of (Many table) = table.value.entries

-- how many more can be put there with no memory taken
abbrev pub spare_of : NumberSet → ℕ
spare_of Empty = 1
spare_of (One number) = 0
spare_of (Many table) = spare table.value
