-- the wakers of those of a key that wait: none, one, or a tree of them
use Rattle.std.specs.Prelude.{ℕ, List, [], ◌∷◌}
use Rattle.mea_share_core.specs.declared.waiters.WakerMap.{WakerMap}
use Rattle.mea_share_core.specs.declared.waiters.WakerMap.TheVariants.{Empty, One, Many}

-- the wakers, as a tree has them
abbrev pub wakers_of : {W : Type 0} → WakerMap W → List (ℕ × W)
wakers_of Empty = []
wakers_of (One number waker) = (number, waker) ∷ []
wakers_of (Many tree) = tree.entries
