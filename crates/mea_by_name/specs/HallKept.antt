-- what a hall keeps to, whose objects are cores and whose things, of two sorts, are each of one object
use Rattle.std.specs.Prelude.{ℕ, ◌≡◌, ◌<◌, ◌≤◌, ◌^◌, Some}
use Rattle.std.specs.FinMap.{get}
use Rattle.mea_by_name.specs.ByName.{Names, own, AreHome}

-- Good says that an object and its own things go together; size bounds its counts
module _ {E X Y : Type 0} (of_first : X → ℕ) (of_second : Y → ℕ) (Good : E → Names X → Names Y → Type 0) (size : E → ℕ) where
  pub record HallKept (es : Names E) (xs : Names X) (ys : Names Y) (next : ℕ) : Type 0 where
    pub each : (o : ℕ) (e : E) → get es o ≡ Some e → Good e (own of_first o xs) (own of_second o ys)
    pub below : (o : ℕ) (e : E) → get es o ≡ Some e → (o < next) × (size e ≤ next)
    pub firsts : AreHome of_first es xs next
    pub seconds : AreHome of_second es ys next
    pub low : next ≤ 2 ^ 64
