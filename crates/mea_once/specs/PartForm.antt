-- the objects of a part with their futures: as they are kept, as they are seen, and what they keep to
use Rattle.std.specs.Prelude.{ℕ, ◌≡◌, Bool, Option, Some, None}
use Rattle.std.specs.FinMap.{get, len, empty}
use Rattle.mea_by_name.specs.ByName.{Names}
use Rattle.mea_by_name.specs.HallKept.{HallKept}

-- the form of a part: its objects and futures as they are kept, what is seen of each, and the hall of the model that these make
pub record PartForm : Type 1 where
  pub Object : Type 0
  pub Future : Type 0
  pub SeenObject : Type 0
  pub SeenFuture : Type 0
  pub Hall : Type 0
  pub object_seen : Object → SeenObject
  pub future_seen : Future → SeenFuture
  pub hall : Names SeenObject → Names SeenFuture → Hall
  pub objects : Hall → Names SeenObject
  pub futures : Hall → Names SeenFuture
  pub registered : Hall → ℕ
  -- the object of a future, and whether an initialiser is there that is not settled
  pub of : Future → ℕ
  pub seen_of : SeenFuture → ℕ
  pub settles : Option SeenFuture → Bool
  -- what an object keeps to with its own futures, of which it has so many; how many wakers it keeps; and that names in it are below a number
  pub Good : Object → Names Future → Type 0
  pub size : Object → ℕ
  pub keeps : Object → ℕ
  pub Low : Object → ℕ → Type 0
  -- so it is seen
  pub objects_are : (os : Names SeenObject) (fs : Names SeenFuture) → objects (hall os fs) ≡ os
  pub futures_are : (os : Names SeenObject) (fs : Names SeenFuture) → futures (hall os fs) ≡ fs
  pub of_is : (x : Future) → seen_of (future_seen x) ≡ of x
  pub size_is : (e : Object) (fs : Names Future) → Good e fs → size e ≡ len fs

-- what is there, if anything, is of o
abbrev pub IsOf : {X : Type 0} → (X → ℕ) → Option X → ℕ → Type 0
IsOf of None o = Unit {0}
IsOf of (Some y) o = of y ≡ o

abbrev pub of_none : ℕ → ℕ
of_none k = k

-- all objects of a part, with their futures
pub record ArePartKept (K : PartForm) (es : Names K.Object) (fs : Names K.Future) (next : ℕ) : Type 0 where
  pub hall : HallKept K.of of_none (λ e xs ys. K.Good e xs) K.size es fs empty next
  pub low : (o : ℕ) (e : K.Object) → get es o ≡ Some e → K.Low e next
