-- sets of wakers, each known by the name of its future
use Rattle.std.specs.Prelude.{ℕ, ◌≡◌, ◌<◌, ◌+◌, ◌==◌, true, false, List, [], ◌∷◌, Option, Some}
use Rattle.std.specs.FinMap.{get}
use Rattle.mea_by_name.specs.declared.named_waker.NamedWaker.{NamedWaker}
use Rattle.mea_by_name.specs.ByName.{Names}
use Rattle.mea_by_name.specs.NamedQueue.{Waiting}
use Rattle.mea_sets.specs.declared.place.Place.{Place}
use Rattle.mea_sets.specs.WaitSet.{Registered, is_registered, has_given, index_of}

-- wakers, each with the name of who waits
abbrev pub names_of : List NamedWaker → Waiting
names_of [] = []
names_of (k ∷ ks) = (k.name, k.waker) ∷ names_of ks

-- who is registered, in order. The name of a future that has ended stays
abbrev pub set_names : Registered NamedWaker → Waiting
set_names s = names_of s.wakers

-- from place i on, f stands at one place alone
abbrev pub StandsAt : ℕ → List NamedWaker → ℕ → ℕ → Type 0
StandsAt i [] j f = Unit {0}
StandsAt i (k ∷ ks) j f = ((i == j) ≡ (k.name == f)) × StandsAt (i + 1) ks j f

-- f stands at none of them
abbrev pub IsAbsent : List NamedWaker → ℕ → Type 0
IsAbsent [] f = Unit {0}
IsAbsent (k ∷ ks) f = ((k.name == f) ≡ false) × IsAbsent ks f

-- each name is below n
abbrev pub AreBelow : List NamedWaker → ℕ → Type 0
AreBelow [] n = Unit {0}
AreBelow (k ∷ ks) n = (k.name < n) × AreBelow ks n

-- a future's slot is one that the set gave, and shows where its name stands
pub record SlotIs (s : Registered NamedWaker) (f : ℕ) (slot : Option Place) : Type 0 where
  pub given : has_given s slot ≡ true
  pub stands : is_registered s slot ≡ true → StandsAt 0 s.wakers (index_of slot) f
  pub absent : is_registered s slot ≡ false → IsAbsent s.wakers f

-- a set and the slots of the futures that live go together; all names are below n
pub record SetLinked (s : Registered NamedWaker) (slots : Names (Option Place)) (n : ℕ) : Type 0 where
  pub each : (f : ℕ) (slot : Option Place) → get slots f ≡ Some slot → (f < n) × SlotIs s f slot
  pub below : AreBelow s.wakers n
