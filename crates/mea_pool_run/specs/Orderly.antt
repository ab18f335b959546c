-- what each event of a script of a pool keeps to
use Rattle.std.specs.Prelude.{ℕ, ◌≡◌, ◌<◌, ◌≤◌, ◌++◌, ◌⊎◌, true, false, List, [], ◌∷◌, length, map, Some}
use Rattle.std.specs.FinMap.{get}
use Rattle.mea_by_name.specs.NamedQueue.{Waiting}
use Rattle.mea_pool_core.specs.Shelf.{times, slots_of}
use Rattle.mea_script.specs.Events.{HoldsOfScript}
use Rattle.mea_pool_run.specs.declared.event.PoolEvent.{PoolEvent}
use Rattle.mea_pool_run.specs.declared.event.PoolEvent.TheVariants as event
use Rattle.mea_pool_run.specs.PoolByName.{asks, leases, PoolByName, begun, is_drained}
use Rattle.mea_pool_run.specs.Script.{pool_rules}

-- a lease of this slot has the name f
abbrev pub Leases : PoolByName → ℕ → ℕ → Type 0
Leases s slot f = (value : ℕ) × (get s.things f ≡ Some (leases slot value))

-- the slot is on the shelf once, and no lease has it; or it is not there, and the lease of one name has it
abbrev pub IsOnce : PoolByName → ℕ → Type 0
IsOnce s slot =
    ((times slot (slots_of s.shelf) ≡ 1) × ((f : ℕ) → Leases s slot f → ⊥))
    ⊎ ((times slot (slots_of s.shelf) ≡ 0) × ((f : ℕ) × Leases s slot f × ((g : ℕ) → Leases s slot g → g ≡ f)))

-- so it is of each slot, and there are no others
pub record AreOnce (s : PoolByName) : Type 0 where
  pub once : (slot : ℕ) → slot < s.size → IsOnce s slot
  pub idle : (slot : ℕ) → s.size ≤ slot → times slot (slots_of s.shelf) ≡ 0
  pub lent : (slot f : ℕ) → Leases s slot f → slot < s.size

-- the names of those who wait, in their order
abbrev pub names : Waiting → List ℕ
names q = map (λ (e : ℕ × ℕ). e.0) q

-- all of a list stand in another one, in the same order
abbrev pub IsPart : List ℕ → List ℕ → Type 0
IsPart [] ys = Unit {0}
IsPart (x ∷ xs) [] = ⊥
IsPart (x ∷ xs) (y ∷ ys) = ((x ≡ y) × IsPart xs ys) ⊎ IsPart (x ∷ xs) ys

-- places go in the order of first polls: a wait that is granted one was the first of those that waited; one that gets a lease
-- and was not granted a place finds nobody waiting; and who waits after the event waited before, in this order, but for one
-- that is new and stands last
pub record IsInOrder (s : PoolByName) (n : ℕ) (e : PoolEvent) (s' : PoolByName) : Type 0 where
  pub first : (f : ℕ) → get s.things f ≡ Some (asks false) → get s'.things f ≡ Some (asks true) → (w : ℕ) × ((rest : Waiting) × (s.waiting ≡ (f, w) ∷ rest))
  pub nobody : (f w slot : ℕ) → e ≡ event.Poll f w → get s.things f ≡ Some (asks false) → Leases s' slot n → s.waiting ≡ []
  pub line : (new : List ℕ) × (length new ≤ 1) × IsPart (names s'.waiting) (names s.waiting ++ new)

-- a pool that is drained stays so: all is on the shelf, there is no lease, and nobody waits for the end any more
pub record IsDrainedForGood (s s' : PoolByName) : Type 0 where
  pub stays : is_drained s ≡ true → is_drained s' ≡ true
  pub idle : is_drained s' ≡ true → length s'.shelf ≡ s'.size
  pub unlent : is_drained s' ≡ true → (slot f : ℕ) → Leases s' slot f → ⊥
  pub told : is_drained s' ≡ true → s'.drains ≡ []

-- what the event of line n leaves
pub record IsOrderly (s : PoolByName) (n : ℕ) (e : PoolEvent) (s' : PoolByName) : Type 0 where
  pub size : s'.size ≡ s.size
  pub once : AreOnce s'
  pub order : IsInOrder s n e s'
  pub drained : IsDrainedForGood s s'

-- so it is at each event of a script
abbrev pub AreOrderly : ℕ → List ℕ → Type 0
AreOrderly size script = HoldsOfScript (λ s n (e : PoolEvent) s'. IsOrderly s n e s') pool_rules (begun size) script
