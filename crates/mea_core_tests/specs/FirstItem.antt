-- the first item of a list, as a part
use Rattle.std.specs.Prelude.{◌≡◌, List, [], ◌∷◌, Some, IsSome, length, refl, slice_get, slice_set}
use Rattle.std.specs.Global.{Vec}
use Rattle.std.specs.Vec.{with_item}
use Rattle.std.proofs.Common.{ap, sym, subst, ◌∙◌}
use Rattle.std.proofs.Math.ListN.{length-set}
use Rattle.std.proofs.Math.Nat.{ℕ_set}

-- what was written into the first item is there
pub first_stays : {X : Type 0} (xs : List X) (y : X) → IsSome (slice_get xs 0) → slice_get (slice_set xs 0 y) 0 ≡ Some y
first_stays [] y h = absurd (cc)
first_stays (x ∷ xs) y h = refl

-- two values of one option are one
pub same_value : {X : Type 0} (x y : X) → Some x ≡ Some y → y ≡ x
same_value x y h = cc

-- to write what is the first item changes nothing
set_first : {X : Type 0} (xs : List X) (y : X) → slice_get xs 0 ≡ Some y → slice_set xs 0 y ≡ xs
set_first [] y h = absurd (cc)
set_first (x ∷ xs) y h = ap (λ z. z ∷ xs) (same_value x y h)

-- a vector with its own items is itself
with_items_of : {X : Type 0} (v : Vec X) (ws : List X) → v.items ≡ ws → (len : v.len ≡ length ws)
    → record { ptr = v.ptr; len = v.len; cap = v.cap; alloc = v.alloc; items = ws; ok = (len, v.ok.1); small = v.small } ≡ v
with_items_of {X} v ws same len = subst (λ (us : List X). (l : v.len ≡ length us)
    → ◌≡◌ {A = Vec X} (record { ptr = v.ptr; len = v.len; cap = v.cap; alloc = v.alloc; items = us; ok = (l, v.ok.1); small = v.small }) v) same
    (λ l. ap (λ (k : v.len ≡ length v.items). record { ptr = v.ptr; len = v.len; cap = v.cap; alloc = v.alloc; items = v.items; ok = (k, v.ok.1); small = v.small })
    (ℕ_set v.len (length v.items) l v.ok.0)) len

pub first_rests : {X : Type 0} (v : Vec X) (y : X) → slice_get v.items 0 ≡ Some y → with_item v 0 y ≡ v
first_rests v y h = with_items_of v (slice_set v.items 0 y) (sym (set_first v.items y h)) (v.ok.0 ∙ sym (length-set v.items 0 y))
