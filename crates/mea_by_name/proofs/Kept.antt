-- what a `HashMap` of names stands for
use borrow.Follows.Closed.{read_of}
use Rattle.std.proofs.Common.{nat_eq, cond, ◌≡◌, ℕ, List, Option, Some, None, false, IsSome, is_some, MutBor, inl, inr, refl, ap, sym, ◌∙◌}
use Rattle.std.specs.Option.{option_copied, option_copied_mut, ghost_name_of}
use Rattle.std.specs.Borrow.{Bor}
use Rattle.std.specs.HashMap.{HashMap, spare}
use Rattle.mea_base.specs.Named.{at, ChangesAt}
use Rattle.mea_base.proofs.NamedMaps.{same_named, kept-at}
use Rattle.mea_by_name.specs.ByName.{kept}
use Rattle.mea_by_name.specs.Beside.{beside, stands}
use Rattle.mea_by_name.specs.Room.{Room, room_of, with_thing}
use Rattle.mea_by_name.proofs.Beside.{other_put}

pub copied_some : {X : Type 0} (o : Option (Bor X)) → IsSome (option_copied o) → IsSome o
copied_some None some = absurd (cc)
copied_some (Some x) some = refl

pub copied_is : {X : Type 0} (o : Option (Bor X)) → is_some o ≡ is_some (option_copied o)
copied_is None = refl
copied_is (Some x) = refl

-- two readings that agree at what was borrowed, if anything was, and else in what is left
pub agree : {X D : Type 0} (o : Option (MutBor X)) (F G : X → D) (v u : D) → (IsSome (option_copied_mut o) → (w : X) → F w ≡ G w) → v ≡ u → read_of (ghost_name_of o) F v ≡ read_of (ghost_name_of o) G u
agree None F G v u there other = ap inr other
agree (Some x) F G v u there other = λ t. inl (x.ghost_name, λ w. there refl w t)

-- entries that answer alike stand for one map, beside the same thing
pub kept_alike : {X : Type 0} (k : ℕ) (one : Option X) (es fs : List (ℕ × X)) → ((q : ℕ) → at fs q ≡ at es q) → kept (beside k one fs) ≡ kept (beside k one es)
kept_alike k one es fs alike = same_named (kept (beside k one fs)) (kept (beside k one es)) (λ q. kept-at (beside k one fs) q ∙ both one q ∙ sym (kept-at (beside k one es) q))
  where
    both : (one : Option _) (q : ℕ) → at (beside k one fs) q ≡ at (beside k one es) q
    both None q = alike q
    both (Some x) q = ap (cond (nat_eq q k) (Some x)) (alike q)

-- a map of which one name was written, beside which a thing of another name stands, with as much room
pub written : {X S : Type 0} (own : ℕ) (one : Option X) (m n : HashMap ℕ X S) (k : ℕ) (w : X) (now : Room X) → stands own one k ≡ false → ChangesAt m.entries n.entries k (Some w) → spare n ≡ spare m
    → room_of own one m ≡ now → room_of own one n ≡ with_thing now k w
written own one m n k w now other changed same is = (λ i. record { things = other_put own one m.entries n.entries k w other changed i; spare = same i }) ∙ ap (λ (r : Room _). with_thing r k w) is
