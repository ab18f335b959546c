-- one meeting point that counts: what each change of it keeps of its holders, its futures and who is registered
use Rattle.std.proofs.Common.{◌≡◌, ℕ, ◌+◌, ◌-◌, ◌<◌, ◌≤◌, Bool, true, false, cond, [], Some, None, IsSome, refl, ap, sym, ◌∙◌, arith}
use Rattle.std.specs.Ordering.{nat_cmp}
use Rattle.std.specs.FinMap.{get, insert, remove, empty, get-empty}
use Rattle.std.proofs.lemmas.Bool.Decides.{nat_tests}
use Rattle.mea_base.proofs.Maps.{by_put, get-removed_other, removed_there, inside, is_some_of}
use Rattle.mea_base.proofs.Tests.{by_name}
use Rattle.mea_base.proofs.Totals.{total-empty}
use Rattle.mea_by_name.specs.ByName.{Names}
use Rattle.mea_by_name.specs.NamedQueue.{waker_for}
use Rattle.mea_by_name.proofs.Cases.{by_if}
use Rattle.mea_by_name.proofs.Own.{count-new, count-gone}
use Rattle.mea_by_name.proofs.NamedQueues.{registering-other}
use Rattle.mea_meet_model.specs.Count.{Count, ends, decreased, with_waker}
use Rattle.mea_meet_model.specs.Counts.{Point, End, OfSignal, OfMembers, Holder, Wait, New, new_point, count_at, with_count, end_of, borrows, joined, parted}
use Rattle.mea_meet_model.specs.Valid.{IsQuietAtEnd, IsPoint, AreThere}

decreased-quiet : (c : Count) (n : ℕ) → IsQuietAtEnd c → IsQuietAtEnd (decreased c n)
decreased-quiet c n quiet none = by_if (λ q. q ≡ []) (ends c n) _ _ (λ over. refl) (λ goes_on. quiet (let it : c.number ≡ 0 = grind (arith, nat_tests, goes_on, none) in it))

module _ (r : Point) (ws : Names Wait) (hs : Names Holder) (kept : IsPoint r ws hs) where
  pub fewer : (n : ℕ) → IsPoint (record r { signal = decreased r.signal n }) ws hs
  fewer n = record { quiet = at; counted = kept.counted; borrowed = kept.borrowed }
    where
      at : (e : End) → IsQuietAtEnd (count_at e (record r { signal = decreased r.signal n }))
      at OfSignal = decreased-quiet r.signal n (kept.quiet OfSignal)
      at OfMembers = kept.quiet OfMembers

  -- a holder more
  pub joins : (i o : ℕ) (counted : Bool) → get hs i ≡ None → IsPoint (joined r counted) ws (insert hs i (record { point = o; counted = counted }))
  joins i o counted new = record {
    quiet = at;
    counted = let more = count-new hs i (λ (x : Holder). x.counted) (record { point = o; counted = counted }) new in omega (arith, more, number counted, kept.counted);
    borrowed = λ f k x is borrowed. by_put hs i (record { point = o; counted = counted }) (λ q p. IsSome (get hs q) → IsSome p) (λ some. refl) (λ q apart some. some) k (kept.borrowed f k x is borrowed);
  }
    where
      number : (b : Bool) → (joined r b).members.number ≡ r.members.number + cond b 1 0
      number true = refl
      number false = omega arith

      at_members : (b : Bool) → IsQuietAtEnd (joined r b).members
      at_members true = λ none. absurd (omega (arith, none))
      at_members false = kept.quiet OfMembers

      at : (e : End) → IsQuietAtEnd (count_at e (joined r counted))
      at OfSignal = kept.quiet OfSignal
      at OfMembers = at_members counted

  -- and one less, that no future borrows
  pub parts : (k : ℕ) (x : Holder) → get hs k ≡ Some x → ((f : ℕ) (y : Wait) → get ws f ≡ Some y → borrows y.awaits k ≡ true → ⊥) → IsPoint (parted r x.counted) ws (remove hs k)
  parts k x there free = record {
    quiet = at;
    counted = let less = count-gone hs k (λ (x : Holder). x.counted) x there in omega (arith, less, number x.counted, kept.counted);
    borrowed = λ f j y is borrowed. is_some_of (get hs j) (get (remove hs k) j) (sym (get-removed_other hs k j (λ same. free f y is (ap (borrows y.awaits) same ∙ borrowed)))) (kept.borrowed f j y is borrowed);
  }
    where
      number : (b : Bool) → (parted r b).members.number ≡ r.members.number - cond b 1 0
      number true = refl
      number false = omega arith

      at_members : (b : Bool) → IsQuietAtEnd (parted r b).members
      at_members true = decreased-quiet r.members 1 (kept.quiet OfMembers)
      at_members false = kept.quiet OfMembers

      at : (e : End) → IsQuietAtEnd (count_at e (parted r x.counted))
      at OfSignal = kept.quiet OfSignal
      at OfMembers = at_members x.counted

  -- a future more, and one less
  pub begins : (i : ℕ) (x : Wait) → ((k : ℕ) → borrows x.awaits k ≡ true → IsSome (get hs k)) → IsPoint r (insert ws i x) hs
  begins i x lent = record {
    quiet = kept.quiet;
    counted = kept.counted;
    borrowed = λ f k y is borrowed. by_put ws i x (λ f p. p ≡ Some y → IsSome (get hs k)) (λ same. lent k (ap (λ (z : Wait). borrows z.awaits k) (inside same) ∙ borrowed)) (λ f apart was. kept.borrowed f k y was borrowed) f is;
  }

  pub leaves : (f : ℕ) → IsPoint r (remove ws f) hs
  leaves f = record { quiet = kept.quiet; counted = kept.counted; borrowed = λ g k y is borrowed. kept.borrowed g k y (removed_there ws f g y is) borrowed }

  -- a waker is registered at a count that goes on
  pub registers : (e : End) (f w : ℕ) → ((count_at e r).number ≡ 0 → ⊥) → IsPoint (with_count e r (with_waker (count_at e r) f w)) ws hs
  registers OfSignal f w some = record { quiet = at; counted = kept.counted; borrowed = kept.borrowed }
    where
      at : (d : End) → IsQuietAtEnd (count_at d (record r { signal = with_waker r.signal f w }))
      at OfSignal = λ none. absurd (some none)
      at OfMembers = kept.quiet OfMembers
  registers OfMembers f w some = record { quiet = at; counted = kept.counted; borrowed = kept.borrowed }
    where
      at : (d : End) → IsQuietAtEnd (count_at d (record r { members = with_waker r.members f w }))
      at OfSignal = kept.quiet OfSignal
      at OfMembers = λ none. absurd (some none)

-- a new point has its first holder
pub new_kept : (i : ℕ) (new : New) → new.members ≡ cond new.counted 1 0 → IsPoint (new_point new) empty (insert empty i (record { point = i; counted = new.counted }))
new_kept i new fair = record {
  quiet = at;
  counted =
      let more = count-new (empty {X = Holder} {R = nat_cmp}) i (λ (x : Holder). x.counted) (record { point = i; counted = new.counted }) (get-empty nat_cmp i) in
      let none : ◌≡◌ {A = ℕ} _ 0 = total-empty (λ k (x : Holder). cond x.counted 1 0) in
      omega (arith, more, none, fair);
  borrowed = λ f k x is. absurd (let none = get-empty {X = Wait} nat_cmp f in cc);
}
  where
    at : (e : End) → IsQuietAtEnd (count_at e (new_point new))
    at OfSignal = λ none. refl
    at OfMembers = λ none. refl

-- ---- who is registered at a point
module _ (o : ℕ) (r : Point) (ws : Names Wait) (n i : ℕ) (there : AreThere o r ws n) (later : n ≤ i) where
  -- nobody comes, and no future but one of a new name
  pub still : (r' : Point) (ws' : Names Wait) → ((e : End) (f w : ℕ) → waker_for (count_at e r').waiting f ≡ Some w → (v : ℕ) × (waker_for (count_at e r).waiting f ≡ Some v))
      → ((f : ℕ) (x : Wait) → f < n → get ws' f ≡ Some x → get ws f ≡ Some x) → AreThere o r' ws' (i + 1)
  still r' ws' was old = record {
    named = λ e f w is. let had = was e f w is in let low = there.named e f had.0 had.1 in omega (arith, low, later);
    waiting = λ e f w x is has. let had = was e f w is in there.waiting e f had.0 x had.1 (old f x (there.named e f had.0 had.1) has);
  }

  module _ (f w : ℕ) (x : Wait) (future : get ws f ≡ Some x) (mine : x.point ≡ o) (low : f < n) where
    same : (g : ℕ) (y : Wait) → f ≡ g → get ws g ≡ Some y → y ≡ x
    same g y is has = inside (sym has ∙ ap (get ws) (sym is) ∙ future)

    pub comes : (e : End) → end_of x.awaits ≡ e → AreThere o (with_count e r (with_waker (count_at e r) f w)) ws (i + 1)
    comes OfSignal to = record { named = named; waiting = waiting }
      where
        named : (d : End) (g v : ℕ) → waker_for (count_at d (record r { signal = with_waker r.signal f w })).waiting g ≡ Some v → g < i + 1
        named OfMembers g v is = let few = there.named OfMembers g v is in omega (arith, few, later)
        named OfSignal g v is = by_name f g (λ it. omega (arith, it, low, later)) (λ apart. let few = there.named OfSignal g v (sym (registering-other r.signal.waiting f w g apart) ∙ is) in omega (arith, few, later))

        waiting : (d : End) (g v : ℕ) (y : Wait) → waker_for (count_at d (record r { signal = with_waker r.signal f w })).waiting g ≡ Some v → get ws g ≡ Some y → (y.point ≡ o) × (end_of y.awaits ≡ d)
        waiting OfMembers g v y is has = there.waiting OfMembers g v y is has
        waiting OfSignal g v y is has = by_name f g
            (λ it. let alike = same g y it has in (ap (λ (z : Wait). z.point) alike ∙ mine, ap (λ (z : Wait). end_of z.awaits) alike ∙ to))
            (λ apart. there.waiting OfSignal g v y (sym (registering-other r.signal.waiting f w g apart) ∙ is) has)
    comes OfMembers to = record { named = named; waiting = waiting }
      where
        named : (d : End) (g v : ℕ) → waker_for (count_at d (record r { members = with_waker r.members f w })).waiting g ≡ Some v → g < i + 1
        named OfSignal g v is = let few = there.named OfSignal g v is in omega (arith, few, later)
        named OfMembers g v is = by_name f g (λ it. omega (arith, it, low, later)) (λ apart. let few = there.named OfMembers g v (sym (registering-other r.members.waiting f w g apart) ∙ is) in omega (arith, few, later))

        waiting : (d : End) (g v : ℕ) (y : Wait) → waker_for (count_at d (record r { members = with_waker r.members f w })).waiting g ≡ Some v → get ws g ≡ Some y → (y.point ≡ o) × (end_of y.awaits ≡ d)
        waiting OfSignal g v y is has = there.waiting OfSignal g v y is has
        waiting OfMembers g v y is has = by_name f g
            (λ it. let alike = same g y it has in (ap (λ (z : Wait). z.point) alike ∙ mine, ap (λ (z : Wait). end_of z.awaits) alike ∙ to))
            (λ apart. there.waiting OfMembers g v y (sym (registering-other r.members.waiting f w g apart) ∙ is) has)

-- who is registered after a count was taken down was so before
pub decreased-was : (c : Count) (n f w : ℕ) → waker_for (decreased c n).waiting f ≡ Some w → (v : ℕ) × (waker_for c.waiting f ≡ Some v)
decreased-was c n f w = by_if (λ q. waker_for q f ≡ Some w → (v : ℕ) × (waker_for c.waiting f ≡ Some v)) (ends c n) _ _ (λ over is. absurd (cc)) (λ goes_on is. (w, is))

-- a new point has nobody
pub nobody_there : (o : ℕ) (new : New) (ws : Names Wait) (n : ℕ) → AreThere o (new_point new) ws n
nobody_there o new ws n = record { named = λ e f w is. absurd (none e f w is); waiting = λ e f w x is. absurd (none e f w is) }
  where
    none : (e : End) (f w : ℕ) → waker_for (count_at e (new_point new)).waiting f ≡ Some w → ⊥
    none OfSignal f w is = absurd (cc)
    none OfMembers f w is = absurd (cc)
