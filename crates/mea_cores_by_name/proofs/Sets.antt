-- sets of wakers, by numbers and by names
use Rattle.std.proofs.Common.{◌≡◌, ℕ, zero, suc, ◌+◌, ◌<◌, ◌≤◌, ◌==◌, ◌&&◌, ◌||◌, ◌++◌, nat_lt, Bool, true, false, length, map, slice_set, List, [], ◌∷◌, Option, Some, None, refl, ap, sym, ◌∙◌, arith}
use Rattle.std.proofs.lemmas.Bool.{eqb-true, eq-eqb, ne_eqb}
use Rattle.std.proofs.lemmas.Bool.Decides.{nat_tests}
use Rattle.std.proofs.lemmas.List.{length-append}
use Rattle.std.proofs.Math.ListN.{length-set}
use Rattle.std.specs.FinMap.{get, insert, remove}
use Rattle.mea_base.proofs.Maps.{by_put, removed_there}
use Rattle.mea_by_name.specs.ByName.{Names}
use Rattle.mea_by_name.proofs.Own.{insert_same}
use Rattle.mea_sets.specs.declared.place.Place.{Place}
use Rattle.mea_sets.specs.WaitSet.{Registered, is_registered, has_given, index_of, fresh_place, with_waker, slot_after, drained}
use Rattle.mea_by_name.specs.declared.named_waker.NamedWaker.{NamedWaker}
use Rattle.mea_by_name.specs.NamedQueue.{registering, wakers}
use Rattle.mea_cores_by_name.specs.SetLinked.{names_of, set_names, SlotIs, SetLinked, StandsAt, IsAbsent, AreBelow}

-- its waker is replaced where its number says
pub set_there : (ks : List NamedWaker) (i r f w : ℕ) → StandsAt i ks (i + r) f → r < length ks → names_of (slice_set ks r (record { name = f; waker = w })) ≡ registering (names_of ks) f w
set_there [] i r f w stands less = absurd (omega arith)
set_there (k ∷ ks) i zero f w stands less =
    let here : (k.name == f) ≡ true = sym stands.0 ∙ eq-eqb i (i + 0) (omega arith) in
    rw here (λ j. (sym (eqb-true k.name f here) j, w) ∷ names_of ks)
set_there (k ∷ ks) i (suc r) f w stands less =
    let apart : (k.name == f) ≡ false = sym stands.0 ∙ ne_eqb i (i + suc r) (λ same. absurd (omega arith)) in
    rw apart (ap (λ q. (k.name, k.waker) ∷ q) (set_there ks (i + 1) r f w (rw (let e : i + suc r ≡ i + 1 + r = omega arith in e) at stands.1) (omega arith)))

-- where it is not, it comes last
pub set_last : (ks : List NamedWaker) (f w : ℕ) → IsAbsent ks f → names_of (ks ++ (record { name = f; waker = w }) ∷ []) ≡ registering (names_of ks) f w
set_last [] f w absent = refl
set_last (k ∷ ks) f w absent = rw absent.0 (ap (λ q. (k.name, k.waker) ∷ q) (set_last ks f w absent.1))

-- ---- another's place, where the waker at a place changed and its name did not
module _ (f w j g : ℕ) where
  pub stands_set : (ks : List NamedWaker) (i r : ℕ) → StandsAt i ks (i + r) f → r < length ks → StandsAt i ks j g → StandsAt i (slice_set ks r (record { name = f; waker = w })) j g
  stands_set [] i r mine less stands = absurd (omega arith)
  stands_set (k ∷ ks) i zero mine less stands =
      let here : (k.name == f) ≡ true = sym mine.0 ∙ eq-eqb i (i + 0) (omega arith) in
      (stands.0 ∙ ap (λ n. n == g) (eqb-true k.name f here), stands.1)
  stands_set (k ∷ ks) i (suc r) mine less stands = (stands.0, stands_set ks (i + 1) r (rw (let e : i + suc r ≡ i + 1 + r = omega arith in e) at mine.1) (omega arith) stands.1)

  pub absent_set : (ks : List NamedWaker) (i r : ℕ) → StandsAt i ks (i + r) f → r < length ks → IsAbsent ks g → IsAbsent (slice_set ks r (record { name = f; waker = w })) g
  absent_set [] i r mine less absent = absurd (omega arith)
  absent_set (k ∷ ks) i zero mine less absent =
      let here : (k.name == f) ≡ true = sym mine.0 ∙ eq-eqb i (i + 0) (omega arith) in
      (ap (λ n. n == g) (sym (eqb-true k.name f here)) ∙ absent.0, absent.1)
  absent_set (k ∷ ks) i (suc r) mine less absent = (absent.0, absent_set ks (i + 1) r (rw (let e : i + suc r ≡ i + 1 + r = omega arith in e) at mine.1) (omega arith) absent.1)

-- ---- where one more came last
pub stands_push : (ks : List NamedWaker) (k : NamedWaker) (i j g : ℕ) → j < i + length ks → (k.name == g) ≡ false → StandsAt i ks j g → StandsAt i (ks ++ k ∷ []) j g
stands_push [] k i j g less other stands = (ne_eqb i j (λ same. absurd (omega arith)) ∙ sym other, tt)
stands_push (v ∷ ks) k i j g less other stands = (stands.0, stands_push ks k (i + 1) j g (omega arith) other stands.1)

pub stands_last : (ks : List NamedWaker) (k : NamedWaker) (i j f : ℕ) → j ≡ i + length ks → k.name ≡ f → IsAbsent ks f → StandsAt i (ks ++ k ∷ []) j f
stands_last [] k i j f is mine absent = (eq-eqb i j (omega arith) ∙ sym (eq-eqb k.name f mine), tt)
stands_last (v ∷ ks) k i j f is mine absent = (ne_eqb i j (λ same. absurd (omega arith)) ∙ sym absent.0, stands_last ks k (i + 1) j f (omega arith) mine absent.1)

pub absent_push : (ks : List NamedWaker) (k : NamedWaker) (g : ℕ) → (k.name == g) ≡ false → IsAbsent ks g → IsAbsent (ks ++ k ∷ []) g
absent_push [] k g other absent = (other, tt)
absent_push (v ∷ ks) k g other absent = (absent.0, absent_push ks k g other absent.1)

-- ---- names
pub below_absent : (ks : List NamedWaker) (n f : ℕ) → AreBelow ks n → n ≤ f → IsAbsent ks f
below_absent [] n f below later = tt
below_absent (k ∷ ks) n f below later = (ne_eqb k.name f (λ same. absurd (let low = below.0 in omega arith)), below_absent ks n f below.1 later)

pub below_push : (ks : List NamedWaker) (k : NamedWaker) (n : ℕ) → k.name < n → AreBelow ks n → AreBelow (ks ++ k ∷ []) n
below_push [] k n low below = (low, tt)
below_push (v ∷ ks) k n low below = (below.0, below_push ks k n low below.1)

pub below_set : (ks : List NamedWaker) (r n : ℕ) (k : NamedWaker) → k.name < n → AreBelow ks n → AreBelow (slice_set ks r k) n
below_set [] r n k low below = tt
below_set (v ∷ ks) zero n k low below = (low, below.1)
below_set (v ∷ ks) (suc r) n k low below = (below.0, below_set ks r n k low below.1)

-- ---- what a slot says of its set
registered_less : (s : Registered NamedWaker) (slot : Option Place) → is_registered s slot ≡ true → index_of slot < length s.wakers
registered_less s None is = absurd (cc)
registered_less s (Some p) is = grind (arith, nat_tests)

-- sets of one length and of as many drains look alike to a slot
alike : (s : Registered NamedWaker) (ks : List NamedWaker) (slot : Option Place) → length ks ≡ length s.wakers
    → (is_registered (record { wakers = ks; drains = s.drains }) slot ≡ is_registered s slot) × (has_given (record { wakers = ks; drains = s.drains }) slot ≡ has_given s slot)
alike s ks None same = (refl, refl)
alike s ks (Some p) same = (ap (λ n. (p.drains == s.drains) && nat_lt p.index n) same, ap (λ n. nat_lt p.drains s.drains || ((p.drains == s.drains) && nat_lt p.index n)) same)

-- a slot that the set gave, after one more came
after_more : (s : Registered NamedWaker) (k : NamedWaker) (slot : Option Place) → has_given s slot ≡ true
    → (is_registered (record { wakers = s.wakers ++ k ∷ []; drains = s.drains }) slot ≡ is_registered s slot) × (has_given (record { wakers = s.wakers ++ k ∷ []; drains = s.drains }) slot ≡ true)
after_more s k None given = (refl, refl)
after_more s k (Some p) given =
    let more = length-append s.wakers (k ∷ []) in
    (rw more (by_tests p.drains s.drains p.index (length s.wakers) given).0, rw more (by_tests p.drains s.drains p.index (length s.wakers) given).1)
  where
    by_tests : (a b i n : ℕ) → (nat_lt a b || ((a == b) && nat_lt i n)) ≡ true → (((a == b) && nat_lt i (n + 1)) ≡ ((a == b) && nat_lt i n)) × ((nat_lt a b || ((a == b) && nat_lt i (n + 1))) ≡ true)
    by_tests a b i n h = (grind (arith, nat_tests), grind (arith, nat_tests))

-- the number under which one more came
fresh_stands : (s : Registered NamedWaker) (k : NamedWaker)
    → (has_given (record { wakers = s.wakers ++ k ∷ []; drains = s.drains }) (Some (fresh_place s)) ≡ true) × (is_registered (record { wakers = s.wakers ++ k ∷ []; drains = s.drains }) (Some (fresh_place s)) ≡ true)
fresh_stands s k = let more = length-append s.wakers (k ∷ []) in (rw more (by_tests s.drains (length s.wakers)).0, rw more (by_tests s.drains (length s.wakers)).1)
  where
    by_tests : (d n : ℕ) → ((nat_lt d d || ((d == d) && nat_lt n (n + 1))) ≡ true) × (((d == d) && nat_lt n (n + 1)) ≡ true)
    by_tests d n = (grind (arith, nat_tests), grind (arith, nat_tests))

module _ (s : Registered NamedWaker) (slots : Names (Option Place)) (n f w : ℕ) (slot : Option Place) (linked : SetLinked s slots n) (there : get slots f ≡ Some slot) where
  abbrev waker : NamedWaker
  waker = record { name = f; waker = w }

  its : SlotIs s f slot
  its = (linked.each f slot there).1

  pub registered_names : set_names (with_waker s slot waker) ≡ registering (set_names s) f w
  registered_names = at (is_registered s slot) refl
    where
      at : (b : Bool) → is_registered s slot ≡ b → set_names (with_waker s slot waker) ≡ registering (set_names s) f w
      at true is = rw is (set_there s.wakers 0 (index_of slot) f w (rw (let e : index_of slot ≡ 0 + index_of slot = omega arith in e) at (its.stands is)) (registered_less s slot is))
      at false is = rw is (set_last s.wakers f w (its.absent is))

  replaced : is_registered s slot ≡ true → SetLinked (record s { wakers = slice_set s.wakers (index_of slot) waker }) slots n
  replaced is =
      let mine = rw (let e : index_of slot ≡ 0 + index_of slot = omega arith in e) at (its.stands is) in
      let less = registered_less s slot is in
      let same = length-set s.wakers (index_of slot) waker in
      record {
        each = λ g other here. (
          (linked.each g other here).0,
          (
              let was = (linked.each g other here).1 in
              let now = alike s (slice_set s.wakers (index_of slot) waker) other same in
              record {
                given = now.1 ∙ was.given;
                stands = λ h. stands_set f w (index_of other) g s.wakers 0 (index_of slot) mine less (was.stands (sym now.0 ∙ h));
                absent = λ h. absent_set f w 0 g s.wakers 0 (index_of slot) mine less (was.absent (sym now.0 ∙ h));
              }),
        );
        below = below_set s.wakers (index_of slot) n waker (linked.each f slot there).0 linked.below;
      }

  appended : is_registered s slot ≡ false → SetLinked (record s { wakers = s.wakers ++ waker ∷ [] }) (insert slots f (Some (fresh_place s))) n
  appended is = record {
    each = by_put slots f (Some (fresh_place s)) (λ g o. (other : Option Place) → o ≡ Some other → (g < n) × SlotIs (record s { wakers = s.wakers ++ waker ∷ [] }) g other)
        (λ other here. let same : Some (fresh_place s) ≡ other = cc in rw (← same) ((linked.each f slot there).0, record { given = (fresh_stands s waker).0; stands = λ h. stands_last s.wakers waker 0 (length s.wakers) f (omega arith) refl (its.absent is); absent = λ h. absurd (let so = (fresh_stands s waker).1 in cc) }))
        (λ g apart other here. (
          (linked.each g other here).0,
          (
              let was = (linked.each g other here).1 in
              let now = after_more s waker other was.given in
              record {
                given = now.1;
                stands = λ h. stands_push s.wakers waker 0 (index_of other) g (omega (arith, registered_less s other (sym now.0 ∙ h))) (ne_eqb f g apart) (was.stands (sym now.0 ∙ h));
                absent = λ h. absent_push s.wakers waker g (ne_eqb f g apart) (was.absent (sym now.0 ∙ h));
              }),
        ));
    below = below_push s.wakers waker n (linked.each f slot there).0 linked.below;
  }

  pub registered_links : SetLinked (with_waker s slot waker) (insert slots f (slot_after s slot)) n
  registered_links = at (is_registered s slot) refl
    where
      at : (b : Bool) → is_registered s slot ≡ b → SetLinked (with_waker s slot waker) (insert slots f (slot_after s slot)) n
      at true is = rw is (rw (insert_same slots f slot there) (replaced is))
      at false is = rw is (appended is)

-- the set is drained
pub drained_links : (s : Registered NamedWaker) (slots : Names (Option Place)) (n : ℕ) → SetLinked s slots n → SetLinked (drained s) slots n
drained_links s slots n linked = record {
  each = λ f slot there. ((linked.each f slot there).0, old slot (linked.each f slot there).1.given f);
  below = tt;
}
  where
    old : (slot : Option Place) → has_given s slot ≡ true → (f : ℕ) → SlotIs (drained s) f slot
    old None given f = record { given = refl; stands = λ h. absurd (cc); absent = λ h. tt }
    old (Some p) given f = record { given = grind (arith, nat_tests); stands = λ h. tt; absent = λ h. tt }

-- a future is made, or gone; its waker stays
pub begun_links : (s : Registered NamedWaker) (slots : Names (Option Place)) (n f : ℕ) → SetLinked s slots n → n ≤ f → SetLinked s (insert slots f None) (f + 1)
begun_links s slots n f linked later = record {
  each = by_put slots f None (λ g o. (slot : Option Place) → o ≡ Some slot → (g < f + 1) × SlotIs s g slot)
      (λ slot here. let same : None ≡ slot = cc in rw (← same) (omega arith, record { given = refl; stands = λ h. absurd (cc); absent = λ h. below_absent s.wakers n f linked.below later }))
      (λ g apart slot here. (omega (arith, (linked.each g slot here).0), (linked.each g slot here).1));
  below = below_more s.wakers linked.below;
}
  where
    below_more : (ks : List NamedWaker) → AreBelow ks n → AreBelow ks (f + 1)
    below_more [] h = tt
    below_more (k ∷ ks) h = (omega (arith, h.0), below_more ks h.1)

pub gone_links : (s : Registered NamedWaker) (slots : Names (Option Place)) (n f : ℕ) → SetLinked s slots n → SetLinked s (remove slots f) n
gone_links s slots n f linked = record { each = λ g slot here. linked.each g slot (removed_there slots f g slot here); below = linked.below }

-- ---- who waits, by name
pub length-set_names : (ks : List NamedWaker) → length (names_of ks) ≡ length ks
length-set_names [] = refl
length-set_names (k ∷ ks) = omega (arith, length-set_names ks)

pub wakers-names : (ks : List NamedWaker) → wakers (names_of ks) ≡ map (λ (k : NamedWaker). k.waker) ks
wakers-names [] = refl
wakers-names (k ∷ ks) = ap (λ ws. k.waker ∷ ws) (wakers-names ks)

-- ---- numbers below n are below what comes later
pub linked_later : (s : Registered NamedWaker) (slots : Names (Option Place)) (n m : ℕ) → SetLinked s slots n → n ≤ m → SetLinked s slots m
linked_later s slots n m linked later = record { each = λ f slot there. (omega (arith, (linked.each f slot there).0, later), (linked.each f slot there).1); below = below_more s.wakers linked.below }
  where
    below_more : (ks : List NamedWaker) → AreBelow ks n → AreBelow ks m
    below_more [] h = tt
    below_more (k ∷ ks) h = (omega (arith, h.0, later), below_more ks h.1)
