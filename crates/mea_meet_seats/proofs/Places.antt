-- places stay in a set while wakers are registered
use Rattle.std.proofs.Common.{◌≡◌, ◌≤◌, ◌<◌, ℕ, suc, ◌+◌, Bool, true, false, List, [], ◌∷◌, Option, Some, None, length, get_or, arith, refl, if◌then◌else◌, subst, sym, Result, Ok, Err}
use Rattle.std.proofs.lemmas.Bool.Decides.{nat_tests}
use Rattle.std.proofs.lemmas.Grind.{common_steps}
use Rattle.mea_sets.specs.declared.place.Place.{Place}
use Rattle.mea_sets.specs.WaitSet.{Registered, is_registered, with_waker}
use Rattle.mea_base.specs.declared.no_memory.NoMemory.{NoMemory}
use Rattle.mea_sets.specs.Poll.{Poll}
use Rattle.mea_sets.specs.Countdown.{Count, PollsCount}
use Rattle.mea_meet_seats.specs.Vacant.{first_or, others_of}
use Rattle.mea_meet_seats.specs.Seats.{AllThere}

module _ {S : Type 0} where
  -- a place in the set stays one
  pub stays_registered : (s : Registered S) (slot : Option Place) (w : S) (place : Option Place) → is_registered s place ≡ true
      → is_registered (with_waker s slot w) place ≡ true
  stays_registered s None w None there = there
  stays_registered s (Some slot) w None there = there
  stays_registered s None w (Some place) there = grind (arith, nat_tests, common_steps)
  stays_registered s (Some slot) w (Some place) there = grind (arith, nat_tests, common_steps)

  pub all_stay : (s : Registered S) (slot : Option Place) (w : S) (places : List (Option Place)) → AllThere s places
      → AllThere (with_waker s slot w) places
  all_stay s slot w places all = λ k d l. stays_registered s slot w (get_or places k d) (all k d l)

  -- a waker that is replaced leaves the set as large as it was, and a new one makes it larger by 1
  pub length_replaced : (s : Registered S) (slot : Option Place) (w : S) → is_registered s slot ≡ true
      → length (with_waker s slot w).wakers ≡ length s.wakers
  length_replaced s slot w there = grind (arith, nat_tests, common_steps)

  pub length_appended : (s : Registered S) (slot : Option Place) (w : S) → is_registered s slot ≡ false
      → length (with_waker s slot w).wakers ≡ length s.wakers + 1
  length_appended s slot w gone = grind (arith, nat_tests, common_steps)

  others_there-cons : (s : Registered S) (place : Option Place) (places : List (Option Place)) → AllThere s (place ∷ places) → AllThere s places
  others_there-cons s place places all = λ k d l. all (suc k) d (omega (arith, l))

  -- the places that are left once the first was taken are places in the set
  pub others_there : (s : Registered S) (places : List (Option Place)) (has_place : Bool) → AllThere s places
      → AllThere s (if has_place then places else others_of places)
  others_there s places true all = all
  others_there s [] false all = all
  others_there s (place ∷ places) false all = others_there-cons s place places all

  -- a place that is not in the set is that of a new wait, where no place was given back
  pub found : (s : Registered S) (places : List (Option Place)) (has_place : Bool) (slot at : Option Place) → AllThere s places
      → has_place ≡ is_registered s slot → at ≡ (if has_place then slot else first_or places None) → is_registered s at ≡ false
      → (has_place ≡ false) × (places ≡ [])
  found s places true slot at all is same gone = grind (arith, common_steps)
  found s [] false slot at all is same gone = (refl, refl)
  found s (place ∷ places) false slot at all is same gone = let there = all 0 None (omega arith) in grind (arith, common_steps)

  -- a poll of a wait that was found a place keeps the other places in the set
  pub keeps_there : (c : Count S) (places : List (Option Place)) (has_place : Bool) (at : Option Place) (w : S)
      (result : Result (Poll (Unit {0})) (S × NoMemory)) (c' : Count S) (slot' : Option Place) → 0 < c.number → AllThere c.waiting places
      → PollsCount c at w result c' slot' → AllThere c'.waiting (if has_place then places else others_of places)
  keeps_there c places has_place at w (Ok turn) c' slot' positive all polls =
      subst (λ (d : Count S). AllThere d.waiting (if has_place then places else others_of places)) (sym ((polls.pending positive).1))
      (all_stay c.waiting at w (if has_place then places else others_of places) (others_there c.waiting places has_place all))
  keeps_there c places has_place at w (Err e) c' slot' positive all polls =
      subst (λ (d : Count S). AllThere d.waiting (if has_place then places else others_of places)) (sym ((polls.pending positive).1))
      (others_there c.waiting places has_place all)

  -- and there is room for every place of the set
  pub keeps_room : (c : Count S) (places : List (Option Place)) (has_place : Bool) (slot at : Option Place) (w : S)
      (result : Result (Poll (Unit {0})) (S × NoMemory)) (c' : Count S) (slot' : Option Place) (room : ℕ) → 0 < c.number → AllThere c.waiting places
      → has_place ≡ is_registered c.waiting slot → at ≡ (if has_place then slot else first_or places None)
      → PollsCount c at w result c' slot' → length c.waiting.wakers ≤ room
      → (has_place ≡ false → places ≡ [] → length c.waiting.wakers + 1 ≤ room) → length c'.waiting.wakers ≤ room
  keeps_room c places has_place slot at w (Ok turn) c' slot' room positive all is same polls fits more =
      subst (λ (d : Count S). length d.waiting.wakers ≤ room) (sym ((polls.pending positive).1)) (by_cases (is_registered c.waiting at) refl)
    where
      by_cases : (there : Bool) → is_registered c.waiting at ≡ there → length (with_waker c.waiting at w).wakers ≤ room
      by_cases true there = rw (length_replaced c.waiting at w there) fits
      by_cases false gone = let new = found c.waiting places has_place slot at all is same gone in rw (length_appended c.waiting at w gone) (more new.0 new.1)
  keeps_room c places has_place slot at w (Err e) c' slot' room positive all is same polls fits more =
      subst (λ (d : Count S). length d.waiting.wakers ≤ room) (sym ((polls.pending positive).1)) fits
