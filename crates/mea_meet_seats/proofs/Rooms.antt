-- a set has no more places than waited at one time
use Rattle.std.proofs.Common.{◌≡◌, ◌≤◌, ◌<◌, ℕ, ◌+◌, ◌-◌, Bool, true, false, List, [], ◌∷◌, ◌++◌, Option, length, max, nat_lt, arith, refl, if◌then◌else◌, ap, length-append}
use Rattle.std.proofs.lemmas.Bool.Decides.{nat_tests}
use Rattle.std.proofs.lemmas.Grind.{common_steps}
use Rattle.std.proofs.lemmas.List.Elements.{All-append}
use Rattle.mea_sets.specs.declared.place.Place.{Place}
use Rattle.mea_sets.specs.WaitSet.{Registered, is_registered, with_waker}
use Rattle.mea_meet_seats.specs.declared.seat.Seat.{Seat}
use Rattle.mea_meet_seats.specs.declared.seat.Seat.TheVariants.{Taken, Vacant}
use Rattle.mea_meet_seats.specs.Vacant.{others_of}
use Rattle.mea_meet_seats.specs.Seats.{Seats, AllThere, place_for, seated}
use Rattle.mea_meet_seats.specs.SeatsRuns.{SeatsRuns, Begins, Polls, Ends, Counts, places, taken}
use Rattle.mea_meet_seats.proofs.Places.{all_stay, length_replaced, length_appended, others_there, found}

-- what holds after every run
pub record IsSound {W : Type 0} (s : Seats W) (most : ℕ) : Type 0 where
  pub there : AllThere s.count.waiting s.free
  pub room : places s ≤ most
  pub vacant : length s.free ≤ places s

others_fewer : (ps : List (Option Place)) (b : Bool) → length (if b then ps else others_of ps) ≤ length ps
others_fewer ps true = omega arith
others_fewer [] false = omega arith
others_fewer (p ∷ ps) false = omega arith

none_left : (ps : List (Option Place)) (b : Bool) → b ≡ false → ps ≡ [] → (if b then ps else others_of ps) ≡ []
none_left [] true lacks empty = refl
none_left [] false lacks empty = refl
none_left (p ∷ ps) true lacks empty = cc empty
none_left (p ∷ ps) false lacks empty = cc empty

-- a place in the set is a list of such
only : {S : Type 0} (s : Registered S) (slot : Option Place) → is_registered s slot ≡ true → AllThere s (slot ∷ [])
only s slot there = λ k d l. grind (arith, common_steps)

module _ {W : Type 0} where
  -- after a waker was registered at a place in the set, or at a new one where none was given back
  sound_with : (s : Seats W) (at : Option Place) (rest : List (Option Place)) (seat : Seat W) (most : ℕ) (there : Bool)
      → is_registered s.count.waiting at ≡ there → AllThere s.count.waiting rest → places s ≤ most → length rest ≤ places s
      → (there ≡ false → rest ≡ [])
      → IsSound (record { count = record s.count { waiting = with_waker s.count.waiting at seat }; free = rest })
      (max most (length (with_waker s.count.waiting at seat).wakers - length rest))
  sound_with s at rest seat most true is all room vacant none =
      let same = length_replaced s.count.waiting at seat is in
      record {
        there = all_stay s.count.waiting at seat rest all;
        room = omega (arith, same, room);
        vacant = omega (arith, same, vacant);
      }
  sound_with s at rest seat most false is all room vacant none =
      let more = length_appended s.count.waiting at seat is in
      let empty = ap length (none refl) in
      record {
        there = all_stay s.count.waiting at seat rest all;
        room = omega (arith, more, empty);
        vacant = omega (arith, empty);
      }

  sound_seated : (s : Seats W) (most : ℕ) (slot : Option Place) (w : W) → IsSound s most → IsSound (seated s slot w) (max most (taken (seated s slot w)))
  sound_seated s most slot w sound =
      let has_place = is_registered s.count.waiting slot in
      let rest = if has_place then s.free else others_of s.free in
      let fewer = others_fewer s.free has_place in
      let new = found s.count.waiting s.free has_place slot (place_for s slot) sound.there refl refl in
      sound_with s (place_for s slot) rest (Taken w) most (is_registered s.count.waiting (place_for s slot)) refl
      (others_there s.count.waiting s.free has_place sound.there) sound.room (omega (arith, fewer, sound.vacant))
      (λ gone. none_left s.free has_place (new gone).0 (new gone).1)

  given_back : (s : Seats W) (more : Bool) (most : ℕ) (slot : Option Place) → is_registered s.count.waiting slot ≡ true
      → nat_lt (length s.free) (places s) ≡ more → IsSound s most
      → IsSound (record { count = record s.count { waiting = with_waker s.count.waiting slot Vacant }; free = if more then s.free ++ slot ∷ [] else s.free }) most
  given_back s true most slot there room sound =
      let same = length_replaced s.count.waiting slot Vacant there in
      let fits : length s.free < places s = grind (arith, nat_tests, room) in
      let longer = length-append s.free (slot ∷ []) in
      let all = All-append (λ place. is_registered (with_waker s.count.waiting slot Vacant) place ≡ true) s.free (slot ∷ [])
      (all_stay s.count.waiting slot Vacant s.free sound.there)
      (all_stay s.count.waiting slot Vacant (slot ∷ []) (only s.count.waiting slot there)) in
      record { there = all; room = omega (arith, same, sound.room); vacant = omega (arith, same, fits, longer) }
  given_back s false most slot there room sound =
      let same = length_replaced s.count.waiting slot Vacant there in
      record {
        there = all_stay s.count.waiting slot Vacant s.free sound.there;
        room = omega (arith, same, sound.room);
        vacant = omega (arith, same, sound.vacant);
      }

  sound_vacated : (s : Seats W) (there : Bool) (most : ℕ) (slot : Option Place) → is_registered s.count.waiting slot ≡ there → IsSound s most
      → IsSound
      (record {
        count = record s.count { waiting = if there then with_waker s.count.waiting slot Vacant else s.count.waiting };
        free = if there then (if nat_lt (length s.free) (places s) then s.free ++ slot ∷ [] else s.free) else s.free;
      })
      most
  sound_vacated s true most slot there sound = given_back s (nat_lt (length s.free) (places s)) most slot there refl sound
  sound_vacated s false most slot there sound = record { there = sound.there; room = sound.room; vacant = sound.vacant }

  pub sound_run : (s : Seats W) (most : ℕ) → SeatsRuns s most → IsSound s most
  sound_run _ _ (Begins n) = record { there = λ k d l. grind (arith, l); room = omega arith; vacant = omega arith }
  sound_run _ _ (Polls s most slot w run) = sound_seated s most slot w (sound_run s most run)
  sound_run _ _ (Ends s most slot run) = sound_vacated s (is_registered s.count.waiting slot) most slot refl (sound_run s most run)
  sound_run _ _ (Counts s most n run) = let sound = sound_run s most run in record { there = sound.there; room = sound.room; vacant = sound.vacant }
