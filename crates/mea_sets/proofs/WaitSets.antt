-- the numbers of a wait set and its pairs
use Rattle.std.proofs.Common.{◌≡◌, ◌≢◌, ℕ, zero, suc, ◌+◌, true, false, List, [], ◌∷◌, ◌++◌, Option, Some, None, length, slice_set, arith, refl, ap, ◌∙◌, subst}
use Rattle.std.proofs.lemmas.Bool.Decides.{nat_tests}
use Rattle.std.proofs.lemmas.Grind.{common_steps}
use Rattle.mea_sets.specs.declared.place.Place.{Place}
use Rattle.mea_sets.specs.WaitSet.{Registered, Follows, Stays, Registers, Drains, pairs_from, pairs_of, is_registered, has_given, fresh_place, with_waker, drained}

module _ {W : Type 0} where
  pub given_after_waker : (s : Registered W) (other : Option Place) (w : W) (place : Place) → has_given s (Some place) ≡ true
      → has_given (with_waker s other w) (Some place) ≡ true
  given_after_waker s None w place given = grind (arith, nat_tests, common_steps)
  given_after_waker s (Some other) w place given = grind (arith, nat_tests, common_steps)

  pub given_after_drain : (s : Registered W) (place : Place) → has_given s (Some place) ≡ true → has_given (drained s) (Some place) ≡ true
  given_after_drain s place given = grind (arith, nat_tests, common_steps)

  pub given_stays : (s t : Registered W) → Follows s t → (slot : Option Place) → has_given s slot ≡ true → has_given t slot ≡ true
  given_stays _ _ (Stays s) slot given = given
  given_stays _ _ (Registers s t other w before) None given = refl
  given_stays _ _ (Registers s t other w before) (Some place) given = given_after_waker t other w place (given_stays s t before (Some place) given)
  given_stays _ _ (Drains s t before) None given = refl
  given_stays _ _ (Drains s t before) (Some place) given = given_after_drain t place (given_stays s t before (Some place) given)

  fresh_not_given : (s : Registered W) → has_given s (Some (fresh_place s)) ≡ false
  fresh_not_given s = grind (arith, nat_tests, common_steps)

  pub never_fresh : (s : Registered W) (slot : Option Place) → has_given s slot ≡ true → slot ≢ Some (fresh_place s)
  never_fresh s slot given = λ same.
      let unused = fresh_not_given s in
      let used = subst (λ (o : Option Place). has_given s o ≡ true) same given in
      cc (unused, used)

  pub pairs_from-append : (drains i j : ℕ) (ws : List W) (w : W) → j ≡ i + length ws
      → pairs_from drains i (ws ++ w ∷ []) ≡ pairs_from drains i ws ++ (record { drains = drains; index = j }, w) ∷ []
  pairs_from-append drains i j [] w is = grind (arith, common_steps)
  pairs_from-append drains i j (v ∷ ws) w is = let rest = pairs_from-append drains (i + 1) j ws w (omega arith) in grind (arith, common_steps)

  pub pairs_from-slice_set : (drains i j k : ℕ) (ws : List W) (w : W) → j ≡ i + k
      → pairs_from drains i (slice_set ws k w) ≡ slice_set (pairs_from drains i ws) k (record { drains = drains; index = j }, w)
  pairs_from-slice_set drains i j k [] w is = refl
  pairs_from-slice_set drains i j zero (v ∷ ws) w is = grind (arith, common_steps)
  pairs_from-slice_set drains i j (suc k) (v ∷ ws) w is = let rest = pairs_from-slice_set drains (i + 1) j k ws w (omega arith) in grind (arith, common_steps)

  same_drains : (s : Registered W) (place : Place) → is_registered s (Some place) ≡ true → s.drains ≡ place.drains
  same_drains s place there = grind (arith, nat_tests, common_steps)

  pub pairs_of-replaced : (s : Registered W) (place : Place) (w : W) → is_registered s (Some place) ≡ true
      → pairs_of (with_waker s (Some place) w) ≡ slice_set (pairs_of s) place.index (place, w)
  pairs_of-replaced s place w there =
      let drains = same_drains s place there in
      let set = pairs_from-slice_set s.drains 0 place.index place.index s.wakers w (omega arith) in
      rw there (set ∙ ap (λ n. slice_set (pairs_of s) place.index (record { drains = n; index = place.index }, w)) drains)

  pub pairs_of-appended : (s : Registered W) (slot : Option Place) (w : W) → is_registered s slot ≡ false
      → pairs_of (with_waker s slot w) ≡ pairs_of s ++ (fresh_place s, w) ∷ []
  pairs_of-appended s slot w gone = rw gone (pairs_from-append s.drains 0 (length s.wakers) s.wakers w (omega arith))
