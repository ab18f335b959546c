-- an acquire of a core: what its place holds, and what a later poll or its end does to the places
use Rattle.std.proofs.Common.{◌≡◌, ℕ, Bool, true, false, IsSome, Some, None, refl, ap, ◌∙◌}
use Rattle.std.specs.FinMap as fin
use Rattle.mea_base.specs.WaitList.{Waits, get, is_linked, with_value, without, Updates}
use Rattle.mea_sem_core.specs.declared.wait_record.WaitRecord.{WaitRecord}
use Rattle.mea_sem_core.specs.declared.wait_record.WaitRecord.TheVariants.{Acquire}
use Rattle.mea_sem_core.specs.Core.{waiting}
use Rattle.mea_sem_core.specs.Places.{queue_of, granted_of, IsQueue, is_grant_of, with_new_waker, paid_slot, LacksAtMost}
use Rattle.mea_sem_core.proofs.Grants.{Updates-with_value}
use Rattle.mea_sem_core.proofs.Leaves.{IsOf, IsOneOf, place_of, place_of_one, in_use_at, within_at, granted_at, waiting_at, slot_waiting, slot_from_granted, unlinked_granted, not_both, Takes, takes, Rewakes, rewakes, Departs, departs, Updates-unlinked}

module _ {W : Type 0} where
  pub in_use : (w : Waits (WaitRecord W)) (closed : Bool) (demand number : ℕ) → IsOneOf w closed demand number → IsSome (get w number)
  in_use w closed demand number is = in_use_at w demand number (place_of_one w closed demand number is)

  pub lacks_at_most : (w : Waits (WaitRecord W)) (closed : Bool) (demand number : ℕ) (x : WaitRecord W) → IsQueue w → IsOneOf w closed demand number
      → get w number ≡ Some x → LacksAtMost x
  lacks_at_most w closed demand number x kept is found = within_at w demand number x kept found (place_of_one w closed demand number is)

  -- a number is not granted and waiting at once
  pub not_waiting : (w : Waits (WaitRecord W)) (demand number lack : ℕ) (x : WaitRecord W) → get w number ≡ Some x → is_grant_of x demand ≡ true
      → waiting (queue_of w) number ≡ Some (demand, lack) → ⊥
  not_waiting w demand number lack x found is waits =
      let slot = slot_waiting w.slots number demand lack w.order waits in
      not_both w demand number lack slot.0 (granted_at w demand number x found is) slot.1

  pub not_granted : (w : Waits (WaitRecord W)) (demand number : ℕ) (x : WaitRecord W) → get w number ≡ Some x → is_grant_of x demand ≡ false
      → fin.get (granted_of w) number ≡ Some demand → ⊥
  not_granted w demand number x found is granted = let yes = slot_from_granted w demand number x found granted in absurd (cc)

  -- ---- a later poll
  pub unlinked : (w : Waits (WaitRecord W)) (demand number : ℕ) (x : WaitRecord W) → IsQueue w → get w number ≡ Some x → is_grant_of x demand ≡ true
      → is_linked w number ≡ false
  unlinked w demand number x kept found is = unlinked_granted w demand number kept (granted_at w demand number x found is)

  pub polled_granted : (w new : Waits (WaitRecord W)) (demand number : ℕ) (x : WaitRecord W) → IsQueue w → get w number ≡ Some x → is_grant_of x demand ≡ true
      → Updates w new number None → new.order ≡ w.order → Takes w new number demand
  polled_granted w new demand number x kept found is updates order = takes w new number demand (granted_at w demand number x found is) updates order kept

  pub polled_waiting : (w : Waits (WaitRecord W)) (demand number : ℕ) (x lent written : WaitRecord W) (waker : W) → IsQueue w → IsOf w demand number
      → get w number ≡ Some x → is_grant_of x demand ≡ false → get w number ≡ Some lent → written ≡ with_new_waker lent waker
      → Rewakes w (with_value w number written) number waker
  polled_waiting w demand number x lent written waker kept belongs found is here wrote =
      let waits = waiting_at w demand number x found is (place_of w demand number belongs) in
      let was = waits.2 in
      let same : lent ≡ Acquire demand waits.0 waits.1 = cc in
      let now : written ≡ Acquire demand waits.0 waker = rw same at wrote in
      let updates = rw now at (Updates-with_value w number written (rw was refl)) in
      rw now (rewakes w (with_value w number (Acquire demand waits.0 waker)) number demand waits.0 waits.1 waker was updates refl kept)

  -- ---- its end
  pub ended : (old mid new : Waits (WaitRecord W)) (closed : Bool) (demand number : ℕ) (x : WaitRecord W) → IsQueue old → IsOneOf old closed demand number
      → get old number ≡ Some x
      → mid ≡ record old { order = without number old.order } → Updates mid new number None → new.order ≡ mid.order
      → Departs old new demand number (paid_slot (Some x))
  ended old mid new closed demand number x kept belongs found left updates order =
      departs old new demand number x kept found (Updates-unlinked old mid new number None (ap (λ w. w.slots) left) updates)
      (order ∙ ap (λ w. w.order) left) (place_of_one old closed demand number belongs)
