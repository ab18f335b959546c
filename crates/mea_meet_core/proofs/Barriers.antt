-- what the first polls of a barrier do, told of the arrivals within a round
use Rattle.std.proofs.Common.{◌≡◌, ◌≢◌, ℕ, ◌+◌, ◌*◌, ◌<◌, ◌&&◌, ◌++◌, nat_le, true, false, List, Option, None, Ok, Err, refl, ap, sym, ◌∙◌, add_assoc}
use Rattle.mea_sets.specs.declared.place.Place.{Place}
use Rattle.mea_sets.specs.Poll.{Ready, Pending}
use Rattle.mea_sets.specs.WaitSet.{Registered, has_given, with_waker, slot_after, drained}
use Rattle.mea_meet_core.specs.declared.barrier_wait.BarrierWait.{BarrierWait}
use Rattle.mea_meet_core.specs.declared.barrier_wait.BarrierWait.TheVariants.{New, Arrived, Done}
use Rattle.mea_meet_core.specs.declared.barrier_fault.BarrierFault.TheVariants.{Overflow}
use Rattle.mea_meet_core.specs.Barrier.{Barrier, Arrives, leads, has_seen}
use Rattle.mea_meet_core.proofs.Rounds.{round_within, last_of_round, next_round}

module _ {W : Type 0} where
  -- a barrier by its round and the arrivals within it
  abbrev pub barrier_at : ℕ → ℕ → ℕ → Registered W → List W → Barrier W
  barrier_at size round arrived waiting wakes = record { size = size; arrivals = round * size + arrived; waiting = waiting; wakes = wakes }

  pub has_seen-within : (size round arrived : ℕ) (waiting : Registered W) (wakes : List W) (r : ℕ) (slot : Option Place) → arrived < size
      → has_seen (barrier_at size round arrived waiting wakes) r slot ≡ (nat_le r round && has_given waiting slot)
  has_seen-within size round arrived waiting wakes r slot within = ap (λ n. nat_le r n && has_given waiting slot) (round_within size round arrived within)

  pub joins : (size round arrived : ℕ) (waiting : Registered W) (wakes : List W) (w : W) (waiting' : Registered W) (slot' : Option Place) (wakes' : List W)
      → arrived < size → leads (barrier_at size round arrived waiting wakes) ≡ false
      → waiting' ≡ with_waker waiting None w → slot' ≡ slot_after waiting None → wakes' ≡ wakes
      → Arrives (barrier_at size round arrived waiting wakes) w (Ok Pending) (barrier_at size round (arrived + 1) waiting' wakes') (Arrived round slot')
  joins size round arrived waiting wakes w waiting' slot' wakes' within waits registered slot_is same = record {
    completes = λ completes _. absurd (cc (waits, completes));
    overflow = λ completes _. absurd (cc (waits, completes));
    follows = λ _. (
      refl,
      (λ i. record { size = size; arrivals = sym (add_assoc (round * size) arrived 1) i; waiting = registered i; wakes = same i }),
      (λ i. Arrived (sym (round_within size round arrived within) i) (slot_is i)),
    );
  }

  pub completes_round : (size round arrived : ℕ) (waiting : Registered W) (wakes : List W) (w : W) (waiting' : Registered W) (wakes' : List W)
      → arrived < size → round ≢ 18446744073709551615 → leads (barrier_at size round arrived waiting wakes) ≡ true
      → waiting' ≡ drained waiting → wakes' ≡ wakes ++ waiting.wakers
      → Arrives (barrier_at size round arrived waiting wakes) w (Ok (Ready true)) (barrier_at size (round + 1) 0 waiting' wakes') Done
  completes_round size round arrived waiting wakes w waiting' wakes' within few leads empty woken =
      let last = last_of_round size round arrived within leads in
      let number = round_within size round arrived within in
      let all = next_round size round arrived last in
      record {
        completes = λ _ _. (refl, (λ i. record { size = size; arrivals = all i; waiting = empty i; wakes = woken i }), refl);
        overflow = λ _ greatest. absurd (few (sym number ∙ greatest));
        follows = λ waits. absurd (cc (waits, leads));
      }

  pub overflows : (size round arrived : ℕ) (waiting : Registered W) (wakes : List W) (w : W) (wait : BarrierWait)
      → arrived < size → round ≡ 18446744073709551615 → leads (barrier_at size round arrived waiting wakes) ≡ true → wait ≡ New
      → Arrives (barrier_at size round arrived waiting wakes) w (Err (Overflow w)) (barrier_at size round arrived waiting wakes) wait
  overflows size round arrived waiting wakes w wait within greatest leads unpolled =
      let number = round_within size round arrived within in
      record {
        completes = λ _ few. absurd (few (number ∙ greatest));
        overflow = λ _ _. (refl, refl, unpolled);
        follows = λ waits. absurd (cc (waits, leads));
      }
