-- an answer of a broadcast takes a receiver on as far as it tells
use Rattle.std.proofs.Common.{◌≡◌, ℕ, ◌+◌, ◌-◌, ◌≤◌, ◌<◌, ◌==◌, Bool, true, false, cond, Result, Ok, Err, MatchResult, refl, sym, ap, ◌∙◌, subst, arith, nat_lt, nat_le}
use Rattle.std.specs.List.{slice_get}
use Rattle.std.proofs.lemmas.Bool.Decides.{nat_tests}
use Rattle.mea_broadcast_core.specs.declared.errors.BroadcastTry.{BroadcastTry}
use Rattle.mea_broadcast_core.specs.declared.errors.BroadcastTry.TheVariants as try
use Rattle.mea_broadcast_core.specs.Broadcast.{Broadcast, oldest}
use Rattle.mea_broadcast_core.specs.Receives.{Found, Behind, Holds, AtTail, found, found_at, Receives, usable_position}
use Rattle.mea_link.specs.Positions.{MovesBy}
use Rattle.mea_broadcast_core.proofs.Walks.{never_behind, lag_of}

module _ {T W : Type 0} where
  -- the position that a checked call goes by is the receiver's own, or below it
  pub usable_is_below : (b : Broadcast T W) (p : ℕ) → usable_position b p ≤ p
  usable_is_below b p = by_test (nat_le p b.tail) refl
    where
      by_test : (t : Bool) → nat_le p b.tail ≡ t → cond t p b.tail ≤ p
      by_test true at = omega arith
      by_test false at = grind (arith, nat_tests)

  -- who is behind lacks so many to the oldest kept message
  behind_at : (b : Broadcast T W) (q k : ℕ) → found b q ≡ Behind k → (q < oldest b) × (q + k ≡ oldest b)
  behind_at b q k is = by_test (nat_lt q (oldest b)) refl is
    where
      by_test : (t : Bool) → nat_lt q (oldest b) ≡ t → cond t (Behind (oldest b - q)) (found_at (slice_get b.kept (q - oldest b))) ≡ Behind k
          → (q < oldest b) × (q + k ≡ oldest b)
      by_test true at is =
          let below : q < oldest b = grind (arith, nat_tests) in
          let far : oldest b - q ≡ k = ap lag_of is in
          (below, omega (arith, below, far))
      by_test false at is = never_behind (slice_get b.kept (q - oldest b)) k is

  -- and it goes by its own position, since the tail is never behind
  behind : (b : Broadcast T W) (p k : ℕ) → found b (usable_position b p) ≡ Behind k → p + k ≡ oldest b
  behind b p k is = by_test (nat_le p b.tail) refl is
    where
      by_test : (t : Bool) → nat_le p b.tail ≡ t → found b (cond t p b.tail) ≡ Behind k → p + k ≡ oldest b
      by_test true at is = (behind_at b p k is).1
      by_test false at is = let past = (behind_at b b.tail k is).0 in absurd (omega (arith, past))

  module _ (clones : T → T → Type 0) (surely : T → Type 0) (b : Broadcast T W) (p after : ℕ) where
    moves_from : (q : ℕ) (r : Result T BroadcastTry) (f : Found T) → q ≤ p → ((k : ℕ) → f ≡ Behind k → p + k ≡ oldest b)
        → Receives clones surely b f q r after → MovesBy r p after
    moves_from q r (Behind k) below far h =
        subst (λ (x : Result T BroadcastTry). MovesBy x p after) (sym h.0) (h.1 ∙ sym (far k refl))
    moves_from q r (Holds v) below far h = by_result r h
      where
        by_result : (r : Result T BroadcastTry) → MatchResult r (λ c. clones v c × (after ≡ q + 1)) (λ e. (e ≡ try.NoMemory) × (¬ (surely v)) × (after ≡ q))
            → MovesBy r p after
        by_result (Ok c) h = omega (arith, h.1, below)
        by_result (Err e) h = subst (λ (x : BroadcastTry). MovesBy {T = T} (Err x) p after) (sym h.0) (omega (arith, h.2, below))
    moves_from q r AtTail below far h = by_test (b.senders == 0) h.0
      where
        by_test : (t : Bool) → r ≡ Err (cond t try.Disconnected try.Empty) → MovesBy r p after
        by_test true answer = subst (λ (x : Result T BroadcastTry). MovesBy x p after) (sym answer) (omega (arith, h.1, below))
        by_test false answer = subst (λ (x : Result T BroadcastTry). MovesBy x p after) (sym answer) (omega (arith, h.1, below))

    -- what a checked receive tells is how far the receiver went
    pub moves : (r : Result T BroadcastTry) → Receives clones surely b (found b (usable_position b p)) (usable_position b p) r after → MovesBy r p after
    moves r h = moves_from (usable_position b p) r (found b (usable_position b p)) (usable_is_below b p) (behind b p) h
