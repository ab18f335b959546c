-- a poll of an acquire leaves how many permits it asks for
use Rattle.std.proofs.Common.{◌≡◌, ◌-◌, ℕ, zero, suc, Bool, true, false, Result, Ok, Err, MatchResult, ap, refl, inl, inr, arith}
use Rattle.mea_base.specs.declared.no_memory.NoMemory.{NoMemory}
use Rattle.mea_sem_core.specs.Acquire.{demand_of}
use Rattle.mea_sem_core.specs.Calls.{Belongs, Queues, PollsAs, PollsOpen}
use Rattle.mea_sem_core.specs.Core.{Core}
use Rattle.mea_sem_core.specs.declared.acquire.Acquire.{Acquire}
use Rattle.mea_sem_core.specs.declared.acquire.Acquire.TheVariants.{New, Queued, Done, Refused}
use Rattle.mea_sem_core.specs.declared.open_turn.OpenTurn.{OpenTurn}
use Rattle.mea_sem_core.specs.declared.open_turn.OpenTurn.TheVariants as open_turn

module _ {W : Type 0} where
  -- what a first poll answers
  abbrev Answers : Core W → Core W → ℕ → W → Result (OpenTurn W) (W × NoMemory) → Acquire → Type 0
  Answers s s' d w r a' = MatchResult r
      (λ turn. (turn ≡ open_turn.Pending) × ((number : ℕ) × Queues s s' d w number × (a' ≡ Queued d number)))
      (λ e. (e.0 ≡ w) × (s' ≡ s) × (a' ≡ New d))

  of_answer : (s s' : Core W) (d : ℕ) (w : W) (r : Result (OpenTurn W) (W × NoMemory)) (a' : Acquire) → Answers s s' d w r a' → demand_of a' ≡ d
  of_answer s s' d w (Ok turn) a' h = ap demand_of h.1.2
  of_answer s s' d w (Err e) a' h = ap demand_of h.2

  -- of a first poll of an open semaphore: it finds the permits free, or some of them lack
  of_first : (s s' : Core W) (d lack : ℕ) (w : W) (r : Result (OpenTurn W) (W × NoMemory)) (a' : Acquire) → d - s.free ≡ lack
      → PollsAs (λ waker. open_turn.Ready waker) open_turn.Pending s (New d) w r s' a' → demand_of a' ≡ d
  of_first s s' d zero w r a' is polls = ap demand_of (polls.0 (omega (arith, is))).2
  of_first s s' d (suc lack) w r a' is polls = of_answer s s' d w r a' (polls.1 (omega (arith, is)))

  of_new : (s s' : Core W) (d : ℕ) (w : W) (r : Result (OpenTurn W) (W × NoMemory)) (a' : Acquire) (closed : Bool) → s.closed ≡ closed
      → PollsOpen s (New d) w r s' a' → demand_of a' ≡ d
  of_new s s' d w r a' true is polls = ap demand_of (polls.1 is).2
  of_new s s' d w r a' false is polls = of_first s s' d (d - s.free) w r a' refl (polls.0 is)

  pub keeps_demand : (s s' : Core W) (a a' : Acquire) (w : W) (r : Result (OpenTurn W) (W × NoMemory)) → Belongs s a → PollsOpen s a w r s' a'
      → demand_of a' ≡ demand_of a
  keeps_demand s s' (New d) a' w r belongs polls = of_new s s' d w r a' s.closed refl polls
  keeps_demand s s' (Queued d number) a' w r (inl (inl granted)) polls = ap demand_of (polls.0.0 granted).2
  keeps_demand s s' (Queued d number) a' w r (inl (inr waits)) polls = ap demand_of (polls.0.1 waits).2
  keeps_demand s s' (Queued d number) a' w r (inr cut) polls = ap demand_of (polls.1 cut).2
  keeps_demand s s' (Done d) a' w r belongs polls = ap demand_of polls.2
  keeps_demand s s' (Refused d) a' w r belongs polls = ap demand_of polls.2
