-- what was played is a run of each family, so that the laws of runs hold of it
use Rattle.std.proofs.Common.{◌≡◌, refl, ℕ, zero, suc, ◌+◌, ◌≤◌, List, [], ◌∷◌, Option, Some, None, length, take, ap, sym, subst, ◌∙◌, arith}
use Rattle.std.proofs.lemmas.List.{take-take}
use Rattle.mea_family.specs.declared.answer.Answer.{Answer}
use Rattle.mea_family.specs.declared.stop.Stop.{Stop}
use Rattle.mea_family.specs.Family.{RunOf, IsRun, Starts, Goes, start, LosesNoWake}
use Rattle.mea_sem_model.proofs.Balanced.{balanced}
use Rattle.mea_sem_model.proofs.Lives as sem_wakes
use Rattle.mea_sem_model.proofs.OrderLaws as sem_order
use Rattle.mea_meet_model.proofs.KeptWakers as meet_wakes
use Rattle.mea_lock_model.proofs.Wakers as lock_wakes
use Rattle.mea_chan_model.proofs.Wakers as chan_wakes
use Rattle.mea_share_model.proofs.Wakers as share_wakes
use Rattle.mea_once_model.proofs.Wakers as once_wakes
use Rattle.mea_events.specs.declared.event.Event.{Event}
use Rattle.mea_hall.specs.World.{World, FamilyName, Semaphores, Meets, Locks, Chans, Shares, Onces, family, hall, Addressed, addressed, event_in, empty_world, cause_of, Outcome, outcome_in, step_of, step}
use Rattle.mea_hall.specs.Front.{Front, front_at, front_from, front_of}
use Rattle.mea_hall.specs.History.{hears, run_from, run_after, AreBalanced, LoseNoWake, GrantInOrder}
use Rattle.mea_hall.proofs.EachFamily.{caused, is_own, put, others_stay}

abbrev Replies : Type 0
Replies = List (Answer × List ℕ)

-- each family begins with its hall in the empty world
empty_in : (k : FamilyName) → (family k).empty ≡ hall empty_world k
empty_in Semaphores = refl
empty_in _ = refl

-- no run of a family loses a wake
loses_none : (k : FamilyName) (r : RunOf (family k)) → IsRun (family k) r → LosesNoWake (family k) r
loses_none Semaphores r runs = sem_wakes.loses_no_wake r runs
loses_none Meets r runs = meet_wakes.no_wake_is_lost r runs
loses_none Locks r runs = lock_wakes.no_wake_is_lost r runs
loses_none Chans r runs = chan_wakes.no_wake_is_lost r runs
loses_none Shares r runs = share_wakes.no_wake_is_lost r runs
loses_none Onces r runs = once_wakes.no_wake_is_lost r runs

module _ (k : FamilyName) where
  -- an event that is one of the family has the family's cause for refusal
  own_cause : (w : World) (e : Event) (d : (family k).Event) → event_in k e ≡ Some d → (family k).cause (hall w k) d ≡ cause_of w e
  own_cause w e d is = sym (caused w e ∙ ap (λ (a : Addressed). (family a.name).cause (hall w a.name) a.event) (is_own k e d is))

  -- and the family's outcome
  own_step : (w : World) (i : ℕ) (e : Event) (d : (family k).Event) → event_in k e ≡ Some d → step w i e ≡ outcome_in w k ((family k).step (hall w k) i d)
  unfolding step
  own_step w i e d is = ap (step_of w i) (is_own k e d is)

  -- another leaves the family's hall as it was
  others_leave : (w : World) (i : ℕ) (e : Event) → event_in k e ≡ None → hall (step w i e).world k ≡ hall w k
  unfolding step
  others_leave w i e is = others_stay w e (addressed e) refl k is _

  -- a run with its world
  record Follows (r : RunOf (family k)) (i : ℕ) (w : World) : Type 0 where
    is_hall : r.hall ≡ hall w k
    runs : IsRun (family k) r
    low : r.next ≤ i

  -- one more event, which has no cause for refusal
  follows : (r : RunOf (family k)) (i : ℕ) (w : World) (e : Event) → Follows r i w → cause_of w e ≡ None
      → Follows (hears k r i (event_in k e) (step w i e).reply) (i + 1) (step w i e).world
  follows r i w e f allowed = at (event_in k e) refl
    where
      at : (o : Option (family k).Event) → event_in k e ≡ o → Follows (hears k r i o (step w i e).reply) (i + 1) (step w i e).world
      at None is = record { is_hall = f.is_hall ∙ sym (others_leave w i e is); runs = f.runs; low = omega (arith, f.low) }
      at (Some d) is =
          let steps = own_step w i e d is in
          let reply : ((family k).step r.hall i d).reply ≡ (step w i e).reply.0 = ap (λ h. ((family k).step h i d).reply) f.is_hall ∙ sym (ap (λ (s : Outcome). s.reply.0) steps) in
          let wakes : ((family k).step r.hall i d).wakes ≡ (step w i e).reply.1 = ap (λ h. ((family k).step h i d).wakes) f.is_hall ∙ sym (ap (λ (s : Outcome). s.reply.1) steps) in
          record {
            is_hall = ap (λ h. ((family k).step h i d).hall) f.is_hall ∙ sym (ap (λ (s : Outcome). hall s.world k) steps ∙ put w k ((family k).step (hall w k) i d).hall);
            runs = subst (IsRun (family k)) (λ j. record {
              hall = ((family k).step r.hall i d).hall;
              trace = record { number = i; before = r.hall; event = d; reply = reply j; wakes = wakes j } ∷ r.trace;
              next = i + 1;
            })
                (Goes r i d f.runs f.low (ap (λ h. (family k).cause h d) f.is_hall ∙ own_cause w e d is ∙ allowed));
            low = omega arith;
          }

  runs_from : (r : RunOf (family k)) (i : ℕ) (w : World) → Follows r i w → (es : List Event) (n : ℕ) → n ≤ length (front_from w i es).replies
      → IsRun (family k) (run_from k r i (take n es) (take n (front_from w i es).replies))
  runs_from r i w f [] zero few = f.runs
  runs_from r i w f [] (suc n) few = f.runs
  runs_from r i w f (e ∷ es) zero few = f.runs
  runs_from r i w f (e ∷ es) (suc n) few =
      by_cause (cause_of w e) refl few
      (λ allowed h. runs_from (hears k r i (event_in k e) (step w i e).reply) (i + 1) (step w i e).world (follows r i w e f allowed) es n h)
    where
      next : Front
      next = front_from (step w i e).world (i + 1) es

      by_cause : (c : Option Stop) → cause_of w e ≡ c → suc n ≤ length (front_at c w (step w i e).reply next).replies
          → (cause_of w e ≡ None → n ≤ length next.replies → IsRun (family k)
          (run_from k (hears k r i (event_in k e) (step w i e).reply) (i + 1) (take n es) (take n next.replies)))
          → IsRun (family k) (run_from k r i (e ∷ take n es) (take (suc n) (front_at c w (step w i e).reply next).replies))
      by_cause (Some stop) is h later = absurd (omega (arith, h))
      by_cause None is h later = later is (omega (arith, h))

  runs_after : (es : List Event) (i : ℕ) → i ≤ length (front_of es).replies → IsRun (family k) (run_after k es (front_of es).replies i)
  runs_after es i few = runs_from (start (family k)) 0 empty_world (record { is_hall = empty_in k; runs = Starts; low = omega arith }) es i few

  -- of a list of events of which the first n were played, with these replies
  played_runs : (es : List Event) (n : ℕ) (w : World) (rs : Replies) → front_of (take n es) ≡ record { world = w; replies = rs; cause = None }
      → length rs ≡ n → (i : ℕ) → i ≤ length rs → IsRun (family k) (run_after k es rs i)
  played_runs es n w rs played counted i few =
      let told : (front_of (take n es)).replies ≡ rs = ap (λ f. f.replies) played in
      let runs = runs_after (take n es) i (subst (λ (ts : Replies). i ≤ length ts) (sym told) few) in
      subst (λ (ts : Replies). IsRun (family k) (run_from k (start (family k)) 0 (take i es) (take i ts))) told
      (subst (λ (fs : List Event). IsRun (family k) (run_from k (start (family k)) 0 fs (take i (front_of (take n es)).replies)))
      (take-take i n es (omega (arith, few, counted))) runs)

-- ---- of a list of events, with the replies up to the first that has a cause for refusal
pub front_balances : (es : List Event) → AreBalanced es (front_of es).replies
front_balances es i few s = balanced _ (runs_after Semaphores es i few) s

pub front_wakes : (es : List Event) → LoseNoWake es (front_of es).replies
front_wakes es = record { woken = λ k i few. loses_none k _ (runs_after k es i few) }

pub front_orders : (es : List Event) → GrantInOrder es (front_of es).replies
front_orders es = record {
  grants = λ i few. sem_order.in_order _ (runs_after Semaphores es i few);
  wakes = λ i few. sem_order.wakes_in_order _ (runs_after Semaphores es i few);
  tries = λ i few. sem_order.nobody_past _ (runs_after Semaphores es i few);
}

-- ---- of a list of events of which the first n were played, with these replies
pub played_balances : (es : List Event) (n : ℕ) (w : World) (rs : Replies) → front_of (take n es) ≡ record { world = w; replies = rs; cause = None }
    → length rs ≡ n → AreBalanced es rs
played_balances es n w rs played counted i few s = balanced _ (played_runs Semaphores es n w rs played counted i few) s

pub played_wakes : (es : List Event) (n : ℕ) (w : World) (rs : Replies) → front_of (take n es) ≡ record { world = w; replies = rs; cause = None }
    → length rs ≡ n → LoseNoWake es rs
played_wakes es n w rs played counted = record { woken = λ k i few. loses_none k _ (played_runs k es n w rs played counted i few) }

pub played_orders : (es : List Event) (n : ℕ) (w : World) (rs : Replies) → front_of (take n es) ≡ record { world = w; replies = rs; cause = None }
    → length rs ≡ n → GrantInOrder es rs
played_orders es n w rs played counted = record {
  grants = λ i few. sem_order.in_order _ (played_runs Semaphores es n w rs played counted i few);
  wakes = λ i few. sem_order.wakes_in_order _ (played_runs Semaphores es n w rs played counted i few);
  tries = λ i few. sem_order.nobody_past _ (played_runs Semaphores es n w rs played counted i few);
}
