-- which futures live on, and that semaphores so keep the wakers of who waits
use Rattle.std.proofs.Common.{◌≡◌, ℕ, ◌≤◌, ◌⊎◌, inl, inr, Bool, true, false, cond, Option, Some, None, refl, ap, sym, subst, ◌∙◌, arith, is_some}
use Rattle.std.specs.FinMap.{get}
use Rattle.std.specs.Option.{option_map}
use Rattle.std.proofs.lemmas.Bool.{eqb-true}
use Rattle.mea_base.specs.Queue.{granted_in}
use Rattle.mea_family.specs.Family.{KeepsWakers, LosesNoWake}
use Rattle.mea_family.proofs.Wakes as wakes
use Rattle.mea_base.proofs.Maps.{get-gone}
use Rattle.mea_base.proofs.Tests.{at_same}
use Rattle.mea_family.proofs.Causes.{known}
use Rattle.mea_events.specs.declared.sem_event.SemEvent.{SemEvent}
use Rattle.mea_events.specs.declared.sem_event.SemEvent.TheVariants as events
use Rattle.mea_sem_model.specs.Hall.{Hall, Future, Permit, FutureStage, New, Waiting, Granted, Cut, queue_at, granted, pour}
use Rattle.mea_sem_model.specs.Cause.{cause_of}
use Rattle.mea_sem_model.specs.Step.{without_future, without_permit, end_future, end_permit, end_of, leaving, step}
use Rattle.mea_sem_model.specs.Valid.{IsBelow}
use Rattle.mea_sem_model.specs.Runs.{Run, IsSemRun, semaphores, waker_in, ends}
use Rattle.mea_sem_model.proofs.HallLemmas.{among, get-grant_all}
use Rattle.mea_sem_model.proofs.Matched.{IsMatched}
use Rattle.mea_sem_model.proofs.Orderly.{IsOrderly}
use Rattle.mea_sem_model.proofs.Keeps.{below_later}
use Rattle.mea_sem_model.proofs.Balanced as balance
use Rattle.mea_sem_model.proofs.LostWakes.{Polled, polled_by, places_waker, waits_on, leaves, lives_below, names_futures}
use Rattle.mea_sem_model.proofs.Granting.{grants}

-- an event polls one future, or none
pub polls_or_not : (e : SemEvent) → ((f : ℕ) × (w : ℕ) × (e ≡ events.Poll f w)) ⊎ ((f : ℕ) → waker_in e f ≡ None)
polls_or_not (events.New n) = inr (λ f. refl)
polls_or_not (events.Free s) = inr (λ f. refl)
polls_or_not (events.Forget s n) = inr (λ f. refl)
polls_or_not (events.Forgetx s n) = inr (λ f. refl)
polls_or_not (events.Release s n) = inr (λ f. refl)
polls_or_not (events.Try s n) = inr (λ f. refl)
polls_or_not (events.Tryo s n) = inr (λ f. refl)
polls_or_not (events.Tryf s n) = inr (λ f. refl)
polls_or_not (events.Tryof s n) = inr (λ f. refl)
polls_or_not (events.Acq s n) = inr (λ f. refl)
polls_or_not (events.Acqo s n) = inr (λ f. refl)
polls_or_not (events.Acqf s n) = inr (λ f. refl)
polls_or_not (events.Acqof s n) = inr (λ f. refl)
polls_or_not (events.Poll g w) = inl (g, w, refl)
polls_or_not (events.End x) = inr (λ f. refl)
polls_or_not (events.Lose p) = inr (λ f. refl)
polls_or_not (events.Merge p q) = inr (λ f. refl)
polls_or_not (events.Split p n) = inr (λ f. refl)
polls_or_not (events.Size p) = inr (λ f. refl)
polls_or_not (events.Endsem s) = inr (λ f. refl)
polls_or_not (events.Ledger s) = inr (λ f. refl)
polls_or_not (events.Close s) = inr (λ f. refl)
polls_or_not (events.Closed s) = inr (λ f. refl)

-- ---- who is not ended lives on
module _ (h : Hall) (i : ℕ) (m : IsMatched h) (v : IsOrderly h) (low : IsBelow h i) where
  -- who is not there is polled or ended
  lives_on : (e : SemEvent) → cause_of h e ≡ None → (f : ℕ) → is_some (get h.futures f) ≡ true → waker_in e f ≡ None → ends e f ≡ false
      → is_some (get (step h i e).hall.futures f) ≡ true
  lives_on e cause f living quiet unended = by_option (get (step h i e).hall.futures f) refl
    where
      not_gone : get (step h i e).hall.futures f ≡ None → ⊥
      not_gone none = elim (polls_or_not e) [
        | inl poll ↦
            let gives : Polled h poll.0 poll.1 (step h i (events.Poll poll.0 poll.1)) =
            polled_by h i poll.0 poll.1 (get h.futures poll.0) (known _ (subst (λ d. cause_of h d ≡ None) poll.2 cause)) in
            let apart : poll.0 ≡ f → ⊥ = λ same. absurd (let polls : waker_in e f ≡ Some poll.1 = ap (λ d. waker_in d f) poll.2
            ∙ at_same poll.0 f (Some poll.1) None same in cc) in
            let gone : get (step h i (events.Poll poll.0 poll.1)).hall.futures f ≡ None = ap (λ d. get (step h i d).hall.futures f) (sym poll.2) ∙ none in
            let same : get h.futures f ≡ None = sym (gives.others f apart) ∙ gone in
            absurd (let lived : is_some (get h.futures f) ≡ false = ap is_some same in cc)
        | inr never ↦ absurd (let ended = (grants h i m v low e cause never).ended f living none in cc)
      ]

      by_option : (o : Option Future) → get (step h i e).hall.futures f ≡ o → is_some (get (step h i e).hall.futures f) ≡ true
      by_option None is = absurd (not_gone is)
      by_option (Some y) is = ap is_some is

-- ---- who is ended is gone
-- the event that ends f
ends_is : (e : SemEvent) (f : ℕ) → ends e f ≡ true → e ≡ events.End f
ends_is (events.New n) f is = absurd (cc)
ends_is (events.Free s) f is = absurd (cc)
ends_is (events.Forget s n) f is = absurd (cc)
ends_is (events.Forgetx s n) f is = absurd (cc)
ends_is (events.Release s n) f is = absurd (cc)
ends_is (events.Try s n) f is = absurd (cc)
ends_is (events.Tryo s n) f is = absurd (cc)
ends_is (events.Tryf s n) f is = absurd (cc)
ends_is (events.Tryof s n) f is = absurd (cc)
ends_is (events.Acq s n) f is = absurd (cc)
ends_is (events.Acqo s n) f is = absurd (cc)
ends_is (events.Acqf s n) f is = absurd (cc)
ends_is (events.Acqof s n) f is = absurd (cc)
ends_is (events.Poll g w) f is = absurd (cc)
ends_is (events.End x) f is = ap (λ k. events.End k) (eqb-true x f is)
ends_is (events.Lose p) f is = absurd (cc)
ends_is (events.Merge p q) f is = absurd (cc)
ends_is (events.Split p n) f is = absurd (cc)
ends_is (events.Size p) f is = absurd (cc)
ends_is (events.Endsem s) f is = absurd (cc)
ends_is (events.Ledger s) f is = absurd (cc)
ends_is (events.Close s) f is = absurd (cc)
ends_is (events.Closed s) f is = absurd (cc)

none_poured : (h : Hall) (q n f : ℕ) → get h.futures f ≡ None → get (pour h q n).futures f ≡ None
none_poured h q n f none = get-grant_all (granted_in (queue_at h q) n) h.futures f
    ∙ ap (λ o. cond (among (granted_in (queue_at h q) n) f) (option_map granted o) o) none ∙ by_test (among (granted_in (queue_at h q) n) f)
  where
    by_test : (b : Bool) → ◌≡◌ {A = Option Future} (cond b (option_map granted None) None) None
    by_test true = refl
    by_test false = refl

future_gone : (h : Hall) (f : ℕ) (x : Future) (t : FutureStage) → get (end_future h f x t).hall.futures f ≡ None
future_gone h f x New = get-gone h.futures f
future_gone h f x (Waiting u) = none_poured (leaving h f x) x.semaphore _ f (get-gone h.futures f)
future_gone h f x Granted = none_poured (without_future h f) x.semaphore x.demand f (get-gone h.futures f)
future_gone h f x Cut = get-gone h.futures f

no_future_gone : (h : Hall) (f : ℕ) → get h.futures f ≡ None → (o : Option Permit) → get (end_permit h f o).hall.futures f ≡ None
no_future_gone h f none None = none
no_future_gone h f none (Some p) = none_poured (without_permit h f) p.semaphore p.size f none

end_gone : (h : Hall) (f : ℕ) (o : Option Future) → get h.futures f ≡ o → get (end_of h f o).hall.futures f ≡ None
end_gone h f None is = no_future_gone h f is (get h.permits f)
end_gone h f (Some x) is = future_gone h f x x.stage

goes_away : (h : Hall) (i : ℕ) (e : SemEvent) (f : ℕ) → ends e f ≡ true → is_some (get (step h i e).hall.futures f) ≡ false
goes_away h i e f ended = ap (λ d. is_some (get (step h i d).hall.futures f)) (ends_is e f ended) ∙ ap is_some (end_gone h f (get h.futures f) refl)

-- ---- in the words of the laws
pub keeps_wakers : KeepsWakers semaphores
keeps_wakers = record {
  places = λ r i e runs later cause f w polls pending. places_waker r.hall i e cause f w polls pending;
  waits = λ r i e runs f w v living placed polls. waits_on r.hall i e f w v placed polls;
  wakes = λ r i e runs later cause f w living placed polls unended.
      let low = lives_below r runs f living in
      (leaves r.hall i e cause).stays f w (omega (arith, low, later)) (stays_on r i e runs later cause f living polls unended) placed polls;
  stays = λ r i e runs later cause f living polls unended. stays_on r i e runs later cause f living polls unended;
  goes = λ r i e runs later cause f ended. goes_away r.hall i e f ended;
}
  where
    stays_on : (r : Run) (i : ℕ) (e : SemEvent) → IsSemRun r → r.next ≤ i → cause_of r.hall e ≡ None → (f : ℕ) → is_some (get r.hall.futures f) ≡ true
        → waker_in e f ≡ None → ends e f ≡ false → is_some (get (step r.hall i e).hall.futures f) ≡ true
    stays_on r i e runs later cause f living polls unended =
        let k = balance.kept r runs in
        lives_on r.hall i k.matched k.orderly (below_later r.hall r.next i later k.below) e cause f living polls unended

pub loses_no_wake : (r : Run) → IsSemRun r → LosesNoWake semaphores r
loses_no_wake r runs = wakes.loses_no_wake semaphores keeps_wakers names_futures r runs
