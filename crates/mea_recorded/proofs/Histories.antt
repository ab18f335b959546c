-- histories with one more entry
use Rattle.std.proofs.Common.{◌≡◌, ℕ, suc, ◌+◌, ◌++◌, ◌∷◌, [], List, None, length, refl, ap, sym, ◌∙◌, arith}
use Rattle.mea_family.specs.Family.{RunOf, IsRun, Starts, Goes, goes_on, start}
use Rattle.mea_events.specs.declared.sem_event.SemEvent.{SemEvent}
use Rattle.mea_events.specs.declared.sem_event.SemEvent.TheVariants.{New}
use Rattle.mea_sem_model.specs.Hall.{Hall, empty_hall}
use Rattle.mea_sem_model.specs.Cause.{cause_of}
use Rattle.mea_sem_model.specs.Step.{step}
use Rattle.mea_sem_model.specs.Runs.{semaphores}
use Rattle.mea_recorded.specs.History.{History, reply_of, hall_from, replies_from, AreAllowed, hall_after, BeginsWithNew, IsHistory, with_event, run_from, run_of}

later : (i : ℕ) (es : List SemEvent) (e : SemEvent) → i + 1 + length es ≡ i + length (e ∷ es)
later i es e = omega arith

pub hall_from-more : (h : Hall) (i : ℕ) (es : List SemEvent) (e : SemEvent) → hall_from h i (es ++ e ∷ []) ≡ (step (hall_from h i es) (i + length es) e).hall
hall_from-more h i [] e = ap (λ (k : ℕ). (step h k e).hall) (omega arith)
hall_from-more h i (x ∷ es) e = hall_from-more (step h i x).hall (i + 1) es e ∙ ap (λ (k : ℕ). (step (hall_from (step h i x).hall (i + 1) es) k e).hall) (later i es x)

pub replies_from-more : (h : Hall) (i : ℕ) (es : List SemEvent) (e : SemEvent)
    → replies_from h i (es ++ e ∷ []) ≡ replies_from h i es ++ reply_of (hall_from h i es) (i + length es) e ∷ []
replies_from-more h i [] e = ap (λ (k : ℕ). reply_of h k e ∷ []) (omega arith)
replies_from-more h i (x ∷ es) e = ap (λ rs. reply_of h i x ∷ rs) (replies_from-more (step h i x).hall (i + 1) es e
    ∙ ap (λ (k : ℕ). replies_from (step h i x).hall (i + 1) es ++ reply_of (hall_from (step h i x).hall (i + 1) es) k e ∷ []) (later i es x))

pub allowed-more : (h : Hall) (i : ℕ) (es : List SemEvent) (e : SemEvent) → AreAllowed h i es → cause_of (hall_from h i es) e ≡ None → AreAllowed h i (es ++ e ∷ [])
allowed-more h i [] e all one = (one, tt)
allowed-more h i (x ∷ es) e all one = (all.0, allowed-more (step h i x).hall (i + 1) es e all.1 one)

begins-more : (es : List SemEvent) (e : SemEvent) → BeginsWithNew es → BeginsWithNew (es ++ e ∷ [])
begins-more [] e h = elim h [ ]
begins-more (x ∷ es) e h = h

pub length-replies : (h : Hall) (i : ℕ) (es : List SemEvent) → length (replies_from h i es) ≡ length es
length-replies h i [] = refl
length-replies h i (e ∷ es) = ap (λ n. suc n) (length-replies (step h i e).hall (i + 1) es)

-- a history goes on with an event that has no cause for refusal
pub history-more : (h : History) (e : SemEvent) → IsHistory h → cause_of (hall_after h.events) e ≡ None → IsHistory (with_event h e)
history-more h e is allowed = record {
  begins = begins-more h.events e is.begins;
  allowed = allowed-more empty_hall 0 h.events e is.allowed allowed;
  replied = ap (λ rs. rs ++ reply_of (hall_after h.events) (length h.events) e ∷ []) is.replied
      ∙ ap (λ (k : ℕ). replies_from empty_hall 0 h.events ++ reply_of (hall_after h.events) k e ∷ []) (omega arith)
      ∙ sym (replies_from-more empty_hall 0 h.events e);
}

pub history-first : (n : ℕ) → IsHistory (with_event (record { events = []; replies = [] }) (New n))
history-first n = record { begins = (n, refl); allowed = (refl, tt); replied = refl }

-- ---- histories are runs of the model

runs_from : (r : RunOf semaphores) (i : ℕ) (es : List SemEvent) → IsRun semaphores r → r.next ≡ i → AreAllowed r.hall i es → IsRun semaphores (run_from r i es)
runs_from r i [] runs next allowed = runs
runs_from r i (e ∷ es) runs next allowed =
    runs_from (goes_on semaphores r i e) (i + 1) es (Goes r i e runs (omega (arith, next)) allowed.0) refl allowed.1

pub history_runs : (h : History) → IsHistory h → IsRun semaphores (run_of h.events)
history_runs h is = runs_from (start semaphores) 0 h.events Starts refl is.allowed

-- the hall after one more event
pub hall_after-more : (es : List SemEvent) (e : SemEvent) → hall_after (es ++ e ∷ []) ≡ (step (hall_after es) (length es) e).hall
hall_after-more es e = hall_from-more empty_hall 0 es e ∙ ap (λ (k : ℕ). (step (hall_after es) k e).hall) (omega arith)

-- each entry has its reply
pub length-history : (h : History) → IsHistory h → length h.replies ≡ length h.events
length-history h is = ap length is.replied ∙ length-replies empty_hall 0 h.events
