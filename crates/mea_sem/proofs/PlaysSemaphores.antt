-- events that change a semaphore and nothing else
use Rattle.std.proofs.Common.{◌≡◌, ℕ, ◌+◌, ◌-◌, ◌^◌, ◌<◌, ◌≤◌, ◌==◌, true, false, cond, List, ◌∷◌, min, refl, ap, sym, ◌∙◌, arith, Some, None}
use Rattle.std.specs.FinMap.{get, insert}
use Rattle.mea_events.specs.declared.sem_event.SemEvent.{SemEvent}
use Rattle.mea_events.specs.declared.sem_event.SemEvent.TheVariants as events
use Rattle.mea_sem_model.specs.Hall.{Hall, Debt, semaphore_at, with_semaphore}
use Rattle.mea_sem_model.specs.Cause.{cause_of}
use Rattle.mea_sem_model.specs.Valid.{Fits}
use Rattle.mea_sem_model.specs.Step.{step, forgetting, forgetting_exactly, with_debt}
use Rattle.mea_sem_core.specs.Core as cores
use Rattle.mea_sem_core.specs.Calls as calls
use Rattle.mea_sem.specs.declared.entries.SemaphoreEntry.{SemaphoreEntry}
use Rattle.mea_sem.specs.Store.{Store, queue_of, hall_of}
use Rattle.mea_sem.specs.Actions.{with_forgotten}
use Rattle.mea_sem.specs.Kept.{wakers_in, AreKeptSemaphores}
use Rattle.mea_sem.proofs.Seen.{seen_at}
use Rattle.mea_sem.proofs.Renumbered.{hall_renumbered, kept_renumbered}
use Rattle.mea_sem.proofs.Still.{IsStill, still_queue, linked_still, queue_still, hall_still}
use Rattle.mea_sem.proofs.Weighs.{nothing, weighs_semaphore}
use Rattle.mea_sem.proofs.Keeping.{Plays, settled, settled_as, with_things}
use Rattle.mea_sem.proofs.Cores.{waiting-debt, waker-debt, AreApart-debt, only-debt, debts-debt}

-- s alone is changed, and has e' now
pub record Puts (st st' : Store) (s : ℕ) (e e' : SemaphoreEntry) : Type 0 where
  pub there : get st.semaphores s ≡ Some e
  pub semaphores : (q : ℕ) → get st'.semaphores q ≡ cond (s == q) (Some e') (get st.semaphores q)
  pub futures : st'.futures ≡ st.futures

module _ (st st' : Store) (w sp next i s n : ℕ) (e : SemaphoreEntry) (k : AreKeptSemaphores st w sp next) (less : next ≤ i) (low : i < 2 ^ 64) (small : n < 2 ^ 64) where
  -- n permits are forgotten, as far as they are free
  pub plays_forget : (event : SemEvent) → Fits event → cause_of (hall_of st next) event ≡ None
      → (step (hall_of st next) i event).hall ≡ with_semaphore (hall_of st next) s (forgetting (semaphore_at (hall_of st next) s) n)
      → Puts st st' s e (with_forgotten e n) → st'.permits ≡ st.permits → cores.held_of (calls.forgetting e.core n) ≡ cores.held_of e.core
      → min n e.core.free ≤ e.core.live → Plays st st' next i event w sp
  plays_forget event fits allowed is c permits held within =
      let still : IsStill e (with_forgotten e n) = still_queue e (with_forgotten e n) refl refl refl refl in
      let old = k.each s e c.there in
      settled_as st st' w sp next i s event e (with_forgotten e n) k less low fits allowed _ is w sp 0 0 nothing nothing c.there c.semaphores
      (hall_still st st' next i s e (with_forgotten e n) k.linked less c.there c.semaphores c.futures still (queue_of st.futures next s e.core.queue)
      (queue_still st st' next i s e (with_forgotten e n) k.linked less c.there c.semaphores c.futures still)
      ∙ (λ j. record {
        semaphores = insert (hall_of st next).semaphores s (forgetting (sym (seen_at st next s e k.linked c.there) j) n);
        futures = (hall_of st next).futures;
        permits = permits j;
      }))
      (linked_still st st' next i s e (with_forgotten e n) k.linked less c.there c.semaphores c.futures still)
      (weighs_semaphore (hall_of st next) s s (forgetting (semaphore_at (hall_of st next) s) n))
      (with_things (let o = old.account in omega (arith, o, within)) (omega (arith, held)) refl refl old.quiet refl (omega arith))
      refl k.room (let f = k.few in omega (arith, f))

  abbrev exactly_entry : SemaphoreEntry
  exactly_entry = record e { core = calls.forgetting_exactly e.core n; forgotten = e.forgotten + n }

  -- a debt is seen as a debt
  seen_debt : (b m : ℕ) (q : List (cores.Waiter ℕ × ℕ)) → queue_of st'.futures b s (calls.with_debt q m) ≡ with_debt (queue_of st'.futures b s q) m
  seen_debt b m q = elim (m == 0)
      as (λ t. queue_of st'.futures b s (cond t q ((cores.Owes, m) ∷ q)) ≡ cond t (queue_of st'.futures b s q)
      ((Debt, m) ∷ queue_of st'.futures b s q)) [ true ↦ refl | false ↦ refl ]

  wakers-debt : (m : ℕ) (q : List (cores.Waiter ℕ × ℕ)) → wakers_in (calls.with_debt q m) ≡ wakers_in q
  wakers-debt m q = elim (m == 0) as (λ t. wakers_in (cond t q ((cores.Owes, m) ∷ q)) ≡ wakers_in q) [ true ↦ refl | false ↦ refl ]

  pub plays_forgetx : cause_of (hall_of st next) (events.Forgetx s n) ≡ None → Puts st st' s e exactly_entry → st'.permits ≡ st.permits
      → cores.held_of (calls.forgetting_exactly e.core n) ≡ cores.held_of e.core → min n e.core.free ≤ e.core.live
      → Plays st st' next i (events.Forgetx s n) w sp
  plays_forgetx allowed c permits held within =
      let still : IsStill e exactly_entry = record {
        waiting = λ m. waiting-debt e.core.queue (n - min n e.core.free) m;
        wakers = λ m. waker-debt e.core.queue (n - min n e.core.free) m;
        granted = refl;
        cut = refl;
        closed = refl;
        apart = λ h. AreApart-debt e.core.queue (n - min n e.core.free) h;
        only_debts = λ h. only-debt e.core.queue (n - min n e.core.free) h;
      } in
      let old = k.each s e c.there in
      let h : Hall = hall_of st next in
      let queue : queue_of st'.futures (i + 1) s exactly_entry.core.queue ≡ with_debt (queue_of st.futures next s e.core.queue) (n - min n e.core.free) =
      seen_debt (i + 1) (n - min n e.core.free) e.core.queue ∙ ap (λ q. with_debt q (n - min n e.core.free))
      (queue_still st st' next i s e exactly_entry k.linked less c.there c.semaphores c.futures still) in
      settled st st' w sp next i s (events.Forgetx s n) e exactly_entry k less low tt allowed w sp 0 0 nothing nothing c.there c.semaphores
      (hall_still st st' next i s e exactly_entry k.linked less c.there c.semaphores c.futures still
      (with_debt (queue_of st.futures next s e.core.queue) (n - min n e.core.free)) queue
      ∙ (λ j. record {
        semaphores = insert h.semaphores s (forgetting_exactly (sym (seen_at st next s e k.linked c.there) j) n);
        futures = h.futures;
        permits = permits j;
      }))
      (linked_still st st' next i s e exactly_entry k.linked less c.there c.semaphores c.futures still)
      (weighs_semaphore h s s (forgetting_exactly (semaphore_at h s) n))
      (with_things (let o = old.account in let d = debts-debt e.core.queue (n - min n e.core.free) in omega (arith, o, within, d)) (omega (arith, held)) refl refl old.quiet refl (omega arith))
      (ap (λ m. w + m) (sym (wakers-debt (n - min n e.core.free) e.core.queue))) k.room (let f = k.few in omega (arith, f))

  abbrev unnamed_entry : SemaphoreEntry
  unnamed_entry = record e { named = false }

  pub plays_endsem : cause_of (hall_of st next) (events.Endsem s) ≡ None → Puts st st' s e unnamed_entry → st'.permits ≡ st.permits
      → Plays st st' next i (events.Endsem s) w sp
  plays_endsem allowed c permits =
      let still : IsStill e unnamed_entry = still_queue e unnamed_entry refl refl refl refl in
      let old = k.each s e c.there in
      let h : Hall = hall_of st next in
      settled st st' w sp next i s (events.Endsem s) e unnamed_entry k less low tt allowed w sp 0 0 nothing nothing c.there c.semaphores
      (hall_still st st' next i s e unnamed_entry k.linked less c.there c.semaphores c.futures still (queue_of st.futures next s e.core.queue)
      (queue_still st st' next i s e unnamed_entry k.linked less c.there c.semaphores c.futures still)
      ∙ (λ j. record {
        semaphores = insert h.semaphores s (record (sym (seen_at st next s e k.linked c.there) j) { named = false });
        futures = h.futures;
        permits = permits j;
      }))
      (linked_still st st' next i s e unnamed_entry k.linked less c.there c.semaphores c.futures still)
      (weighs_semaphore h s s (record (semaphore_at h s) { named = false }))
      (with_things old.account refl refl refl old.quiet refl (omega arith))
      refl k.room (let f = k.few in omega (arith, f))

-- an event whose outcome leaves the hall as it is
pub plays_nothing : (st : Store) (w sp next i : ℕ) (event : SemEvent) → AreKeptSemaphores st w sp next → next ≤ i → i < 2 ^ 64
    → (step (hall_of st next) i event).hall ≡ hall_of st next → Plays st st next i event w sp
plays_nothing st w sp next i event k less low is = record {
  hall = hall_renumbered st next (i + 1) k.linked (omega arith) ∙ sym is;
  kept = kept_renumbered st w sp next i k less low;
}
