-- events that pour: first one thing leaves, and then what it had is poured
use Rattle.std.proofs.Common.{◌≡◌, ℕ, ◌+◌, ◌-◌, ◌^◌, ◌<◌, ◌≤◌, ◌==◌, Bool, true, false, cond, List, [], ◌∷◌, filter, length, min, refl, ap, sym, ◌∙◌, arith, Some, None}
use Rattle.std.specs.FinMap.{get, insert}
use Rattle.mea_base.specs.Queue.{lacks_after, waiting_after, granted_in}
use Rattle.mea_base.proofs.Totals.{get_inserted}
use Rattle.mea_base.proofs.Tests.{at_same}
use Rattle.mea_events.specs.declared.sem_event.SemEvent.{SemEvent}
use Rattle.mea_sem_model.specs.Hall.{Hall, pour, wakes_of}
use Rattle.mea_sem_model.specs.Cause.{cause_of}
use Rattle.mea_sem_model.specs.Valid.{Fits}
use Rattle.mea_sem_model.specs.Step.{step}
use Rattle.mea_sem_core.specs.Core as cores
use Rattle.mea_sem.specs.declared.entries.SemaphoreEntry.{SemaphoreEntry}
use Rattle.mea_sem.specs.Store.{Store, hall_of, IsLinked}
use Rattle.mea_sem.specs.Kept.{wakers_in, AreKeptSemaphores}
use Rattle.mea_sem.proofs.Cores.{debts-pour, still_waiting, paid_whole, one_more}
use Rattle.mea_sem.proofs.Seen.{wakes_seen}
use Rattle.mea_sem.proofs.PourHalls.{PoursInto, hall_poured, linked_poured}
use Rattle.mea_sem.proofs.Weighs.{Weighs, Things, nothing, if_plain, always, weighs_after, weighs_as, weighs_pour}
use Rattle.mea_sem.proofs.Keeping.{Plays, settled_as}

-- ---- the wakers of those who are granted leave the queue
wakers_split : (q : List (cores.Waiter ℕ × ℕ)) (before n : ℕ)
    → wakers_in (still_waiting (lacks_after before q n)) + length (cores.wakers_of (paid_whole (lacks_after before q n))) ≡ wakers_in q
wakers_split [] before n = refl
wakers_split ((cores.Acquires m d v, l) ∷ q) before n =
    let so_far = wakers_split q (before + l) n in
    one_more (min l (before + l - n)) (λ rest paid. wakers_in rest + length (cores.wakers_of paid) ≡ wakers_in q + 1) (cores.Acquires m d v)
    (still_waiting (lacks_after (before + l) q n)) (filter {X = cores.Waiter ℕ × ℕ} (λ e. e.1 == 0) (lacks_after (before + l) q n))
    (omega (arith, so_far)) (omega (arith, so_far))
wakers_split ((cores.Owes, l) ∷ q) before n =
    let so_far = wakers_split q (before + l) n in
    one_more (min l (before + l - n)) (λ rest paid. wakers_in rest + length (cores.wakers_of paid) ≡ wakers_in q) cores.Owes
    (still_waiting (lacks_after (before + l) q n)) (filter {X = cores.Waiter ℕ × ℕ} (λ e. e.1 == 0) (lacks_after (before + l) q n))
    so_far so_far

pub wakers_poured : (q : List (cores.Waiter ℕ × ℕ)) (n : ℕ) → wakers_in (waiting_after q n) + length (cores.wakers_of (granted_in q n)) ≡ wakers_in q
wakers_poured q n = wakers_split q 0 n

-- the semaphore after n are poured into it, with its wakers handed on
abbrev pub poured_entry : SemaphoreEntry → ℕ → SemaphoreEntry
poured_entry e n = record e { core = record (cores.poured e.core n) { wakes = [] } }

-- what is kept between the two
abbrev pub between : Store → Store → ℕ → SemaphoreEntry → Store
between st st' s e1 = record { semaphores = insert st.semaphores s e1; futures = st'.futures; permits = st'.permits }

pub between_at : (st st' : Store) (s : ℕ) (e1 : SemaphoreEntry) (q : ℕ) → get (between st st' s e1).semaphores q ≡ cond (s == q) (Some e1) (get st.semaphores q)
between_at st st' s e1 q = get_inserted st.semaphores s q e1

twice : {X : Type 0} (t : Bool) (a b c : X) → cond t a c ≡ cond t a (cond t b c)
twice true a b c = refl
twice false a b c = refl

module _ (st st' : Store) (w sp next i s n : ℕ) (event : SemEvent) (e e1 : SemaphoreEntry) (k : AreKeptSemaphores st w sp next) (less : next ≤ i)
    (low : i < 2 ^ 64) (there : get st.semaphores s ≡ Some e)
    (semaphores : (q : ℕ) → get st'.semaphores q ≡ cond (s == q) (Some (poured_entry e1 n)) (get st.semaphores q)) where
  abbrev st1 : Store
  st1 = between st st' s e1

  into : PoursInto st1 st' s n e1 (poured_entry e1 n)
  into = record {
    there = between_at st st' s e1 s ∙ at_same s s (Some e1) (get st.semaphores s) refl;
    semaphores = λ q. semaphores q ∙ twice (s == q) (Some (poured_entry e1 n)) (Some e1) (get st.semaphores q)
        ∙ ap (cond (s == q) (Some (poured_entry e1 n))) (sym (between_at st st' s e1 q));
    futures = refl;
    permits = refl;
    free = refl;
    queue = refl;
    cut = refl;
    closed = refl;
    granted = refl;
    made = refl;
    released = refl;
    forgotten = refl;
    named = refl;
  }

  -- the wakers that are handed on are those of the event
  pub wakes_poured : (h1 : Hall) → hall_of st1 (i + 1) ≡ h1 → IsLinked st1 (i + 1) → wakes_of h1 s n ≡ cores.wakers_of (granted_in e1.core.queue n)
  wakes_poured h1 is linked = ap (λ h. wakes_of h s n) (sym is) ∙ wakes_seen st1 (i + 1) s e1 linked into.there n

  pub plays_poured : (h1 : Hall) (w1 w' sp' a b : ℕ) (p r : Things) → Fits event → cause_of (hall_of st next) event ≡ None
      → (step (hall_of st next) i event).hall ≡ pour h1 s n
      → hall_of st1 (i + 1) ≡ h1 → IsLinked st1 (i + 1) → Weighs (hall_of st next) h1 s a b p r
      → e1.core.live + n + e1.forgotten ≡ e1.made + e1.released + cores.debts e1.core.queue
      → cores.held_of (cores.poured e1.core n) + a ≡ cores.held_of e.core + b
      → e1.plain + p if_plain ≡ e.plain + r if_plain → e1.things + p always ≡ e.things + r always → (r if_plain ≤ 1) × (r always ≤ 1)
      → e1.released ≤ e.released + 2 ^ 64 → e1.forgotten ≤ e.forgotten + 2 ^ 64
      → w1 + wakers_in e.core.queue ≡ w + wakers_in e1.core.queue → w' + length (cores.wakers_of (granted_in e1.core.queue n)) ≡ w1 → w' ≤ sp' → w1 ≤ i + 1
      → Plays st st' next i event w' sp'
  plays_poured h1 w1 w' sp' a b p r fits allowed is hall linked weighs account held plain things few released forgotten registered woken room within =
      let e' : SemaphoreEntry = poured_entry e1 n in
      let poured : Weighs h1 (pour h1 s n) s 0 0 nothing nothing = weighs_pour h1 s s n in
      settled_as st st' w sp next i s event e e' k less low fits allowed (pour h1 s n) is w' sp' a b p r there semaphores
      (hall_poured st1 st' (i + 1) s n e1 e' linked into ∙ ap (λ h. pour h s n) hall)
      (linked_poured st1 st' (i + 1) s n e1 e' linked into)
      (weighs_as (hall_of st next) (pour h1 s n) s (a + 0) (b + 0) _ _ a b p r
      (weighs_after (hall_of st next) h1 (pour h1 s n) s a b p r 0 0 nothing nothing weighs poured) (omega arith) (λ chosen. omega arith))
      (record {
        account = (let d = debts-pour e1.core.queue n in let x = d.0 in let y = d.1 in omega (arith, account, x, y));
        held = held;
        plain = plain;
        things = things;
        few = few;
        quiet = refl;
        released = released;
        forgotten = forgotten;
      })
      (let v = wakers_poured e1.core.queue n in omega (arith, registered, woken, v)) room (omega (arith, woken, within))
