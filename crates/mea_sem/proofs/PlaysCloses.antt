-- a close: all who wait are cut, and then what they were paid is poured
use Rattle.std.proofs.Common.{◌≡◌, ℕ, ◌+◌, ◌^◌, ◌<◌, ◌≤◌, ◌==◌, true, false, cond, [], ◌∷◌, length, refl, ap, sym, ◌∙◌, arith, Some, None, if◌then◌else◌}
use Rattle.std.specs.FinMap.{get}
use Rattle.std.proofs.lemmas.List.{nil_from_length}
use Rattle.mea_base.specs.Queue.{granted_in}
use Rattle.mea_family.specs.declared.answer.Answer.TheVariants as answers
use Rattle.mea_events.specs.declared.sem_event.SemEvent.TheVariants as events
use Rattle.mea_sem_model.specs.Hall.{Hall, Cut, semaphore_at, queue_at, everyone, debts_in, pour, cutting, closing, wakes_waiting}
use Rattle.mea_sem_model.specs.Cause.{cause_of}
use Rattle.mea_sem_model.specs.Step.{Outcome, step, quietly}
use Rattle.mea_sem_core.specs.Core as cores
use Rattle.mea_sem.specs.declared.entries.SemaphoreEntry.{SemaphoreEntry}
use Rattle.mea_sem.specs.Store.{Store, hall_of}
use Rattle.mea_sem.specs.Kept.{wakers_in, AreKeptSemaphores}
use Rattle.mea_sem.proofs.Cores.{Queue, debts-only}
use Rattle.mea_sem.proofs.Seen.{seen_at, wakes_waiting_seen}
use Rattle.mea_sem.proofs.CutHalls.{cut_entry, linked_cut, hall_cut, paid_in_seen}
use Rattle.mea_sem.proofs.Renumbered.{hall_renumbered, linked_later}
use Rattle.mea_sem.proofs.Weighs.{nothing, weighs_staged}
use Rattle.mea_sem.proofs.PlaysPours.{poured_entry, between, between_at, wakers_poured, plays_poured}
use Rattle.mea_sem.proofs.PlaysEnds.{PlaysWith}

-- ---- the wakers
wakers_only : (q : Queue) → wakers_in (cores.only_debts q) ≡ 0
wakers_only [] = refl
wakers_only ((cores.Acquires m d w, l) ∷ q) = wakers_only q
wakers_only ((cores.Owes, l) ∷ q) = wakers_only q

pub wakers_waiting : (q : Queue) → length (cores.wakers_of (cores.waiters_of q)) ≡ wakers_in q
wakers_waiting [] = refl
wakers_waiting ((cores.Acquires m d w, l) ∷ q) = omega (arith, wakers_waiting q)
wakers_waiting ((cores.Owes, l) ∷ q) = wakers_waiting q

none_poured : (q : Queue) (n : ℕ) → length (cores.wakers_of (granted_in (cores.only_debts q) n)) ≡ 0
none_poured q n = omega (arith, wakers_poured (cores.only_debts q) n, wakers_only q)

-- a pour into debts alone makes no waker ready
pub none_woken : (q : Queue) (n : ℕ) → cores.wakers_of (granted_in (cores.only_debts q) n) ≡ []
none_woken q n = nil_from_length (cores.wakers_of (granted_in (cores.only_debts q) n)) (none_poured q n)

-- ---- the event
module _ (st st' : Store) (w w' sp' sp next i s : ℕ) (e : SemaphoreEntry) (k : AreKeptSemaphores st w sp next) (less : next ≤ i) (low : i < 2 ^ 64)
    (there : get st.semaphores s ≡ Some e) where
  abbrev h : Hall
  h = hall_of st next

  abbrev paid : ℕ
  paid = cores.paid_waiting e.core.queue

  pub record Closes : Type 0 where
    pub plays : PlaysWith st st' next i (events.Close s) w' sp' (cores.wakers_of (cores.waiters_of e.core.queue))
    pub reply : answers.Done ≡ (step h i (events.Close s)).reply

  pub plays_close : cause_of h (events.Close s) ≡ None → e.core.closed ≡ false
      → ((q : ℕ) → get st'.semaphores q ≡ cond (s == q) (Some (poured_entry (cut_entry e) paid)) (get st.semaphores q))
      → st'.futures ≡ st.futures → st'.permits ≡ st.permits
      → cores.held_of (cores.poured (cores.cut_off e.core) paid) ≡ cores.held_of e.core → paid ≤ e.core.live
      → w' + wakers_in e.core.queue ≡ w → w' ≤ sp' → Closes
  plays_close allowed open_still semaphores futures permits held within woken room =
      let e1 : SemaphoreEntry = cut_entry e in
      let st1 : Store = between st st' s e1 in
      let old = k.each s e there in
      let seen = seen_at st next s e k.linked there in
      let h1 : Hall = cutting h s in
      let same : hall_of st (i + 1) ≡ h = hall_renumbered st next (i + 1) k.linked (omega arith) in
      let later = linked_later st next (i + 1) k.linked (omega arith) in
      let hall : hall_of st1 (i + 1) ≡ h1 = hall_cut st st1 (i + 1) s e later there (between_at st st' s e1) futures permits open_still
      ∙ ap (λ g. cutting g s) same in
      let linked = linked_cut st st1 (i + 1) s e later there (between_at st st' s e1) futures permits open_still in
      let outcome : step h i (events.Close s) ≡ record { hall = closing h s; reply = answers.Done; wakes = wakes_waiting h s } =
      ap (λ b. if b then quietly h answers.Done else record { hall = closing h s; reply = answers.Done; wakes = wakes_waiting h s })
      (ap (λ r. r.closed) seen ∙ open_still) in
      let poured : (step h i (events.Close s)).hall ≡ pour h1 s paid = ap (λ (o : Outcome). o.hall) outcome
      ∙ ap (pour h1 s) (paid_in_seen st next s e k.linked there) in
      record {
        plays = record {
          plays = plays_poured st st' w sp next i s paid (events.Close s) e e1 k less low there semaphores h1 w' w' sp' 0 0 nothing nothing tt allowed poured hall linked
              (weighs_staged h s s Cut (everyone (queue_at h s)) (record (semaphore_at h s) { queue = debts_in (queue_at h s); closed = true }))
              (let o = old.account in let d = debts-only e.core.queue in omega (arith, o, d, within)) (omega (arith, held)) refl refl (omega arith, omega arith) (omega arith)
              (omega arith) (let n = wakers_only e.core.queue in omega (arith, woken, n)) (let n = none_poured e.core.queue paid in omega (arith, n)) room
              (let f = k.few in omega (arith, f, woken));
          wakes = ap (λ (o : Outcome). o.wakes) outcome ∙ wakes_waiting_seen st next s e k.linked there;
        };
        reply = sym (ap (λ (o : Outcome). o.reply) outcome);
      }
