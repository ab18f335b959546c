-- the wakers that the cores keep are those of the futures that wait
use Rattle.std.proofs.Common.{◌≡◌, ℕ, ◌+◌, List, [], ◌∷◌, refl, ap, sym, ◌∙◌, Option, Some, None}
use Rattle.std.specs.Option.{option_map}
use Rattle.std.specs.Ordering.{nat_cmp}
use Rattle.std.specs.FinMap.{FinMap, get}
use Rattle.mea_base.specs.Totals.{weight}
use Rattle.mea_base.proofs.Totals.{total-alike}
use Rattle.mea_base.proofs.NamedMaps.{get-seen}
use Rattle.mea_sem_model.specs.Hall.{Semaphore}
use Rattle.mea_sem_model.specs.Waiters.{waiters_in, waiters}
use Rattle.mea_sem_core.specs.Core as cores
use Rattle.mea_sem.specs.declared.entries.SemaphoreEntry.{SemaphoreEntry}
use Rattle.mea_sem.specs.declared.entries.FutureEntry.{FutureEntry}
use Rattle.mea_sem.proofs.Inside.{Inside}
use Rattle.mea_sem.specs.Play.{Play}
use Rattle.mea_sem.specs.Store.{Store, hall_of, queue_of, semaphore_of}
use Rattle.mea_sem.specs.Kept.{wakers_in, AreKeptSemaphores}
use Rattle.mea_sem.proofs.Meets.{registered_in, store_in, seen_in, IsKeptIn}

waiters-seen : (m : FinMap nat_cmp FutureEntry) (b s : ℕ) (q : List (cores.Waiter ℕ × ℕ)) → waiters_in (queue_of m b s q) ≡ wakers_in q
waiters-seen m b s [] = refl
waiters-seen m b s ((cores.Acquires n d w, l) ∷ q) = ap (λ k. k + 1) (waiters-seen m b s q)
waiters-seen m b s ((cores.Owes, l) ∷ q) = waiters-seen m b s q

weight-seen : (m : FinMap nat_cmp FutureEntry) (b s : ℕ) (o : Option SemaphoreEntry)
    → weight (λ k (r : Semaphore). waiters_in r.queue) s (option_map (semaphore_of m b s) o) ≡ weight (λ k (e : SemaphoreEntry). wakers_in e.core.queue) s o
weight-seen m b s None = refl
weight-seen m b s (Some e) = waiters-seen m b s e.core.queue

pub waiters-kept : (st : Store) (w sp n : ℕ) → AreKeptSemaphores st w sp n → w ≡ waiters (hall_of st n)
waiters-kept st w sp n k = k.counted
    ∙ sym (total-alike (λ k (r : Semaphore). waiters_in r.queue) (λ k (e : SemaphoreEntry). wakers_in e.core.queue) (hall_of st n).semaphores st.semaphores
    (λ s. ap (weight (λ k (r : Semaphore). waiters_in r.queue) s) (get-seen (semaphore_of st.futures n) st.semaphores s)
    ∙ weight-seen st.futures n s (get st.semaphores s)))

pub waiters-counted : (a : Inside) {v : Play} → seen_in a ≡ v → IsKeptIn a → registered_in a ≡ waiters v.hall
waiters-counted a seen k = waiters-kept (store_in a) _ _ a.kept.next k ∙ ap (λ (p : Play). waiters p.hall) seen
