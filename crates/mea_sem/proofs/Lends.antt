-- the core that a hall lends stands for its semaphore
use Rattle.std.proofs.Common.{◌≡◌, ℕ, List, [], ◌∷◌, map, refl, ap, sym, ◌∙◌, Some}
use Rattle.std.specs.List.{AllByRecursion}
use Rattle.std.specs.Option.{option_map}
use Rattle.std.specs.FinMap.{get}
use Rattle.mea_base.proofs.NamedMaps.{get-seen}
use Rattle.mea_sem_model.specs.Hall.{Semaphore, Who, waker_of, waker_of_future, waker_of_who}
use Rattle.mea_sem_core.specs.declared.acquire.Acquire.TheVariants as acquires
use Rattle.mea_sem_core.specs.Core as cores
use Rattle.mea_sem.specs.declared.entries.SemaphoreEntry.{SemaphoreEntry}
use Rattle.mea_sem.specs.Store.{Store, name_of, who_of, queue_of, stage_of, stage_under, core_in, future_of, hall_of, IsOwned, IsLinked}
use Rattle.mea_sem.specs.Kept.{AreKeptSemaphores}
use Rattle.mea_sem.specs.StandsFor.{core_waker, StandsFor}
use Rattle.mea_sem.proofs.Cores.{Queue, IsAt, all_at}
use Rattle.mea_sem.proofs.Granted.{granted-seen, cut-seen}
use Rattle.mea_sem.proofs.Lives.{live-seen}
use Rattle.mea_sem.proofs.Names.{name-owner}
use Rattle.mea_sem.proofs.Seen.{seen_at}

module _ (st : Store) (b s : ℕ) (e : SemaphoreEntry) (linked : IsLinked st b) (there : get st.semaphores s ≡ Some e) where
  -- who waits in the core has the waker of the future that it names
  waker_seen : (x : cores.Waiter ℕ × ℕ) → IsAt e.core.queue x → core_waker x.0 ≡ waker_of_who (hall_of st b).futures (who_of st.futures b s x.0)
  waker_seen (cores.Acquires m d v, l) at = sym (
      ap waker_of_future (get-seen (λ g x. future_of st.semaphores x) st.futures (name_of st.futures b s m)
      ∙ ap (option_map (future_of st.semaphores)) (ap (get st.futures) (name-owner st b s m d linked owner) ∙ owner.there))
      ∙ ap (λ a. waker_of (stage_of a (core_in (get st.semaphores owner.entry.semaphore)))) owner.acquire
      ∙ ap (λ k. waker_of (stage_of (acquires.Queued d m) (core_in (get st.semaphores k)))) owner.semaphore
      ∙ ap (λ o. waker_of (stage_of (acquires.Queued d m) (core_in o))) there
      ∙ ap (λ o. waker_of (stage_under o (get e.core.cut m))) at.1)
    where
      owner : IsOwned st s m d
      owner = linked.owned s e m d l there at.0
  waker_seen (cores.Owes, l) at = refl

  wakers_alike : (q : Queue) → AllByRecursion (IsAt e.core.queue) q
      → map {A = cores.Waiter ℕ × ℕ} {B = List ℕ × ℕ} (λ x. (core_waker x.0, x.1)) q ≡ map {A = Who × ℕ} {B = List ℕ × ℕ}
      (λ x. (waker_of_who (hall_of st b).futures x.0, x.1)) (queue_of st.futures b s q)
  wakers_alike [] at = refl
  wakers_alike (x ∷ q) at = λ i. (waker_seen x at.0 i, x.1) ∷ wakers_alike q at.1 i

pub stands_for : (st : Store) (w sp next s : ℕ) (e : SemaphoreEntry) → AreKeptSemaphores st w sp next → get st.semaphores s ≡ Some e → StandsFor (hall_of st next) s e.core
stands_for st w sp next s e kept there =
    let seen = seen_at st next s e kept.linked there in
    record {
      free = ap (λ (r : Semaphore). r.free) (sym seen);
      live = sym (live-seen st w sp next s e kept there);
      queue = wakers_alike st next s e kept.linked there e.core.queue (all_at e.core.queue (kept.linked.numbered s e there).apart)
          ∙ ap (λ (r : Semaphore). map {A = Who × ℕ} {B = List ℕ × ℕ} (λ x. (waker_of_who (hall_of st next).futures x.0, x.1)) r.queue) (sym seen);
      granted = granted-seen st next s e kept.linked there;
      cut = cut-seen st next s e kept.linked there;
      closed = ap (λ (r : Semaphore). r.closed) (sym seen);
    }
