-- a greater bound on the names changes nothing
use Rattle.std.proofs.Common.{◌≡◌, ℕ, ◌+◌, ◌^◌, ◌<◌, ◌≤◌, refl, ap, sym, subst, ◌∙◌, arith, Option, Some, None}
use Rattle.std.specs.Option.{option_map}
use Rattle.std.specs.FinMap.{get}
use Rattle.mea_base.proofs.NamedMaps.{same_named, get-seen}
use Rattle.mea_sem_model.specs.Hall.{Waiter}
use Rattle.mea_sem_model.specs.Valid.{IsValid, IsBelow, IsAccounted}
use Rattle.mea_sem_model.proofs.Keeps.{below_later}
use Rattle.mea_sem_core.specs.Core as cores
use Rattle.mea_sem.specs.declared.entries.SemaphoreEntry.{SemaphoreEntry}
use Rattle.mea_sem.specs.Store.{Store, who_of, queue_of, seen_as, semaphore_of, hall_of, IsLinked}
use Rattle.mea_sem.specs.Kept.{IsKeptEntry, AreKeptSemaphores}
use Rattle.mea_sem.proofs.Cores.{IsAt, all_at, all_by}
use Rattle.mea_sem.proofs.Names.{name-owner, queue_of-same}

module _ (st : Store) (b b' : ℕ) (linked : IsLinked st b) (more : b ≤ b') where
  pub linked_later : IsLinked st b'
  linked_later = record {
    home = linked.home;
    owned = linked.owned;
    granted = linked.granted;
    cut = linked.cut;
    apart = linked.apart;
    below = λ f x is. (let small = linked.below f x is in omega arith);
    numbered = linked.numbered;
  }

  who_same : (s : ℕ) (e : SemaphoreEntry) → get st.semaphores s ≡ Some e → (x : cores.Waiter ℕ × ℕ) → IsAt e.core.queue x
      → who_of st.futures b' s x.0 ≡ who_of st.futures b s x.0
  who_same s e is (cores.Acquires n d w, l) at =
      let owner = linked.owned s e n d l is at.0 in
      ap Waiter (name-owner st b' s n d linked_later owner ∙ sym (name-owner st b s n d linked owner))
  who_same s e is (cores.Owes, l) at = refl

  queue_same : (s : ℕ) (e : SemaphoreEntry) → get st.semaphores s ≡ Some e → queue_of st.futures b' s e.core.queue ≡ queue_of st.futures b s e.core.queue
  queue_same s e is = queue_of-same st.futures st.futures b b' s e.core.queue
      (all_by (IsAt e.core.queue) _ (who_same s e is) e.core.queue (all_at e.core.queue (linked.numbered s e is).apart))

  semaphores_same : (hall_of st b').semaphores ≡ (hall_of st b).semaphores
  semaphores_same = same_named _ _
      (λ q. get-seen (semaphore_of st.futures b') st.semaphores q ∙ at_each q (get st.semaphores q) refl
      ∙ sym (get-seen (semaphore_of st.futures b) st.semaphores q))
    where
      at_each : (q : ℕ) (o : Option SemaphoreEntry) → get st.semaphores q ≡ o
          → option_map (semaphore_of st.futures b' q) o ≡ option_map (semaphore_of st.futures b q) o
      at_each q None is = refl
      at_each q (Some d) is = λ i. Some (seen_as d (queue_same q d is i))

  pub hall_renumbered : hall_of st b' ≡ hall_of st b
  hall_renumbered = λ i. record { semaphores = semaphores_same i; futures = (hall_of st b).futures; permits = st.permits }

-- an event that changes nothing
pub kept_renumbered : (st : Store) (w sp next i : ℕ) → AreKeptSemaphores st w sp next → next ≤ i → i < 2 ^ 64 → AreKeptSemaphores st w sp (i + 1)
kept_renumbered st w sp next i k less low =
    let same : hall_of st (i + 1) ≡ hall_of st next = hall_renumbered st next (i + 1) k.linked (omega arith) in
    record {
      valid = subst IsValid (sym same) k.valid;
      below = subst (λ h. IsBelow h (i + 1)) (sym same) (below_later (hall_of st next) next (i + 1) (omega arith) k.below);
      accounted = λ s. subst (λ h. IsAccounted h s) (sym same) (k.accounted s);
      linked = linked_later st next (i + 1) k.linked (omega arith);
      each = λ s e is. subst (λ h. IsKeptEntry h (i + 1) s e) (sym same) (later s e (k.each s e is));
      counted = k.counted;
      room = k.room;
      few = (let f = k.few in omega (arith, f));
      low = omega arith;
    }
  where
    later : (s : ℕ) (e : SemaphoreEntry) → IsKeptEntry (hall_of st next) next s e → IsKeptEntry (hall_of st next) (i + 1) s e
    later s e d = record {
      account = d.account;
      held = d.held;
      plain = d.plain;
      things = d.things;
      few = ((let small = d.few.0 in omega arith), (let small = d.few.1 in omega arith));
      quiet = d.quiet;
      released = (let small = d.released in omega arith);
      forgotten = (let small = d.forgotten in omega arith);
    }
