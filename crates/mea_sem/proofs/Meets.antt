-- a hall as a method meets it, and as the method leaves it
use Rattle.std.proofs.Common.{◌≡◌, ℕ, ◌+◌, ◌^◌, ◌<◌, ◌≤◌, ◌++◌, List, [], subst, sym, ap, ◌∙◌, append-nil, Some}
use Rattle.mea_family.specs.declared.answer.Answer.{Answer}
use Rattle.std.specs.FinMap.{entries}
use Rattle.mea_base.specs.Named.{at}
use Rattle.mea_events.specs.declared.sem_event.SemEvent.{SemEvent}
use Rattle.mea_sem_model.specs.Hall.{Hall}
use Rattle.mea_sem_model.specs.Step.{Outcome, step}
use Rattle.mea_sem.proofs.Inside.{Inside}
use Rattle.mea_sem.specs.declared.entries.SemaphoreEntry.{SemaphoreEntry}
use Rattle.mea_sem.specs.declared.entries.FutureEntry.{FutureEntry}
use Rattle.mea_sem.specs.declared.entries.PermitEntry.{PermitEntry}
use Rattle.mea_sem.specs.Store.{Store, store_of, with_ended, hall_of}
use Rattle.mea_sem.specs.Kept.{AreKeptSemaphores, wakers_of_all}
use Rattle.mea_family.specs.Play.{Yields}
use Rattle.mea_sem.specs.Play.{Play}
use Rattle.mea_sem.proofs.Keeping.{Plays}

-- its semaphores, those of which nothing is left too
abbrev pub semaphores_in : Inside → List (ℕ × SemaphoreEntry)
semaphores_in a = with_ended a.kept.semaphores.entries a.kept.ended.items

-- its futures
abbrev pub futures_in : Inside → List (ℕ × FutureEntry)
futures_in a = entries a.kept.futures

-- its permits
abbrev pub permits_in : Inside → List (ℕ × PermitEntry)
permits_in a = entries a.kept.permits

abbrev pub store_in : Inside → Store
store_in a = store_of (semaphores_in a) (futures_in a) (permits_in a)

abbrev pub hall_in : Inside → Hall
hall_in a = hall_of (store_in a) a.kept.next

abbrev pub seen_in : Inside → Play
seen_in a = record { hall = hall_in a; wakes = a.list.wakers; next = a.kept.next }

-- how many wakers its cores keep
abbrev pub registered_in : Inside → ℕ
registered_in a = wakers_of_all (store_in a)

abbrev pub IsKeptIn : Inside → Type 0
IsKeptIn a = AreKeptSemaphores (store_in a) (registered_in a) a.list.registered a.kept.next

-- the hall v, in which event number i is played
pub record Meets (a : Inside) (v : Play) (i : ℕ) : Type 0 where
  pub seen : seen_in a ≡ v
  pub kept : IsKeptIn a
  pub least : v.next ≤ i
  pub low : i < 2 ^ 64

-- and its semaphore s
pub record MeetsSemaphore (a : Inside) (v : Play) (i s : ℕ) (e : SemaphoreEntry) : Type 0 where
  pub meets : Meets a v i
  pub there : at (semaphores_in a) s ≡ Some e

-- and its future f, with the semaphore of that
pub record MeetsFuture (a : Inside) (v : Play) (i f : ℕ) (x : FutureEntry) (e : SemaphoreEntry) : Type 0 where
  pub meets : Meets a v i
  pub is : at (futures_in a) f ≡ Some x
  pub there : at (semaphores_in a) x.semaphore ≡ Some e

-- and its permit p, with the semaphore of that
pub record MeetsPermit (a : Inside) (v : Play) (i p : ℕ) (x : PermitEntry) (e : SemaphoreEntry) : Type 0 where
  pub meets : Meets a v i
  pub is : at (permits_in a) p ≡ Some x
  pub there : at (semaphores_in a) x.semaphore ≡ Some e

-- event number i had this outcome: what is kept now, and what the contract says
pub record Done (v : Play) (i : ℕ) (o : Outcome) (answer : Answer) (st' : Store) (w' sp' : ℕ) (wakes' : List ℕ) : Type 0 where
  pub kept : AreKeptSemaphores st' w' sp' (i + 1)
  pub yields : Yields v i o answer (record { hall = hall_of st' (i + 1); wakes = wakes'; next = i + 1 })

pub its_semaphore : {a : Inside} {v : Play} {i f : ℕ} {x : FutureEntry} {e : SemaphoreEntry} → MeetsFuture a v i f x e → MeetsSemaphore a v i x.semaphore e
its_semaphore m = record { meets = m.meets; there = m.there }

pub permits_semaphore : {a : Inside} {v : Play} {i p : ℕ} {x : PermitEntry} {e : SemaphoreEntry} → MeetsPermit a v i p x e → MeetsSemaphore a v i x.semaphore e
permits_semaphore m = record { meets = m.meets; there = m.there }

-- what was written back as it stood left what was there
pub kept_store : (a : Inside) {st : Store} → IsKeptIn a → st ≡ store_in a → AreKeptSemaphores st (registered_in a) a.list.registered a.kept.next
kept_store a k same = subst (λ (st : Store). AreKeptSemaphores st (registered_in a) a.list.registered a.kept.next) (sym same) k

pub seen_store : (a : Inside) {v : Play} {st : Store} → seen_in a ≡ v → st ≡ store_in a
    → record { hall = hall_of st a.kept.next; wakes = a.list.wakers; next = a.kept.next } ≡ v
seen_store a seen same = (λ j. record { hall = hall_of (same j) a.kept.next; wakes = a.list.wakers; next = a.kept.next }) ∙ seen

-- an insertion that failed left what was there
pub kept_as_futures : (a : Inside) {fs : List (ℕ × FutureEntry)} → IsKeptIn a → fs ≡ futures_in a
    → AreKeptSemaphores (store_of (semaphores_in a) fs (permits_in a)) (registered_in a) a.list.registered a.kept.next
kept_as_futures a k same = subst
    (λ (fs : List (ℕ × FutureEntry)). AreKeptSemaphores (store_of (semaphores_in a) fs (permits_in a)) (registered_in a) a.list.registered a.kept.next) (sym same) k

pub seen_as_futures : (a : Inside) {v : Play} {fs : List (ℕ × FutureEntry)} → seen_in a ≡ v → fs ≡ futures_in a
    → record { hall = hall_of (store_of (semaphores_in a) fs (permits_in a)) a.kept.next; wakes = a.list.wakers; next = a.kept.next } ≡ v
seen_as_futures a seen same =
    (λ j. record { hall = hall_of (store_of (semaphores_in a) (same j) (permits_in a)) a.kept.next; wakes = a.list.wakers; next = a.kept.next }) ∙ seen

pub kept_as_permits : (a : Inside) {ps : List (ℕ × PermitEntry)} → IsKeptIn a → ps ≡ permits_in a
    → AreKeptSemaphores (store_of (semaphores_in a) (futures_in a) ps) (registered_in a) a.list.registered a.kept.next
kept_as_permits a k same = subst
    (λ (ps : List (ℕ × PermitEntry)). AreKeptSemaphores (store_of (semaphores_in a) (futures_in a) ps) (registered_in a) a.list.registered a.kept.next) (sym same) k

pub seen_as_permits : (a : Inside) {v : Play} {ps : List (ℕ × PermitEntry)} → seen_in a ≡ v → ps ≡ permits_in a
    → record { hall = hall_of (store_of (semaphores_in a) (futures_in a) ps) a.kept.next; wakes = a.list.wakers; next = a.kept.next } ≡ v
seen_as_permits a seen same =
    (λ j. record { hall = hall_of (store_of (semaphores_in a) (futures_in a) (same j)) a.kept.next; wakes = a.list.wakers; next = a.kept.next }) ∙ seen

module _ {a : Inside} {v : Play} {i : ℕ} (m : Meets a v i) where
  pub later : a.kept.next ≤ i
  later = subst (λ (p : Play). p.next ≤ i) (sym m.seen) m.least

  -- what is said of the hall that callers see goes for the one that is kept, and the other way round
  pub to_kept : (P : Hall → Type 0) → P v.hall → P (hall_in a)
  to_kept P h = subst (λ (p : Play). P p.hall) (sym m.seen) h

  -- the event is played, with these wakers and this reply
  pub done : {st' : Store} {w' sp' : ℕ} (wakes' : List ℕ) (event : SemEvent) (reply : Answer) → Plays (store_in a) st' a.kept.next i event w' sp'
      → wakes' ≡ a.list.wakers ++ (step (hall_in a) i event).wakes → reply ≡ (step (hall_in a) i event).reply
      → Done v i (step v.hall i event) reply st' w' sp' wakes'
  done {st'} wakes' event reply plays woken replied = record {
    kept = plays.kept;
    yields = subst (λ (p : Play). Yields p i (step p.hall i event) reply (record { hall = hall_of st' (i + 1); wakes = wakes'; next = i + 1 })) m.seen (record {
      replied = replied;
      moved = λ j. record { hall = plays.hall j; wakes = woken j; next = i + 1 };
    });
  }

  -- the same where it makes no wakers ready
  pub done_quietly : {st' : Store} {w' sp' : ℕ} (event : SemEvent) (reply : Answer) → Plays (store_in a) st' a.kept.next i event w' sp'
      → (step (hall_in a) i event).wakes ≡ [] → reply ≡ (step (hall_in a) i event).reply
      → Done v i (step v.hall i event) reply st' w' sp' a.list.wakers
  done_quietly event reply plays quiet replied = done a.list.wakers event reply plays
      (sym (append-nil a.list.wakers) ∙ ap (λ ws. a.list.wakers ++ ws) (sym quiet)) replied
