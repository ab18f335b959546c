-- a semaphore, and who waits at it, as they are seen by name
use Rattle.std.proofs.Common.{◌≡◌, ℕ, ◌==◌, ◌||◌, ◌++◌, Bool, true, false, List, [], ◌∷◌, map, refl, ap, sym, ◌∙◌, Some, unwrap_or}
use Rattle.std.specs.List.{AllByRecursion, flat_map}
use Rattle.std.specs.Option.{option_map}
use Rattle.std.specs.FinMap.{get}
use Rattle.std.proofs.lemmas.Bool.{eqb-true, eq-eqb}
use Rattle.mea_base.specs.Queue.{granted_in}
use Rattle.mea_base.proofs.NamedMaps.{get-seen}
use Rattle.mea_base.proofs.Queues.{granted_in-map, granted_in_keeps}
use Rattle.mea_sem_model.specs.Hall.{made_with, semaphore_at, queue_at, waker_of, waker_of_future, waker_of_who, wakes_of, names, everyone, wakes_waiting}
use Rattle.mea_sem_model.proofs.HallLemmas.{among}
use Rattle.mea_sem_core.specs.declared.acquire.Acquire.TheVariants as acquires
use Rattle.mea_sem_core.specs.Core as cores
use Rattle.mea_sem.specs.declared.entries.SemaphoreEntry.{SemaphoreEntry}
use Rattle.mea_sem.specs.declared.entries.FutureEntry.{FutureEntry}
use Rattle.mea_sem.specs.Store.{Store, is_under, has, name_of, who_of, queue_of, semaphore_of, stage_of, stage_under, core_in, future_of, hall_of, IsOwned, IsLinked}
use Rattle.mea_sem.proofs.Cores.{Queue, IsAt, all_at, all_by, is_number, is_among}
use Rattle.mea_sem.proofs.Names.{has-from, owner_has, name-has, name-owner}

module _ (st : Store) (b s : ℕ) (e : SemaphoreEntry) (linked : IsLinked st b) (there : get st.semaphores s ≡ Some e) where
  pub seen_at : semaphore_at (hall_of st b) s ≡ semaphore_of st.futures b s e
  seen_at = ap (λ o. unwrap_or o (made_with 0)) (get-seen (semaphore_of st.futures b) st.semaphores s ∙ ap (option_map (semaphore_of st.futures b s)) there)

  -- those whom a pour grants, by name
  pub granted_names : (n : ℕ) → granted_in (queue_at (hall_of st b) s) n ≡ map (who_of st.futures b s) (granted_in e.core.queue n)
  granted_names n = ap (λ r. granted_in r.queue n) seen_at ∙ granted_in-map (who_of st.futures b s) e.core.queue n

  -- a future is named by a waiter of s where it has the waiter's number
  pub names-number : (q : ℕ) (x : FutureEntry) (w : cores.Waiter ℕ) (l : ℕ) → get st.futures q ≡ Some x → x.semaphore ≡ s → IsAt e.core.queue (w, l)
      → (n d : ℕ) → x.acquire ≡ acquires.Queued d n → names (who_of st.futures b s w) q ≡ is_number w n
  names-number q x (cores.Acquires m f v) l is mine at n d acquire = same_bool (name_of st.futures b s m == q) (m == n) to from
    where
      same_bool : (u v : Bool) → (u ≡ true → v ≡ true) → (v ≡ true → u ≡ true) → u ≡ v
      same_bool true v p q = sym (p refl)
      same_bool false true p q = q refl
      same_bool false false p q = refl

      owner : IsOwned st s m f
      owner = linked.owned s e m f l there at.0

      to : (name_of st.futures b s m == q) ≡ true → (m == n) ≡ true
      to h =
          let named : owner.name ≡ q = sym (name-owner st b s m f linked owner) ∙ eqb-true _ _ h in
          let both : Some x ≡ Some owner.entry = sym is ∙ ap (get st.futures) (sym named) ∙ owner.there in
          let same : x ≡ owner.entry = cc in
          let number : acquires.Queued d n ≡ acquires.Queued f m = sym acquire ∙ ap (λ (z : FutureEntry). z.acquire) same ∙ owner.acquire in
          eq-eqb m n (let e : n ≡ m = cc in sym e)

      from : (m == n) ≡ true → (name_of st.futures b s m == q) ≡ true
      from h =
          let same : m ≡ n = eqb-true m n h in
          let here : has s m (get st.futures q) ≡ true = has-from s m (get st.futures q) x is mine (ap (λ a. is_under a m) acquire ∙ eq-eqb n m (sym same)) in
          eq-eqb _ _ (name-has st b s m q linked here)
  names-number q x cores.Owes l is mine at n d acquire = refl

  -- each of them is found in the queue
  abbrev pub IsFound : cores.Waiter ℕ → Type 0
  IsFound w = (l : ℕ) × IsAt e.core.queue (w, l)

  all_found : AllByRecursion {X = cores.Waiter ℕ × ℕ} (λ x. IsFound x.0) e.core.queue
  all_found = all_by (IsAt e.core.queue) (λ x. IsFound x.0) (λ x h. (x.1, h)) e.core.queue (all_at e.core.queue (linked.numbered s e there).apart)

  pub among-number : (q : ℕ) (x : FutureEntry) → get st.futures q ≡ Some x → x.semaphore ≡ s → (n d : ℕ) → x.acquire ≡ acquires.Queued d n
      → (ws : List (cores.Waiter ℕ)) → AllByRecursion IsFound ws → among (map (who_of st.futures b s) ws) q ≡ is_among ws n
  among-number q x is mine n d acquire [] found = refl
  among-number q x is mine n d acquire (w ∷ ws) found =
      ap (λ t. t || among (map (who_of st.futures b s) ws) q) (names-number q x w found.0.0 is mine found.0.1 n d acquire)
      ∙ ap (λ t. is_number w n || t) (among-number q x is mine n d acquire ws found.1)

  -- who has no number, or is of another semaphore, is named by no waiter of s
  unnamed : (q : ℕ) (w : cores.Waiter ℕ) (l : ℕ) → IsAt e.core.queue (w, l) → ((n : ℕ) → has s n (get st.futures q) ≡ false)
      → names (who_of st.futures b s w) q ≡ false
  unnamed q (cores.Acquires m f v) l at none = by_test (name_of st.futures b s m == q) refl
    where
      owner : IsOwned st s m f
      owner = linked.owned s e m f l there at.0

      by_test : (t : Bool) → (name_of st.futures b s m == q) ≡ t → t ≡ false
      by_test false h = refl
      by_test true h =
          let named : owner.name ≡ q = sym (name-owner st b s m f linked owner) ∙ eqb-true _ _ h in
          let here : has s m (get st.futures q) ≡ true = ap (λ k. has s m (get st.futures k)) (sym named) ∙ owner_has st s m f owner in
          let no : has s m (get st.futures q) ≡ false = none m in
          absurd (cc)
  unnamed q cores.Owes l at none = refl

  pub among-unnamed : (q : ℕ) → ((n : ℕ) → has s n (get st.futures q) ≡ false) → (ws : List (cores.Waiter ℕ)) → AllByRecursion IsFound ws
      → among (map (who_of st.futures b s) ws) q ≡ false
  among-unnamed q none [] found = refl
  among-unnamed q none (w ∷ ws) found = ap (λ t. t || among (map (who_of st.futures b s) ws) q) (unnamed q w found.0.0 found.0.1 none)
      ∙ among-unnamed q none ws found.1

  pub all_granted_found : (n : ℕ) → AllByRecursion IsFound (granted_in e.core.queue n)
  all_granted_found n = granted_in_keeps IsFound e.core.queue n all_found

  -- the wakers that a pour makes ready
  wakers_seen : (ws : List (cores.Waiter ℕ)) → AllByRecursion IsFound ws
      → flat_map (waker_of_who (hall_of st b).futures) (map (who_of st.futures b s) ws) ≡ cores.wakers_of ws
  wakers_seen [] found = refl
  wakers_seen (cores.Acquires m f v ∷ ws) found = ap (λ t. t ++ flat_map (waker_of_who (hall_of st b).futures) (map (who_of st.futures b s) ws)) here
      ∙ ap (λ t. v ∷ t) (wakers_seen ws found.1)
    where
      owner : IsOwned st s m f
      owner = linked.owned s e m f found.0.0 there found.0.1.0

      here : waker_of_who (hall_of st b).futures (who_of st.futures b s (cores.Acquires m f v)) ≡ v ∷ []
      here =
          ap waker_of_future (get-seen (λ g x. future_of st.semaphores x) st.futures (name_of st.futures b s m)
          ∙ ap (option_map (future_of st.semaphores)) (ap (get st.futures) (name-owner st b s m f linked owner) ∙ owner.there))
          ∙ ap (λ a. waker_of (stage_of a (core_in (get st.semaphores owner.entry.semaphore)))) owner.acquire
          ∙ ap (λ k. waker_of (stage_of (acquires.Queued f m) (core_in (get st.semaphores k)))) owner.semaphore
          ∙ ap (λ d. waker_of (stage_of (acquires.Queued f m) (core_in d))) there
          ∙ ap (λ o. waker_of (stage_under o (get e.core.cut m))) found.0.1.1
  wakers_seen (cores.Owes ∷ ws) found = wakers_seen ws found.1

  -- all who wait, in their order
  waiters_found : (q : Queue) → AllByRecursion (IsAt e.core.queue) q → AllByRecursion IsFound (cores.waiters_of q)
  waiters_found [] h = h
  waiters_found (x ∷ q) h = ((x.1, h.0), waiters_found q h.1)

  pub all_waiters_found : AllByRecursion IsFound (cores.waiters_of e.core.queue)
  all_waiters_found = waiters_found e.core.queue (all_at e.core.queue (linked.numbered s e there).apart)

  waiters_seen : (q : Queue) → everyone (queue_of st.futures b s q) ≡ map (who_of st.futures b s) (cores.waiters_of q)
  waiters_seen [] = refl
  waiters_seen (x ∷ q) = ap (λ ws. who_of st.futures b s x.0 ∷ ws) (waiters_seen q)

  pub everyone_seen : everyone (queue_at (hall_of st b) s) ≡ map (who_of st.futures b s) (cores.waiters_of e.core.queue)
  everyone_seen = ap (λ r. everyone r.queue) seen_at ∙ waiters_seen e.core.queue

  pub wakes_waiting_seen : wakes_waiting (hall_of st b) s ≡ cores.wakers_of (cores.waiters_of e.core.queue)
  wakes_waiting_seen = ap (flat_map (waker_of_who (hall_of st b).futures)) everyone_seen ∙ wakers_seen (cores.waiters_of e.core.queue) all_waiters_found

  pub wakes_seen : (n : ℕ) → wakes_of (hall_of st b) s n ≡ cores.wakers_of (granted_in e.core.queue n)
  wakes_seen n = ap (flat_map (waker_of_who (hall_of st b).futures)) (granted_names n) ∙ wakers_seen (granted_in e.core.queue n) (all_granted_found n)
