-- releases, and the ends of futures and permits
use Rattle.std.proofs.Common.{◌≡◌, ℕ, ◌+◌, ◌-◌, ◌^◌, ◌<◌, ◌≤◌, ◌==◌, cond, List, [], length, refl, ap, sym, subst, ◌∙◌, arith, Some, None}
use Rattle.std.specs.Option.{option_map}
use Rattle.std.specs.FinMap.{get, insert, remove}
use Rattle.mea_base.specs.Queue.{granted_in}
use Rattle.mea_base.proofs.NamedMaps.{get-seen}
use Rattle.mea_events.specs.declared.sem_event.SemEvent.{SemEvent}
use Rattle.mea_events.specs.declared.sem_event.SemEvent.TheVariants as events
use Rattle.mea_sem_model.specs.Hall.{Hall, Future, Permit, FutureStage, New, Waiting, Granted, Cut, semaphore_at, queue_at, with_semaphore, lack_of}
use Rattle.mea_sem_model.specs.Cause.{cause_of}
use Rattle.mea_sem_model.specs.Valid.{Fits}
use Rattle.mea_family.specs.declared.answer.Answer.{Answer}
use Rattle.mea_sem_model.specs.Step.{step, quietly, pouring, without_future, without_permit, without, leaving, released_to, end_permit, end_of}
use Rattle.mea_sem_core.specs.declared.acquire.Acquire.TheVariants as acquires
use Rattle.mea_sem_core.specs.Core as cores
use Rattle.mea_sem_core.specs.Calls.{without_acquire}
use Rattle.mea_sem.specs.declared.entries.SemaphoreEntry.{SemaphoreEntry}
use Rattle.mea_sem.specs.declared.entries.FutureEntry.{FutureEntry}
use Rattle.mea_sem.specs.Store.{Store, queue_of, semaphore_of, hall_of}
use Rattle.mea_sem.specs.Kept.{wakers_in, AreKeptSemaphores}
use Rattle.mea_sem.proofs.Cores.{debts-without}
use Rattle.mea_sem.proofs.Stages.{stage_granted, stage_cut, stage_waits}
use Rattle.mea_sem.proofs.Seen.{seen_at}
use Rattle.mea_sem.proofs.Still.{IsStill, still_queue, linked_still, queue_still, hall_still}
use Rattle.mea_sem.proofs.Gone.{seen_future, Leaves, linked_gone, hall_gone, leaves_new, leaves_granted, leaves_cut}
use Rattle.mea_sem.proofs.Left.{linked_left, hall_left, lack_left, wakers_without}
use Rattle.mea_sem.proofs.Weighs.{Weighs, thing, nothing, one, weighs_semaphore, weighs_lost_permit, weighs_lost_future}
use Rattle.mea_sem.proofs.Keeping.{Plays, settled_as}
use Rattle.mea_sem.proofs.PlaysPermits.{as_it_was, permit_counts}
use Rattle.mea_sem.proofs.PlaysReady.{future_counts}
use Rattle.mea_sem.proofs.PlaysPours.{poured_entry, between, between_at, wakes_poured, plays_poured}

-- an event's hall and its wakes, as the code leaves them
pub record PlaysWith (st st' : Store) (next i : ℕ) (event : SemEvent) (w' sp' : ℕ) (woken : List ℕ) : Type 0 where
  pub plays : Plays st st' next i event w' sp'
  pub wakes : (step (hall_of st next) i event).wakes ≡ woken

module _ (st st' : Store) (w w' sp' sp next i s n : ℕ) (e : SemaphoreEntry) (k : AreKeptSemaphores st w sp next) (less : next ≤ i) (low : i < 2 ^ 64)
    (there : get st.semaphores s ≡ Some e) where
  abbrev h : Hall
  h = hall_of st next

  seen : semaphore_at h s ≡ semaphore_of st.futures next s e
  seen = seen_at st next s e k.linked there

  seen_there : get h.semaphores s ≡ Some (semaphore_of st.futures next s e)
  seen_there = get-seen (semaphore_of st.futures next) st.semaphores s ∙ ap (option_map (semaphore_of st.futures next s)) there

  -- ---- release
  abbrev pub released_entry : SemaphoreEntry
  released_entry = record e { released = e.released + n }

  pub plays_release : n < 2 ^ 64 → cause_of h (events.Release s n) ≡ None
      → ((q : ℕ) → get st'.semaphores q ≡ cond (s == q) (Some (poured_entry released_entry n)) (get st.semaphores q)) → st'.futures ≡ st.futures
      → st'.permits ≡ st.permits
      → cores.held_of (cores.poured e.core n) ≡ cores.held_of e.core → w' + length (cores.wakers_of (granted_in e.core.queue n)) ≡ w → w' ≤ sp'
      → PlaysWith st st' next i (events.Release s n) w' sp' (cores.wakers_of (granted_in e.core.queue n))
  plays_release small allowed semaphores futures permits held woken room =
      let e1 : SemaphoreEntry = released_entry in
      let st1 : Store = between st st' s e1 in
      let still : IsStill e e1 = still_queue e e1 refl refl refl refl in
      let old = k.each s e there in
      let h1 : Hall = released_to h s n in
      let hall : hall_of st1 (i + 1) ≡ h1 =
      hall_still st st1 next i s e e1 k.linked less there (between_at st st' s e1) futures still (queue_of st.futures next s e.core.queue)
      (queue_still st st1 next i s e e1 k.linked less there (between_at st st' s e1) futures still)
      ∙ (λ j. record {
        semaphores = insert h.semaphores s (record (sym seen j) { released = (sym seen j).released + n });
        futures = h.futures;
        permits = permits j;
      }) in
      let linked = linked_still st st1 next i s e e1 k.linked less there (between_at st st' s e1) futures still in
      record {
        plays = plays_poured st st' w sp next i s n (events.Release s n) e e1 k less low there semaphores h1 w w' sp' 0 0 nothing nothing tt allowed refl hall linked
            (weighs_semaphore h s s (record (semaphore_at h s) { released = (semaphore_at h s).released + n }))
            (let o = old.account in omega (arith, o)) (omega (arith, held)) refl refl (omega arith, omega arith) (omega arith) (omega arith) refl woken room
            (let f = k.few in omega (arith, f));
        wakes = wakes_poured st st' w sp next i s n (events.Release s n) e e1 k less low there semaphores h1 hall linked;
      }

  -- ---- a permit ends, and its size is poured
  abbrev pub ended_entry : Permit → SemaphoreEntry
  ended_entry x = record e { core = record e.core { live = e.core.live - x.size }; plain = e.plain - one x.plain; things = e.things - 1 }

  pub plays_end_permit : (p : ℕ) (x : Permit) → x.semaphore ≡ s → get st.permits p ≡ Some x → get h.futures p ≡ None → cause_of h (events.End p) ≡ None
      → ((q : ℕ) → get st'.semaphores q ≡ cond (s == q) (Some (poured_entry (ended_entry x) x.size)) (get st.semaphores q)) → st'.futures ≡ st.futures
      → st'.permits ≡ remove st.permits p
      → cores.held_of (cores.poured (record e.core { live = e.core.live - x.size }) x.size) + x.size ≡ cores.held_of e.core
      → w' + length (cores.wakers_of (granted_in e.core.queue x.size)) ≡ w → w' ≤ sp'
      → PlaysWith st st' next i (events.End p) w' sp' (cores.wakers_of (granted_in e.core.queue x.size))
  plays_end_permit p x mine is no_future allowed semaphores futures permits held woken room =
      let e1 : SemaphoreEntry = ended_entry x in
      let st1 : Store = between st st' s e1 in
      let still : IsStill e e1 = still_queue e e1 refl refl refl refl in
      let old = k.each s e there in
      let h1 : Hall = without_permit h p in
      let counts = permit_counts st w sp next p x e k is (ap (get st.semaphores) mine ∙ there) in
      let hall : hall_of st1 (i + 1) ≡ h1 =
      hall_still st st1 next i s e e1 k.linked less there (between_at st st' s e1) futures still (queue_of st.futures next s e.core.queue)
      (queue_still st st1 next i s e e1 k.linked less there (between_at st st' s e1) futures still)
      ∙ as_it_was h s (semaphore_of st.futures next s e) seen_there st'.permits
      ∙ (λ j. record { semaphores = h.semaphores; futures = h.futures; permits = permits j }) in
      let linked = linked_still st st1 next i s e e1 k.linked less there (between_at st st' s e1) futures still in
      let outcome : step h i (events.End p) ≡ pouring h1 s x.size = ap (end_of h p) no_future ∙ ap (end_permit h p) is ∙ ap (λ q. pouring h1 q x.size) mine in
      record {
        plays = plays_poured st st' w sp next i s x.size (events.End p) e e1 k less low there semaphores h1 w w' sp' x.size 0 (thing x.plain)
            nothing tt allowed (ap (λ o. o.hall) outcome) hall linked
            (subst (λ q. Weighs h h1 q x.size 0 (thing x.plain) nothing) mine (weighs_lost_permit h p x is))
            (let o = old.account in let c = counts.0 in omega (arith, o, c)) (omega (arith, held)) (let c = counts.1 in omega (arith, c))
            (let c = counts.2 in omega (arith, c)) (omega arith, omega arith) (omega arith) (omega arith) refl woken room (let f = k.few in omega (arith, f));
        wakes = ap (λ o. o.wakes) outcome ∙ wakes_poured st st' w sp next i s x.size (events.End p) e e1 k less low there semaphores h1 hall linked;
      }

  -- ---- a future ends that was never polled
  module _ (f d : ℕ) (x : FutureEntry) (mine : x.semaphore ≡ s) (was : get st.futures f ≡ Some x)
      (futures : (g : ℕ) → get st'.futures g ≡ cond (f == g) None (get st.futures g)) (permits : st'.permits ≡ st.permits) where
    abbrev at_stage : FutureStage → Future
    at_stage z = record { semaphore = x.semaphore; demand = d; plain = x.plain; forgets = x.forgets; stage = z }

    abbrev pub fewer_entry : SemaphoreEntry
    fewer_entry = record e { plain = e.plain - one x.plain; things = e.things - 1 }

    home : get st.semaphores x.semaphore ≡ Some e
    home = ap (get st.semaphores) mine ∙ there

    lost : (z : FutureStage) → get h.futures f ≡ Some (at_stage z) → Weighs h (without_future h f) s 0 0 (thing x.plain) nothing
    lost z is = subst (λ q. Weighs h (without_future h f) q 0 0 (thing x.plain) nothing) mine (weighs_lost_future h f (at_stage z) is)

    -- it was paid nothing: the core is c1 after it, and the event gives this
    module _ (event : SemEvent) (fits : Fits event) (allowed : cause_of h event ≡ None) (reply : Answer) (z : FutureStage) (c1 : cores.Core ℕ)
        (live : c1.live ≡ e.core.live) (queue : c1.queue ≡ e.core.queue) (quiet : c1.wakes ≡ e.core.wakes) (frees : c1.free ≡ e.core.free)
        (closed : c1.closed ≡ e.core.closed) (held : cores.held_of c1 ≡ cores.held_of e.core) where
      abbrev pub unpaid_entry : SemaphoreEntry
      unpaid_entry = record e { core = c1; plain = e.plain - one x.plain; things = e.things - 1 }

      pub plays_unpaid : get h.futures f ≡ Some (at_stage z) → step h i event ≡ quietly (without_future h f) reply
          → Leaves st st' s f x e unpaid_entry
          → ((q : ℕ) → get st'.semaphores q ≡ cond (s == q) (Some unpaid_entry) (get st.semaphores q))
          → PlaysWith st st' next i event w sp []
      plays_unpaid is outcome c semaphores =
          let counts = future_counts st w sp next f (at_stage z) e k is home in
          let old = k.each s e there in
          record {
            plays = settled_as st st' w sp next i s event e unpaid_entry k less low fits allowed (without_future h f) (ap (λ o. o.hall) outcome)
                w sp 0 0 (thing x.plain) nothing there semaphores
                (hall_gone st st' next i s f x e unpaid_entry k.linked less c
                ∙ (λ j. record {
                  semaphores = insert h.semaphores s
                      (record {
                        free = frees j;
                        queue = queue_of st.futures next s e.core.queue;
                        made = e.made;
                        released = e.released;
                        forgotten = e.forgotten;
                        named = e.named;
                        closed = closed j;
                      });
                  futures = remove h.futures f;
                  permits = permits j;
                })
                ∙ (λ j. record {
                  semaphores = (as_it_was h s (semaphore_of st.futures next s e) seen_there h.permits j).semaphores;
                  futures = remove h.futures f;
                  permits = h.permits;
                }))
                (linked_gone st st' next i s f x e unpaid_entry k.linked less c)
                (lost z is)
                (record {
                  account = (let o = old.account in let d : cores.debts c1.queue ≡ cores.debts e.core.queue = ap cores.debts queue in omega (arith, o, d, live));
                  held = omega (arith, held);
                  plain = omega (arith, counts.0);
                  things = omega (arith, counts.1);
                  few = (omega arith, omega arith);
                  quiet = quiet ∙ old.quiet;
                  released = omega arith;
                  forgotten = omega arith;
                })
                (ap (λ q. w + wakers_in q) (sym queue)) k.room (let f = k.few in omega (arith, f));
            wakes = ap (λ o. o.wakes) outcome;
          }

    -- it was never polled
    pub plays_gone_new : (event : SemEvent) (reply : Answer) → Fits event → cause_of h event ≡ None → x.acquire ≡ acquires.New d
        → (get h.futures f ≡ Some (at_stage New) → step h i event ≡ quietly (without_future h f) reply)
        → ((q : ℕ) → get st'.semaphores q ≡ cond (s == q) (Some fewer_entry) (get st.semaphores q))
        → PlaysWith st st' next i event w sp []
    plays_gone_new event reply fits allowed acquire outcome semaphores =
        let c : Leaves st st' s f x e fewer_entry =
        leaves_new st st' next s f x e fewer_entry k.linked there semaphores was futures mine refl refl d acquire refl refl in
        let is : get h.futures f ≡ Some (at_stage New) = seen_future st next f x e (acquires.New d) New was home acquire refl in
        plays_unpaid event fits allowed reply New e.core refl refl refl refl refl refl is (outcome is) c semaphores

    -- it was cut, under the number m
    abbrev pub uncut_core : ℕ → cores.Core ℕ
    uncut_core m = record e.core { cut = remove e.core.cut m }

    pub plays_gone_cut : (event : SemEvent) (reply : Answer) (m : ℕ) → Fits event → cause_of h event ≡ None → x.acquire ≡ acquires.Queued d m
        → get e.core.cut m ≡ Some d
        → (get h.futures f ≡ Some (at_stage Cut) → step h i event ≡ quietly (without_future h f) reply)
        → ((q : ℕ) → get st'.semaphores q ≡ cond (s == q) (Some (record e { core = uncut_core m; plain = e.plain - one x.plain; things = e.things - 1 })) (get st.semaphores q))
        → PlaysWith st st' next i event w sp []
    plays_gone_cut event reply m fits allowed acquire cut outcome semaphores =
        let e1 : SemaphoreEntry = record e { core = uncut_core m; plain = e.plain - one x.plain; things = e.things - 1 } in
        let c : Leaves st st' s f x e e1 = leaves_cut st st' next s f x e e1 k.linked there semaphores was futures mine refl refl d m acquire cut refl refl in
        let is : get h.futures f ≡ Some (at_stage Cut) = seen_future st next f x e (acquires.Queued d m) Cut was home acquire
        (stage_cut e.core (k.linked.numbered s e there) d m cut) in
        plays_unpaid event fits allowed reply Cut (uncut_core m) refl refl refl refl refl refl is (outcome is) c semaphores

    -- ---- a future ends that was granted
    abbrev pub ungranted_entry : ℕ → SemaphoreEntry
    ungranted_entry m = record e { core = record e.core { live = e.core.live - d; granted = remove e.core.granted m }; plain = e.plain - one x.plain; things = e.things - 1 }

    pub plays_end_granted : (m : ℕ) → x.acquire ≡ acquires.Queued d m → get e.core.granted m ≡ Some d → d ≤ e.core.live → cause_of h (events.End f) ≡ None
        → ((q : ℕ) → get st'.semaphores q ≡ cond (s == q) (Some (poured_entry (ungranted_entry m) d)) (get st.semaphores q))
        → cores.held_of (cores.poured (record e.core { live = e.core.live - d; granted = remove e.core.granted m }) d) ≡ cores.held_of e.core
        → w' + length (cores.wakers_of (granted_in e.core.queue d)) ≡ w → w' ≤ sp'
        → PlaysWith st st' next i (events.End f) w' sp' (cores.wakers_of (granted_in e.core.queue d))
    plays_end_granted m acquire granted within allowed semaphores held woken room =
        let e1 : SemaphoreEntry = ungranted_entry m in
        let st1 : Store = between st st' s e1 in
        let c : Leaves st st1 s f x e e1 = leaves_granted st st1 next s f x e e1 k.linked there (between_at st st' s e1)
        was futures mine refl refl d m acquire granted refl refl in
        let is : get h.futures f ≡ Some (at_stage Granted) = seen_future st next f x e (acquires.Queued d m) Granted was home acquire
        (stage_granted e.core (k.linked.numbered s e there) d m granted) in
        let h1 : Hall = without_future h f in
        let outcome : step h i (events.End f) ≡ pouring h1 s d = ap (end_of h f) is ∙ ap (λ q. pouring h1 q d) mine in
        let hall : hall_of st1 (i + 1) ≡ h1 = hall_gone st st1 next i s f x e e1 k.linked less c
        ∙ (λ j. record {
          semaphores = (as_it_was h s (semaphore_of st.futures next s e) seen_there h.permits j).semaphores;
          futures = remove h.futures f;
          permits = permits j;
        }) in
        let linked = linked_gone st st1 next i s f x e e1 k.linked less c in
        let counts = future_counts st w sp next f (at_stage Granted) e k is home in
        let old = k.each s e there in
        record {
          plays = plays_poured st st' w sp next i s d (events.End f) e e1 k less low there semaphores h1 w w' sp' 0 0 (thing x.plain) nothing tt allowed
              (ap (λ o. o.hall) outcome) hall linked (lost Granted is)
              (let o = old.account in omega (arith, o, within)) (omega (arith, held)) (omega (arith, counts.0)) (omega (arith, counts.1)) (omega arith, omega arith) (omega arith)
              (omega arith) refl woken room (let f = k.few in omega (arith, f));
          wakes = ap (λ o. o.wakes) outcome ∙ wakes_poured st st' w sp next i s d (events.End f) e e1 k less low there semaphores h1 hall linked;
        }

    -- ---- a future ends that waits
    abbrev pub unqueued_entry : ℕ → ℕ → SemaphoreEntry
    unqueued_entry m l = record e {
      core = record e.core { live = e.core.live - (d - l); queue = without_acquire e.core.queue m };
      plain = e.plain - one x.plain;
      things = e.things - 1;
    }

    pub plays_end_waiting : (m l : ℕ) → x.acquire ≡ acquires.Queued d m → cores.waiting e.core.queue m ≡ Some (d, l) → d - l ≤ e.core.live
        → cause_of h (events.End f) ≡ None
        → ((q : ℕ) → get st'.semaphores q ≡ cond (s == q) (Some (poured_entry (unqueued_entry m l) (d - l))) (get st.semaphores q))
        → cores.held_of (cores.poured (record e.core { live = e.core.live - (d - l); queue = without_acquire e.core.queue m }) (d - l)) ≡ cores.held_of e.core
        → w' + 1 + length (cores.wakers_of (granted_in (without_acquire e.core.queue m) (d - l))) ≡ w → w' ≤ sp'
        → PlaysWith st st' next i (events.End f) w' sp' (cores.wakers_of (granted_in (without_acquire e.core.queue m) (d - l)))
    plays_end_waiting m l acquire waits within allowed semaphores held woken room =
        let e1 : SemaphoreEntry = unqueued_entry m l in
        let st1 : Store = between st st' s e1 in
        let numbered = k.linked.numbered s e there in
        let v = stage_waits e.core numbered d m l waits in
        let is : get h.futures f ≡ Some (at_stage (Waiting v.0)) =
        seen_future st next f x e (acquires.Queued d m) (Waiting v.0) was home acquire v.1 in
        let lack : lack_of (queue_of st.futures next s e.core.queue) f ≡ l =
        lack_left st st1 next i s f m d l x e e1 k.linked less there (between_at st st' s e1) was futures mine acquire waits refl refl refl refl in
        let h1 : Hall = leaving h f (at_stage (Waiting v.0)) in
        let outcome : step h i (events.End f) ≡ pouring h1 s (d - l) =
        ap (end_of h f) is
        ∙ ap (λ q. pouring h1 q (d - lack_of (queue_at h q) f)) mine
        ∙ ap (λ r. pouring h1 s (d - lack_of r.queue f)) seen
        ∙ ap (λ j. pouring h1 s (d - j)) lack in
        let hall : hall_of st1 (i + 1) ≡ h1 =
        hall_left st st1 next i s f m d l x e e1 k.linked less there (between_at st st' s e1) was futures mine acquire waits refl refl refl refl
        ∙ (λ j. record {
          semaphores = insert h.semaphores s (record (sym seen j) { queue = without (sym seen j).queue f });
          futures = remove h.futures f;
          permits = permits j;
        })
        ∙ ap (λ q. without_future (with_semaphore h q (record (semaphore_at h q) { queue = without (queue_at h q) f })) f) (sym mine) in
        let linked = linked_left st st1 next i s f m d l x e e1 k.linked less there (between_at st st' s e1) was futures mine acquire waits refl refl refl refl in
        let counts = future_counts st w sp next f (at_stage (Waiting v.0)) e k is home in
        let old = k.each s e there in
        let left = wakers_without e.core.queue m d l numbered.apart waits in
        record {
          plays = plays_poured st st' w sp next i s (d - l) (events.End f) e e1 k less low there semaphores h1
              (w' + length (cores.wakers_of (granted_in (without_acquire e.core.queue m) (d - l)))) w' sp' 0 0 (thing x.plain) nothing tt allowed
              (ap (λ o. o.hall) outcome) hall linked
              (let z = lost (Waiting v.0) is in record { held = λ q. z.held q; things = λ chosen q. z.things chosen q })
              (let o = old.account in let t = debts-without e.core.queue m in omega (arith, o, within, t)) (omega (arith, held))
              (omega (arith, counts.0)) (omega (arith, counts.1)) (omega arith, omega arith) (omega arith) (omega arith) (omega (arith, woken, left)) refl room
              (let f = k.few in omega (arith, f, woken));
          wakes = ap (λ o. o.wakes) outcome ∙ wakes_poured st st' w sp next i s (d - l) (events.End f) e e1 k less low there semaphores h1 hall linked;
        }
