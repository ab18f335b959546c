-- futures that are made, and begin to wait
use Rattle.std.proofs.Common.{◌≡◌, ◌≢◌, ◌⊎◌, inl, inr, ℕ, ◌+◌, ◌-◌, ◌^◌, ◌<◌, ◌≤◌, ◌==◌, ◌&&◌, ◌++◌, Bool, true, false, cond, List, [], ◌∷◌, refl, ap, sym, subst, ◌∙◌, arith, Option, Some, None}
use Rattle.std.specs.Option.{option_map}
use Rattle.std.specs.Ordering.{nat_cmp}
use Rattle.std.specs.FinMap.{get, insert, empty, get-empty}
use Rattle.std.proofs.lemmas.Bool.{eqb-true, eqb-false, eq-eqb, and_from}
use Rattle.mea_base.proofs.Tests.{at_same, at_apart}
use Rattle.mea_base.proofs.NamedMaps.{get-seen}
use Rattle.mea_events.specs.declared.sem_event.SemEvent.{SemEvent}
use Rattle.mea_events.specs.declared.sem_event.SemEvent.TheVariants as events
use Rattle.mea_sem_model.specs.Hall.{Hall, Future, New, Waiting, Waiter, semaphore_at}
use Rattle.mea_sem_model.specs.Cause.{cause_of}
use Rattle.mea_sem_model.specs.Valid.{Fits}
use Rattle.mea_sem_model.specs.Step.{step, with_future, acquire_of, queueing}
use Rattle.mea_sem_core.specs.declared.acquire.Acquire.{Acquire}
use Rattle.mea_sem_core.specs.declared.acquire.Acquire.TheVariants as acquires
use Rattle.mea_sem_core.specs.Core as cores
use Rattle.mea_sem_core.specs.Calls.{Belongs}
use Rattle.mea_sem.specs.declared.entries.SemaphoreEntry.{SemaphoreEntry}
use Rattle.mea_sem.specs.declared.entries.FutureEntry.{FutureEntry}
use Rattle.mea_sem.specs.Store.{Store, is_under, has, name_of, who_of, queue_of, core_in, seen_as, semaphore_of, stage_of, stage_under, future_of, hall_of, IsOpen, IsNumbered}
use Rattle.mea_sem.specs.Kept.{wakers_in, AreKeptSemaphores}
use Rattle.mea_sem.proofs.Cores.{waiting-push, waker-push, debts-push, AreApart-push}
use Rattle.mea_sem.proofs.Names.{has-from, name-has}
use Rattle.mea_sem.proofs.Seen.{seen_at}
use Rattle.mea_sem.proofs.Still.{no_future}
use Rattle.mea_sem.proofs.Changes.{Changes, linked_after, queue_kept, semaphores_after, futures_put}
use Rattle.mea_sem.proofs.Weighs.{thing, nothing, one, weighs_new_future, weighs_future}
use Rattle.mea_sem.proofs.Keeping.{Plays, settled_as, with_things}
use Rattle.mea_sem.proofs.PlaysPermits.{as_it_was}

abbrev first_or_none : Option (ℕ × ℕ) → ℕ
first_or_none None = 0
first_or_none (Some p) = p.0

module _ (st st' : Store) (w sp next i s n : ℕ) (e : SemaphoreEntry) (k : AreKeptSemaphores st w sp next) (less : next ≤ i) (low : i < 2 ^ 64) where
  abbrev h : Hall
  h = hall_of st next

  -- ---- a future is made
  abbrev pub made_entry : Bool → SemaphoreEntry
  made_entry plain = record e { plain = e.plain + one plain; things = e.things + 1 }

  abbrev pub made_future : Bool → Bool → FutureEntry
  made_future plain forgets = record { semaphore = s; acquire = acquires.New n; plain = plain; forgets = forgets }

  made_changes : (plain forgets : Bool) → get st.semaphores s ≡ Some e
      → ((q : ℕ) → get st'.semaphores q ≡ cond (s == q) (Some (made_entry plain)) (get st.semaphores q))
      → ((g : ℕ) → get st'.futures g ≡ cond (i == g) (Some (made_future plain forgets)) (get st.futures g))
      → Changes st st' next (i + 1) s i e (made_entry plain) None (Some (made_future plain forgets))
  made_changes plain forgets there semaphores futures = record {
    there = there;
    semaphores = semaphores;
    was = no_future st next i k.linked less;
    futures = futures;
    rises = omega arith;
    inside = λ x is. omega arith;
    was_of = λ x is. absurd (cc);
    is_of = λ x is. (let same : made_future plain forgets ≡ x = cc in ap (λ (z : FutureEntry). z.semaphore) (sym same));
    home = λ x is. (let same : made_future plain forgets ≡ x = cc in
        subst (λ (z : FutureEntry). Belongs (made_entry plain).core z.acquire × IsOpen z.acquire) same (tt, tt));
    kept = λ d m free belongs. belongs;
    wakers = λ m free free_now. refl;
    waits = λ m d l is. inr (refl, (l, is));
    grants = λ m d is. (refl, is);
    cut = λ m d is. (refl, is);
    cuts = λ m free free_now. refl;
    alone = λ g m x y is apart there_too mine under.
        (let same : made_future plain forgets ≡ x = cc in let never : is_under (acquires.New n) m ≡ true = ap
        (λ (z : FutureEntry). is_under z.acquire m) same ∙ under in cc);
    numbered = k.linked.numbered s e there;
  }

  pub plays_acquire : (event : SemEvent) (plain forgets : Bool) → Fits event → cause_of h event ≡ None
      → (step h i event).hall ≡ (acquire_of h i s n plain forgets).hall
      → get st.semaphores s ≡ Some e → ((q : ℕ) → get st'.semaphores q ≡ cond (s == q) (Some (made_entry plain)) (get st.semaphores q))
      → ((g : ℕ) → get st'.futures g ≡ cond (i == g) (Some (made_future plain forgets)) (get st.futures g)) → st'.permits ≡ st.permits
      → Plays st st' next i event w sp
  plays_acquire event plain forgets fits allowed is there semaphores futures permits =
      let e' : SemaphoreEntry = made_entry plain in
      let x : FutureEntry = made_future plain forgets in
      let c = made_changes plain forgets there semaphores futures in
      let old = k.each s e there in
      let y : Future = record { semaphore = s; demand = n; plain = plain; forgets = forgets; stage = New } in
      let seen : get h.semaphores s ≡ Some (semaphore_of st.futures next s e) =
      get-seen (semaphore_of st.futures next) st.semaphores s ∙ ap (option_map (semaphore_of st.futures next s)) there in
      let absent : get h.futures i ≡ None = get-seen (λ g z. future_of st.semaphores z) st.futures i
      ∙ ap (option_map (future_of st.semaphores)) (no_future st next i k.linked less) in
      settled_as st st' w sp next i s event e e' k less low fits allowed (with_future h i y) is w sp 0 0 nothing (thing plain) there semaphores
      ((λ j. record {
        semaphores = (semaphores_after st st' next (i + 1) s i e e' None (Some x) k.linked c
            ∙ ap (λ q. insert h.semaphores s (seen_as e q))
            (queue_kept st st' next (i + 1) s i e e' None (Some x) k.linked c (λ m d l is. refl))
            ∙ ap (λ z. z.semaphores) (as_it_was h s (semaphore_of st.futures next s e) seen h.permits)) j;
        futures = futures_put st st' next (i + 1) s i e e' None (Some x) k.linked c x refl j;
        permits = permits j;
      }))
      (linked_after st st' next (i + 1) s i e e' None (Some x) k.linked c)
      (weighs_new_future h i y absent)
      (record {
        account = old.account;
        held = refl;
        plain = omega arith;
        things = omega arith;
        few = (at_most plain, omega arith);
        quiet = old.quiet;
        released = omega arith;
        forgotten = omega arith;
      })
      refl k.room (let f = k.few in omega (arith, f))
    where
      at_most : (t : Bool) → one t ≤ 1
      at_most true = omega arith
      at_most false = omega arith

-- ---- a future begins to wait under the number m, for d permits
module _ (st st' : Store) (w sp sp' next i s f v d m : ℕ) (x : FutureEntry) (e : SemaphoreEntry) (k : AreKeptSemaphores st w sp next) (less : next ≤ i)
    (low : i < 2 ^ 64) (mine : x.semaphore ≡ s) (acquire : x.acquire ≡ acquires.New d) where
  abbrev hall : Hall
  hall = hall_of st next

  abbrev pub queued_core : cores.Core ℕ
  queued_core = record e.core { free = 0; queue = e.core.queue ++ (cores.Acquires m d v, d - e.core.free) ∷ [] }

  abbrev pub queued_entry : SemaphoreEntry
  queued_entry = record e { core = queued_core }

  abbrev pub queued_future : FutureEntry
  queued_future = record x { acquire = acquires.Queued d m }

  module _ (there : get st.semaphores s ≡ Some e)
      (semaphores : (q : ℕ) → get st'.semaphores q ≡ cond (s == q) (Some queued_entry) (get st.semaphores q)) (was : get st.futures f ≡ Some x)
      (futures : (g : ℕ) → get st'.futures g ≡ cond (f == g) (Some queued_future) (get st.futures g)) (permits : st'.permits ≡ st.permits)
      (not_waiting : cores.waiting e.core.queue m ≡ None) (not_granted : get e.core.granted m ≡ None) (open_still : e.core.closed ≡ false) where
    never_under : (q : ℕ) → has s q (Some x) ≡ false
    never_under q = ap (λ a. (x.semaphore == s) && is_under a q) acquire ∙ both_false (x.semaphore == s)
      where
        both_false : (t : Bool) → (t && false) ≡ false
        both_false true = refl
        both_false false = refl

    -- no number of an open semaphore was cut
    none_cut : e.core.cut ≡ empty
    none_cut = subst (λ b. cores.CutsWhereClosed b e.core.queue e.core.cut) open_still (k.linked.numbered s e there).closing

    never_cut : (q : ℕ) → get e.core.cut q ≡ None
    never_cut q = ap (λ g. get g q) none_cut ∙ get-empty nat_cmp q

    -- nobody else has a fresh number
    fresh : (a : Acquire) → Belongs e.core a → is_under a m ≡ true → ⊥
    fresh (acquires.New b) h under = absurd (cc)
    fresh (acquires.Done b) h under = absurd (cc)
    fresh (acquires.Refused b) h under = absurd (cc)
    fresh (acquires.Queued b q) (inr cut) under = absurd (let none = never_cut q in let some = cut.1 in cc)
    fresh (acquires.Queued b q) (inl h) under =
        let same : q ≡ m = eqb-true q m under in
        elim h [
          | inl granted ↦ absurd (let none : get e.core.granted q ≡ None = ap (get e.core.granted) same ∙ not_granted in cc)
          | inr waits ↦ absurd (let none : cores.waiting e.core.queue q ≡ None = ap (cores.waiting e.core.queue) same ∙ not_waiting in let some = waits.1 in cc)
        ]

    belongs_on : (b q : ℕ) → Belongs e.core (acquires.Queued b q) → Belongs queued_core (acquires.Queued b q)
    belongs_on b q (inr cut) = inr cut
    belongs_on b q (inl h) = elim h [
      | inl granted ↦ inl (inl granted)
      | inr waits ↦ inl (inr (
        waits.0,
        waiting-push e.core.queue m d v (d - e.core.free) q not_waiting
            ∙ at_apart m q (Some (d, d - e.core.free)) (cores.waiting e.core.queue q)
            (λ same. absurd (let none : cores.waiting e.core.queue q ≡ None = ap (cores.waiting e.core.queue) (sym same) ∙ not_waiting in
            let some = waits.1 in cc)) ∙ waits.1,
      ))
    ]

    waits_now : (q b l : ℕ) → cores.waiting queued_core.queue q ≡ Some (b, l)
        → ((y : FutureEntry) × (Some queued_future ≡ Some y) × (y.acquire ≡ acquires.Queued b q)) ⊎
        ((has s q (Some x) ≡ false) × ((j : ℕ) × (cores.waiting e.core.queue q ≡ Some (b, j))))
    waits_now q b l is = by_test (m == q) refl (sym (waiting-push e.core.queue m d v (d - e.core.free) q not_waiting) ∙ is)
      where
        by_test : (t : Bool) → (m == q) ≡ t → cond t (Some (d, d - e.core.free)) (cores.waiting e.core.queue q) ≡ Some (b, l)
            → ((y : FutureEntry) × (Some queued_future ≡ Some y) × (y.acquire ≡ acquires.Queued b q)) ⊎
            ((has s q (Some x) ≡ false) × ((j : ℕ) × (cores.waiting e.core.queue q ≡ Some (b, j))))
        by_test true t h = inl (queued_future, refl, (λ j. acquires.Queued (ap first_or_none h j) (eqb-true m q t j)))
        by_test false t h = inr (never_under q, (l, h))

    numbered_now : IsNumbered queued_core
    numbered_now =
        let old : IsNumbered e.core = k.linked.numbered s e there in
        record {
          apart = AreApart-push e.core.queue m d v (d - e.core.free) not_waiting old.apart;
          granted_apart = λ q waits. by_test q waits (m == q) refl;
          cut_apart = λ q some. absurd (some (never_cut q));
          closing = subst (λ b. cores.CutsWhereClosed b queued_core.queue e.core.cut) (sym open_still) none_cut;
        }
      where
        by_test : (q : ℕ) → cores.waiting queued_core.queue q ≢ None → (t : Bool) → (m == q) ≡ t → get e.core.granted q ≡ None
        by_test q waits true h = ap (get e.core.granted) (sym (eqb-true m q h)) ∙ not_granted
        by_test q waits false h = (k.linked.numbered s e there).granted_apart q
            (λ none. waits (waiting-push e.core.queue m d v (d - e.core.free) q not_waiting
            ∙ at_apart m q (Some (d, d - e.core.free)) (cores.waiting e.core.queue q) (eqb-false m q h) ∙ none))

    number_test : (q : ℕ) → has s q (Some queued_future) ≡ false → m ≡ q → ⊥
    number_test q free same = absurd (let here : has s q (Some queued_future) ≡ true = and_from _ _ (eq-eqb _ _ mine) (eq-eqb m q same) in cc)

    queued_changes : Changes st st' next (i + 1) s f e queued_entry (Some x) (Some queued_future)
    queued_changes = record {
      there = there;
      semaphores = semaphores;
      was = was;
      futures = futures;
      rises = omega arith;
      inside = λ y is. (let small : f < next = k.linked.below f x was in omega arith);
      was_of = λ y is. (let same : x ≡ y = cc in ap (λ (z : FutureEntry). z.semaphore) (sym same) ∙ mine);
      is_of = λ y is. (let same : queued_future ≡ y = cc in ap (λ (z : FutureEntry). z.semaphore) (sym same) ∙ mine);
      home = λ y is. (let same : queued_future ≡ y = cc in subst (λ (z : FutureEntry). Belongs queued_core z.acquire × IsOpen z.acquire) same (
        inl (inr (
          d - e.core.free,
          waiting-push e.core.queue m d v (d - e.core.free) m not_waiting
              ∙ at_same m m (Some (d, d - e.core.free)) (cores.waiting e.core.queue m) refl,
        )),
        tt,
      ));
      kept = λ b q free belongs. belongs_on b q belongs;
      wakers = λ q free free_now. waker-push e.core.queue m d v (d - e.core.free) q not_waiting
          ∙ at_apart m q (Some v) (cores.waker_under e.core.queue q) (number_test q free_now);
      waits = waits_now;
      grants = λ q b is. (never_under q, is);
      cut = λ q b is. (never_under q, is);
      cuts = λ q free free_now. refl;
      alone = λ g q y z is apart there_too yours under under_too.
          let one : queued_future ≡ y = cc in
          let same : m ≡ q = eqb-true m q (ap (λ (u : FutureEntry). is_under u.acquire q) one ∙ under) in
          let home = k.linked.home g z there_too in
          let both : Some e ≡ Some home.entry = sym there ∙ ap (get st.semaphores) (sym yours) ∙ home.there in
          let core : home.entry ≡ e = cc in
          fresh z.acquire (subst (λ (u : SemaphoreEntry). Belongs u.core z.acquire) core home.belongs) (ap (is_under z.acquire) same ∙ under_too);
      numbered = numbered_now;
    }

    queue_pushed : (b : ℕ) (q : List (cores.Waiter ℕ × ℕ)) (z : cores.Waiter ℕ × ℕ)
        → queue_of st'.futures b s (q ++ z ∷ []) ≡ queue_of st'.futures b s q ++ (who_of st'.futures b s z.0, z.1) ∷ []
    queue_pushed b [] z = refl
    queue_pushed b (a ∷ q) z = ap (λ t. (who_of st'.futures b s a.0, a.1) ∷ t) (queue_pushed b q z)

    wakers_pushed : (q : List (cores.Waiter ℕ × ℕ)) (l : ℕ) → wakers_in (q ++ (cores.Acquires m d v, l) ∷ []) ≡ wakers_in q + 1
    wakers_pushed [] l = refl
    wakers_pushed ((cores.Acquires a b c, j) ∷ q) l = ap (λ t. t + 1) (wakers_pushed q l)
    wakers_pushed ((cores.Owes, j) ∷ q) l = wakers_pushed q l

    abbrev queued_hall : Hall
    queued_hall = queueing hall f v (record { semaphore = s; demand = d; plain = x.plain; forgets = x.forgets; stage = New })

    pub plays_queued : cause_of hall (events.Poll f v) ≡ None → (step hall i (events.Poll f v)).hall ≡ queued_hall
        → cores.held_of queued_core ≡ cores.held_of e.core → w + 1 ≤ sp'
        → Plays st st' next i (events.Poll f v) (w + 1) sp'
    plays_queued allowed is held room =
        let c = queued_changes in
        let linked = linked_after st st' next (i + 1) s f e queued_entry (Some x) (Some queued_future) k.linked c in
        let old = k.each s e there in
        let y : Future = record { semaphore = s; demand = d; plain = x.plain; forgets = x.forgets; stage = Waiting v } in
        let seen : get hall.semaphores s ≡ Some (semaphore_of st.futures next s e) =
        get-seen (semaphore_of st.futures next) st.semaphores s ∙ ap (option_map (semaphore_of st.futures next s)) there in
        let r : semaphore_at hall s ≡ semaphore_of st.futures next s e = seen_at st next s e k.linked there in
        let name : name_of st'.futures (i + 1) s m ≡ f = name-has st' (i + 1) s m f linked
        (has-from s m (get st'.futures f) queued_future (futures f ∙ at_same f f (Some queued_future) (get st.futures f) refl) mine (eq-eqb m m refl)) in
        let queue : queue_of st'.futures (i + 1) s queued_core.queue ≡ queue_of st.futures next s e.core.queue ++ (Waiter f, d - e.core.free) ∷ [] =
        queue_pushed (i + 1) e.core.queue (cores.Acquires m d v, d - e.core.free)
        ∙ ap (λ q. q ++ (Waiter (name_of st'.futures (i + 1) s m), d - e.core.free) ∷ [])
        (queue_kept st st' next (i + 1) s f e queued_entry (Some x) (Some queued_future) k.linked c (λ q b l is. never_under q))
        ∙ ap (λ g. queue_of st.futures next s e.core.queue ++ (Waiter g, d - e.core.free) ∷ []) name in
        let future : future_of st'.semaphores queued_future ≡ y =
        (λ j. record {
          semaphore = mine j;
          demand = d;
          plain = x.plain;
          forgets = x.forgets;
          stage = (
              ap (λ q. stage_of (acquires.Queued d m) (core_in (get st'.semaphores q))) mine
              ∙ ap (λ o. stage_of (acquires.Queued d m) (core_in o)) (semaphores s ∙ at_same s s (Some queued_entry) (get st.semaphores s) refl)
              ∙ ap (λ o. stage_under o (get e.core.cut m)) (waker-push e.core.queue m d v (d - e.core.free) m not_waiting
              ∙ at_same m m (Some v) (cores.waker_under e.core.queue m) refl)) j;
        }) in
        let before : get hall.futures f ≡ Some (future_of st.semaphores x) =
        get-seen (λ g z. future_of st.semaphores z) st.futures f ∙ ap (option_map (future_of st.semaphores)) was in
        settled_as st st' w sp next i s (events.Poll f v) e queued_entry k less low tt allowed queued_hall is (w + 1) sp' 0 0 nothing nothing there semaphores
        ((λ j. record {
          semaphores = (semaphores_after st st' next (i + 1) s f e queued_entry (Some x) (Some queued_future) k.linked c
              ∙ ap (λ q. insert hall.semaphores s (seen_as queued_entry q)) queue) j;
          futures = (futures_put st st' next (i + 1) s f e queued_entry (Some x) (Some queued_future) k.linked c queued_future refl
              ∙ ap (insert hall.futures f) future) j;
          permits = permits j;
        }) ∙ (λ j. record {
          semaphores = insert hall.semaphores s
              (record (sym r j) { free = 0; queue = (sym r j).queue ++ (Waiter f, d - (sym r j).free) ∷ [] });
          futures =
              insert hall.futures f y;
          permits = hall.permits;
        }))
        linked
        (let l = weighs_future hall f y (future_of st.semaphores x) before mine refl in record { held = λ q. l.held q; things = λ chosen q. l.things chosen q })
        (with_things (let o = old.account in let t = debts-push e.core.queue m d v (d - e.core.free) in omega (arith, o, t)) (omega (arith, held)) refl refl old.quiet refl (omega arith))
        (let t = wakers_pushed e.core.queue (d - e.core.free) in omega (arith, t)) room (let f = k.few in omega (arith, f))
