-- a future that waits on, with another waker
use Rattle.std.proofs.Common.{◌≡◌, ◌⊎◌, inl, inr, ℕ, ◌+◌, ◌^◌, ◌<◌, ◌≤◌, ◌==◌, Bool, true, false, cond, List, [], ◌∷◌, refl, ap, sym, subst, ◌∙◌, arith, Option, Some, None}
use Rattle.std.specs.Option.{option_map}
use Rattle.std.specs.FinMap.{get, insert}
use Rattle.std.proofs.lemmas.Bool.{eqb-true, eq-eqb, and_from, and_parts}
use Rattle.mea_base.proofs.Tests.{at_same}
use Rattle.mea_base.proofs.NamedMaps.{get-seen}
use Rattle.mea_events.specs.declared.sem_event.SemEvent.TheVariants as events
use Rattle.mea_sem_model.specs.Hall.{Hall, Future, Waiting, Waiter, Debt}
use Rattle.mea_sem_model.specs.Cause.{cause_of}
use Rattle.mea_sem_model.specs.Step.{step, with_future}
use Rattle.mea_sem_core.specs.declared.acquire.Acquire.TheVariants as acquires
use Rattle.mea_sem_core.specs.Acquire.{demand_of}
use Rattle.mea_sem_core.specs.Core as cores
use Rattle.mea_sem_core.specs.Calls.{Belongs, with_waker}
use Rattle.mea_sem.specs.declared.entries.SemaphoreEntry.{SemaphoreEntry}
use Rattle.mea_sem.specs.declared.entries.FutureEntry.{FutureEntry}
use Rattle.mea_sem.specs.Store.{Store, is_under, has, name_of, who_of, queue_of, core_in, seen_as, semaphore_of, stage_of, stage_under, future_of, hall_of, IsOpen, IsOwned, IsNumbered, IsLinked}
use Rattle.mea_sem.specs.Kept.{wakers_in, AreKeptSemaphores}
use Rattle.mea_sem.proofs.Cores.{IsAt, all_at, all_by, waiting-with_waker, waker-with_waker, waker-with_waker_same, debts-with_waker, AreApart-with_waker, only-with_waker}
use Rattle.mea_sem.proofs.Stages.{cut_idle}
use Rattle.mea_sem.proofs.Names.{name-owner, queue_of-same}
use Rattle.mea_sem.proofs.Changes.{Changes, linked_after, semaphores_after, futures_put}
use Rattle.mea_sem.proofs.Weighs.{nothing, weighs_future}
use Rattle.mea_sem.proofs.Keeping.{Plays, settled_as, with_things}
use Rattle.mea_sem.proofs.PlaysPermits.{as_it_was}

abbrev first_or_none : Option (ℕ × ℕ) → ℕ
first_or_none None = 0
first_or_none (Some p) = p.0

-- ---- a future that waits under the number m waits on, with another waker
module _ (st st' : Store) (w sp next i s f v d m l : ℕ) (x : FutureEntry) (e : SemaphoreEntry) (k : AreKeptSemaphores st w sp next) (less : next ≤ i)
    (low : i < 2 ^ 64) (mine : x.semaphore ≡ s) (acquire : x.acquire ≡ acquires.Queued d m) where
  abbrev this_hall : Hall
  this_hall = hall_of st next

  abbrev pub woken_core : cores.Core ℕ
  woken_core = record e.core { queue = with_waker e.core.queue m v }

  abbrev pub waker_entry : SemaphoreEntry
  waker_entry = record e { core = woken_core }

  module _ (there : get st.semaphores s ≡ Some e)
      (semaphores : (q : ℕ) → get st'.semaphores q ≡ cond (s == q) (Some waker_entry) (get st.semaphores q)) (was : get st.futures f ≡ Some x)
      (futures : st'.futures ≡ st.futures) (permits : st'.permits ≡ st.permits) (waits : cores.waiting e.core.queue m ≡ Some (d, l)) where
    same_futures : (g : ℕ) → get st'.futures g ≡ cond (f == g) (Some x) (get st.futures g)
    same_futures g = ap (λ t. get t g) futures ∙ at_f (f == g) refl
      where
        at_f : (t : Bool) → (f == g) ≡ t → get st.futures g ≡ cond t (Some x) (get st.futures g)
        at_f true h = ap (get st.futures) (sym (eqb-true f g h)) ∙ was
        at_f false h = refl

    under_m : (q : ℕ) → m ≡ q → has s q (Some x) ≡ true
    under_m q same = and_from _ _ (eq-eqb _ _ mine) (ap (λ a. is_under a q) acquire ∙ eq-eqb m q same)

    apart_from : (q : ℕ) → has s q (Some x) ≡ false → m ≡ q → ⊥
    apart_from q free same = absurd (let here = under_m q same in cc)

    belongs_on : (b q : ℕ) → Belongs e.core (acquires.Queued b q) → Belongs woken_core (acquires.Queued b q)
    belongs_on b q (inl (inl granted)) = inl (inl granted)
    belongs_on b q (inl (inr waits)) = inl (inr (waits.0, waiting-with_waker e.core.queue m v q ∙ waits.1))
    belongs_on b q (inr cut) = inr cut

    waits_now : (q b j : ℕ) → cores.waiting woken_core.queue q ≡ Some (b, j)
        → ((y : FutureEntry) × (Some x ≡ Some y) × (y.acquire ≡ acquires.Queued b q)) ⊎
        ((has s q (Some x) ≡ false) × ((c : ℕ) × (cores.waiting e.core.queue q ≡ Some (b, c))))
    waits_now q b j is = by_test (has s q (Some x)) refl
      where
        was_so : cores.waiting e.core.queue q ≡ Some (b, j)
        was_so = sym (waiting-with_waker e.core.queue m v q) ∙ is

        by_test : (t : Bool) → has s q (Some x) ≡ t → ((y : FutureEntry) × (Some x ≡ Some y) × (y.acquire ≡ acquires.Queued b q)) ⊎
            ((has s q (Some x) ≡ false) × ((c : ℕ) × (cores.waiting e.core.queue q ≡ Some (b, c))))
        by_test false h = inr (h, (j, was_so))
        by_test true h =
            let parts = and_parts _ _ h in
            let same : m ≡ q = eqb-true m q (ap (λ a. is_under a q) (sym acquire) ∙ parts.1) in
            let both : Some (d, l) ≡ Some (b, j) = sym waits ∙ ap (cores.waiting e.core.queue) same ∙ was_so in
            inl (x, refl, acquire ∙ (λ z. acquires.Queued (ap first_or_none both z) (same z)))

    -- what was granted is not the number that waits
    not_mine : (q b : ℕ) → get e.core.granted q ≡ Some b → (t : Bool) → has s q (Some x) ≡ t → t ≡ false
    not_mine q b is false h = refl
    not_mine q b is true h = absurd (
        let mine : is_under x.acquire q ≡ true = (and_parts (x.semaphore == s) (is_under x.acquire q) h).1 in
        let same : m ≡ q = eqb-true m q (subst (λ a. is_under a q ≡ true) acquire mine) in
        let none : get e.core.granted q ≡ None = (k.linked.numbered s e there).granted_apart q
        (λ gone. absurd (let some : cores.waiting e.core.queue q ≡ Some (d, l) = ap (cores.waiting e.core.queue) (sym same) ∙ waits in cc)) in
        cc)

    numbered_now : IsNumbered woken_core
    numbered_now =
        let old : IsNumbered e.core = k.linked.numbered s e there in
        record {
          apart = AreApart-with_waker e.core.queue m v old.apart;
          granted_apart = λ q waits. old.granted_apart q (λ none. waits (waiting-with_waker e.core.queue m v q ∙ none));
          cut_apart = λ q some. let before = old.cut_apart q some in (waiting-with_waker e.core.queue m v q ∙ before.0, before.1);
          closing = by_closed e.core.closed refl old.closing;
        }
      where
        by_closed : (b : Bool) → e.core.closed ≡ b → cores.CutsWhereClosed b e.core.queue e.core.cut → cores.CutsWhereClosed b woken_core.queue e.core.cut
        by_closed true same h = only-with_waker e.core.queue m v h
        by_closed false same h = h

    -- nor is what is cut
    not_cut : (q b : ℕ) → get e.core.cut q ≡ Some b → (t : Bool) → has s q (Some x) ≡ t → t ≡ false
    not_cut q b is false h = refl
    not_cut q b is true h = absurd (
        let mine : is_under x.acquire q ≡ true = (and_parts (x.semaphore == s) (is_under x.acquire q) h).1 in
        let same : m ≡ q = eqb-true m q (subst (λ a. is_under a q ≡ true) acquire mine) in
        let idle = cut_idle e.core (k.linked.numbered s e there) b q is in
        let gone : cores.waiting e.core.queue m ≡ None = ap (cores.waiting e.core.queue) same ∙ idle.0 in cc)

    waker_changes : Changes st st' next (i + 1) s f e waker_entry (Some x) (Some x)
    waker_changes = record {
      there = there;
      semaphores = semaphores;
      was = was;
      futures = same_futures;
      rises = omega arith;
      inside = λ y is. (let small : f < next = k.linked.below f x was in omega arith);
      was_of = λ y is. (let same : x ≡ y = cc in ap (λ (z : FutureEntry). z.semaphore) (sym same) ∙ mine);
      is_of = λ y is. (let same : x ≡ y = cc in ap (λ (z : FutureEntry). z.semaphore) (sym same) ∙ mine);
      home = λ y is. (let same : x ≡ y = cc in subst (λ (z : FutureEntry). Belongs woken_core z.acquire × IsOpen z.acquire) same
          (subst (λ a. Belongs woken_core a × IsOpen a) (sym acquire) (inl (inr (l, waiting-with_waker e.core.queue m v m ∙ waits)), tt)));
      kept = λ b q free belongs. belongs_on b q belongs;
      wakers = λ q free free_now. waker-with_waker e.core.queue m v q (apart_from q free);
      waits = waits_now;
      grants = λ q b is. (not_mine q b is (has s q (Some x)) refl, is);
      cut = λ q b is. (not_cut q b is (has s q (Some x)) refl, is);
      cuts = λ q free free_now. refl;
      alone = λ g q y z is apart there_too yours under under_too.
          (let same : x ≡ y = cc in apart
          (k.linked.apart f g q x z was there_too (mine ∙ sym yours) (ap (λ (t : FutureEntry). is_under t.acquire q) same ∙ under) under_too));
      numbered = numbered_now;
    }

    linked_now : IsLinked st' (i + 1)
    linked_now = linked_after st st' next (i + 1) s f e waker_entry (Some x) (Some x) k.linked waker_changes

    who_same : (z : cores.Waiter ℕ × ℕ) → IsAt e.core.queue z → who_of st'.futures (i + 1) s z.0 ≡ who_of st.futures next s z.0
    who_same (cores.Acquires q b u, j) at =
        let o = k.linked.owned s e q b j there at.0 in
        let o' : IsOwned st' s q b = record {
          name = o.name;
          entry = o.entry;
          there = ap (λ t. get t o.name) futures
              ∙ o.there;
          semaphore = o.semaphore;
          acquire = o.acquire;
        } in
        ap Waiter (name-owner st' (i + 1) s q b linked_now o' ∙ sym (name-owner st next s q b k.linked o))
    who_same (cores.Owes, j) at = refl

    queue_waker : (q : List (cores.Waiter ℕ × ℕ)) → queue_of st'.futures (i + 1) s (with_waker q m v) ≡ queue_of st'.futures (i + 1) s q
    queue_waker [] = refl
    queue_waker ((cores.Acquires a b u, j) ∷ q) = ap (λ t. (Waiter (name_of st'.futures (i + 1) s a), j) ∷ t) (queue_waker q)
    queue_waker ((cores.Owes, j) ∷ q) = ap (λ t. (Debt, j) ∷ t) (queue_waker q)

    wakers_same : (q : List (cores.Waiter ℕ × ℕ)) → wakers_in (with_waker q m v) ≡ wakers_in q
    wakers_same [] = refl
    wakers_same ((cores.Acquires a b u, j) ∷ q) = ap (λ t. t + 1) (wakers_same q)
    wakers_same ((cores.Owes, j) ∷ q) = wakers_same q

    abbrev again_future : Future
    again_future = record { semaphore = s; demand = d; plain = x.plain; forgets = x.forgets; stage = Waiting v }

    pub plays_again : cause_of this_hall (events.Poll f v) ≡ None → (step this_hall i (events.Poll f v)).hall ≡ with_future this_hall f again_future
        → cores.held_of woken_core ≡ cores.held_of e.core
        → Plays st st' next i (events.Poll f v) w sp
    plays_again allowed is held =
        let c = waker_changes in
        let old = k.each s e there in
        let seen : get this_hall.semaphores s ≡ Some (semaphore_of st.futures next s e) =
        get-seen (semaphore_of st.futures next) st.semaphores s ∙ ap (option_map (semaphore_of st.futures next s)) there in
        let queue : queue_of st'.futures (i + 1) s woken_core.queue ≡ queue_of st.futures next s e.core.queue =
        queue_waker e.core.queue ∙ queue_of-same st.futures st'.futures next (i + 1) s e.core.queue
        (all_by (IsAt e.core.queue) _ who_same e.core.queue (all_at e.core.queue (k.linked.numbered s e there).apart)) in
        let future : future_of st'.semaphores x ≡ again_future =
        (λ j. record {
          semaphore = mine j;
          demand = demand_is j;
          plain = x.plain;
          forgets = x.forgets;
          stage = (
              ap (λ a. stage_of a (core_in (get st'.semaphores x.semaphore))) acquire
              ∙ ap (λ q. stage_of (acquires.Queued d m) (core_in (get st'.semaphores q))) mine
              ∙ ap (λ o. stage_of (acquires.Queued d m) (core_in o)) (semaphores s ∙ at_same s s (Some waker_entry) (get st.semaphores s) refl)
              ∙ ap (λ o. stage_under o (get e.core.cut m)) (waker-with_waker_same e.core.queue m v (d, l) waits)) j;
        }) in
        let before : get this_hall.futures f ≡ Some (future_of st.semaphores x) =
        get-seen (λ g z. future_of st.semaphores z) st.futures f ∙ ap (option_map (future_of st.semaphores)) was in
        settled_as st st' w sp next i s (events.Poll f v) e waker_entry k less low tt allowed (with_future this_hall f again_future)
        is w sp 0 0 nothing nothing there semaphores
        ((λ j. record {
          semaphores = (semaphores_after st st' next (i + 1) s f e waker_entry (Some x) (Some x) k.linked c
              ∙ ap (λ q. insert this_hall.semaphores s (seen_as e q)) queue
              ∙ ap (λ z. z.semaphores) (as_it_was this_hall s (semaphore_of st.futures next s e) seen this_hall.permits)) j;
          futures = (futures_put st st' next (i + 1) s f e waker_entry (Some x) (Some x) k.linked c x refl ∙ ap (insert this_hall.futures f) future) j;
          permits = permits j;
        }))
        linked_now
        (weighs_future this_hall f again_future (future_of st.semaphores x) before mine refl)
        (with_things (let o = old.account in let t = debts-with_waker e.core.queue m v in omega (arith, o, t)) (omega (arith, held)) refl refl old.quiet refl (omega arith))
        (ap (λ t. w + t) (sym (wakers_same e.core.queue))) k.room (let f = k.few in omega (arith, f))
      where
        demand_is : demand_of x.acquire ≡ d
        demand_is = ap demand_of acquire
