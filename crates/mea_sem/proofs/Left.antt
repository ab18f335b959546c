-- a future that leaves the queue
use Rattle.std.proofs.Common.{◌≡◌, inl, inr, ℕ, ◌+◌, ◌≤◌, ◌==◌, Bool, true, false, not, cond, [], ◌∷◌, map, refl, ap, sym, subst, ◌∙◌, arith, Option, Some, None}
use Rattle.std.specs.List.{AllByRecursion}
use Rattle.std.specs.FinMap.{get, insert, remove}
use Rattle.std.proofs.lemmas.List.Sums.{sum_by-cons}
use Rattle.std.proofs.lemmas.Bool.{eqb-true, eqb-false, eq-eqb, and_from, and_parts}
use Rattle.mea_base.proofs.Tests.{at_apart}
use Rattle.mea_sem_model.specs.Hall.{Who, Waiter, Debt, names, lack_of}
use Rattle.mea_sem_model.specs.Step.{without}
use Rattle.mea_sem_core.specs.declared.acquire.Acquire.TheVariants as acquires
use Rattle.mea_sem_core.specs.Core as cores
use Rattle.mea_sem_core.specs.Calls.{Belongs, without_acquire}
use Rattle.mea_sem.specs.declared.entries.SemaphoreEntry.{SemaphoreEntry}
use Rattle.mea_sem.specs.declared.entries.FutureEntry.{FutureEntry}
use Rattle.mea_sem.specs.Store.{Store, is_under, has, who_of, queue_of, seen_as, hall_of, IsNumbered, IsLinked}
use Rattle.mea_sem.specs.Kept.{wakers_in}
use Rattle.mea_sem.proofs.ClosedCores.{keeps_closed}
use Rattle.mea_sem.proofs.Cores.{Queue, IsAt, all_at, all_by, is_number, waiting-without, waker-without, only-waiting}
use Rattle.mea_sem.proofs.Stages.{cut_idle}
use Rattle.mea_sem.proofs.Seen.{names-number}
use Rattle.mea_sem.proofs.Changes.{Changes, linked_after, name_kept, hall_without}
use Rattle.mea_sem_core.proofs.Without.{AreApart-without}

-- whether a waiter is named as f where it has the number n
abbrev NamedAs : (cores.Waiter ℕ → Who) → ℕ → ℕ → cores.Waiter ℕ × ℕ → Type 0
NamedAs who f n e = names (who e.0) f ≡ is_number e.0 n

-- ---- the queue without it
without_seen : (who : cores.Waiter ℕ → Who) (f n : ℕ) (q : Queue) → AllByRecursion (NamedAs who f n) q
    → map {A = cores.Waiter ℕ × ℕ} {B = Who × ℕ} (λ e. (who e.0, e.1)) (without_acquire q n) ≡ without
    (map {A = cores.Waiter ℕ × ℕ} {B = Who × ℕ} (λ e. (who e.0, e.1)) q) f
without_seen who f n [] h = refl
without_seen who f n ((cores.Acquires m d w, l) ∷ q) h =
    by_test (m == n) (without_seen who f n q h.1)
    ∙ ap (λ t. cond (not t) ((who (cores.Acquires m d w), l) ∷ without (map {A = cores.Waiter ℕ × ℕ} {B = Who × ℕ} (λ e. (who e.0, e.1)) q) f)
    (without (map {A = cores.Waiter ℕ × ℕ} {B = Who × ℕ} (λ e. (who e.0, e.1)) q) f)) (sym h.0)
  where
    by_test : (t : Bool) → map {A = cores.Waiter ℕ × ℕ} {B = Who × ℕ} (λ e. (who e.0, e.1)) (without_acquire q n) ≡ without
        (map {A = cores.Waiter ℕ × ℕ} {B = Who × ℕ} (λ e. (who e.0, e.1)) q) f
        → map {A = cores.Waiter ℕ × ℕ} {B = Who × ℕ} (λ e. (who e.0, e.1)) (cond t (without_acquire q n) ((cores.Acquires m d w, l) ∷ without_acquire q n))
        ≡ cond (not t) ((who (cores.Acquires m d w), l) ∷ without (map {A = cores.Waiter ℕ × ℕ} {B = Who × ℕ} (λ e. (who e.0, e.1)) q) f)
        (without (map {A = cores.Waiter ℕ × ℕ} {B = Who × ℕ} (λ e. (who e.0, e.1)) q) f)
    by_test true rest = rest
    by_test false rest = ap (λ t. (who (cores.Acquires m d w), l) ∷ t) rest
without_seen who f n ((cores.Owes, l) ∷ q) h =
    ap (λ t. (who cores.Owes, l) ∷ t) (without_seen who f n q h.1)
    ∙ ap (λ t. cond (not t) ((who cores.Owes, l) ∷ without (map {A = cores.Waiter ℕ × ℕ} {B = Who × ℕ} (λ e. (who e.0, e.1)) q) f)
    (without (map {A = cores.Waiter ℕ × ℕ} {B = Who × ℕ} (λ e. (who e.0, e.1)) q) f)) (sym h.0)

abbrev second_or_none : Option (ℕ × ℕ) → ℕ
second_or_none None = 0
second_or_none (Some p) = p.1

-- what it lacks
lack_absent : (who : cores.Waiter ℕ → Who) (f n : ℕ) (q : Queue) → AllByRecursion (NamedAs who f n) q → cores.waiting q n ≡ None
    → lack_of (map {A = cores.Waiter ℕ × ℕ} {B = Who × ℕ} (λ e. (who e.0, e.1)) q) f ≡ 0
lack_absent who f n [] h none = refl
lack_absent who f n ((cores.Acquires m d w, l) ∷ q) h none = by_test (m == n) refl none (λ rest. lack_absent who f n q h.1 rest)
  where
    by_test : (t : Bool) → (m == n) ≡ t → cond t (Some (d, l)) (cores.waiting q n) ≡ None
        → (cores.waiting q n ≡ None → lack_of (map {A = cores.Waiter ℕ × ℕ} {B = Who × ℕ} (λ e. (who e.0, e.1)) q) f ≡ 0)
        → lack_of ((who (cores.Acquires m d w), l) ∷ map {A = cores.Waiter ℕ × ℕ} {B = Who × ℕ} (λ e. (who e.0, e.1)) q) f ≡ 0
    by_test true e none rest = absurd (cc)
    by_test false e none rest =
        let here : cond (names (who (cores.Acquires m d w)) f) l 0 ≡ 0 = ap (λ t. cond t l 0) (h.0 ∙ e) in
        omega (
          arith,
          here,
          rest none,
          sum_by-cons {X = Who × ℕ} (λ x. cond (names x.0 f) x.1 0) (who (cores.Acquires m d w), l)
              (map {A = cores.Waiter ℕ × ℕ} {B = Who × ℕ} (λ x. (who x.0, x.1)) q),
        )
lack_absent who f n ((cores.Owes, l) ∷ q) h none =
    let here : cond (names (who cores.Owes) f) l 0 ≡ 0 = ap (λ t. cond t l 0) h.0 in
    omega (
      arith,
      here,
      lack_absent who f n q h.1 none,
      sum_by-cons {X = Who × ℕ} (λ x. cond (names x.0 f) x.1 0) (who cores.Owes, l)
          (map {A = cores.Waiter ℕ × ℕ} {B = Who × ℕ} (λ x. (who x.0, x.1)) q),
    )

lack_seen : (who : cores.Waiter ℕ → Who) (f n d k : ℕ) (q : Queue) → AllByRecursion (NamedAs who f n) q → cores.AreApart q
    → cores.waiting q n ≡ Some (d, k) → lack_of (map {A = cores.Waiter ℕ × ℕ} {B = Who × ℕ} (λ e. (who e.0, e.1)) q) f ≡ k
lack_seen who f n d k [] h apart is = absurd (cc)
lack_seen who f n d k ((cores.Acquires m b w, l) ∷ q) h apart is = by_test (m == n) refl is (λ rest. lack_seen who f n d k q h.1 apart.1 rest)
  where
    by_test : (t : Bool) → (m == n) ≡ t → cond t (Some (b, l)) (cores.waiting q n) ≡ Some (d, k)
        → (cores.waiting q n ≡ Some (d, k) → lack_of (map {A = cores.Waiter ℕ × ℕ} {B = Who × ℕ} (λ e. (who e.0, e.1)) q) f ≡ k)
        → lack_of ((who (cores.Acquires m b w), l) ∷ map {A = cores.Waiter ℕ × ℕ} {B = Who × ℕ} (λ e. (who e.0, e.1)) q) f ≡ k
    by_test true e some rest =
        let here : cond (names (who (cores.Acquires m b w)) f) l 0 ≡ l = ap (λ t. cond t l 0) (h.0 ∙ e) in
        let mine : l ≡ k = ap second_or_none some in
        let none : cores.waiting q n ≡ None = ap (cores.waiting q) (sym (eqb-true m n e)) ∙ apart.0 in
        omega (
          arith,
          here,
          mine,
          lack_absent who f n q h.1 none,
          sum_by-cons {X = Who × ℕ} (λ x. cond (names x.0 f) x.1 0)
              (who (cores.Acquires m b w), l) (map {A = cores.Waiter ℕ × ℕ} {B = Who × ℕ} (λ x. (who x.0, x.1)) q),
        )
    by_test false e some rest =
        let here : cond (names (who (cores.Acquires m b w)) f) l 0 ≡ 0 = ap (λ t. cond t l 0) (h.0 ∙ e) in
        omega (
          arith,
          here,
          rest some,
          sum_by-cons {X = Who × ℕ} (λ x. cond (names x.0 f) x.1 0) (who (cores.Acquires m b w), l)
              (map {A = cores.Waiter ℕ × ℕ} {B = Who × ℕ} (λ x. (who x.0, x.1)) q),
        )
lack_seen who f n d k ((cores.Owes, l) ∷ q) h apart is =
    let here : cond (names (who cores.Owes) f) l 0 ≡ 0 = ap (λ t. cond t l 0) h.0 in
    omega (
      arith,
      here,
      lack_seen who f n d k q h.1 apart is,
      sum_by-cons {X = Who × ℕ} (λ x. cond (names x.0 f) x.1 0) (who cores.Owes, l)
          (map {A = cores.Waiter ℕ × ℕ} {B = Who × ℕ} (λ x. (who x.0, x.1)) q),
    )

-- its waker is gone
wakers_absent : (q : Queue) (n : ℕ) → cores.waiting q n ≡ None → wakers_in (without_acquire q n) ≡ wakers_in q
wakers_absent [] n h = refl
wakers_absent ((cores.Acquires m d w, l) ∷ q) n h = elim (m == n)
    as (λ t. cond t (Some (d, l)) (cores.waiting q n) ≡ None → wakers_in
    (cond t (without_acquire q n) ((cores.Acquires m d w, l) ∷ without_acquire q n)) ≡ wakers_in q + 1) [
      | true ↦ λ e. absurd (cc)
      | false ↦ λ e. ap (λ t. t + 1) (wakers_absent q n e)
    ] h
wakers_absent ((cores.Owes, l) ∷ q) n h = wakers_absent q n h

pub wakers_without : (q : Queue) (n d k : ℕ) → cores.AreApart q → cores.waiting q n ≡ Some (d, k) → wakers_in (without_acquire q n) + 1 ≡ wakers_in q
wakers_without [] n d k apart h = absurd (cc)
wakers_without ((cores.Acquires m b w, l) ∷ q) n d k apart h =
    elim (m == n) as (λ t. (m == n) ≡ t → cond t (Some (b, l)) (cores.waiting q n) ≡ Some (d, k)
    → wakers_in (cond t (without_acquire q n) ((cores.Acquires m b w, l) ∷ without_acquire q n)) + 1 ≡ wakers_in q + 1) [
      | true ↦ λ e is. ap (λ t. t + 1) (wakers_absent q n (ap (cores.waiting q) (sym (eqb-true m n e)) ∙ apart.0))
      | false ↦ λ e is. ap (λ t. t + 1) (wakers_without q n d k apart.1 is)
    ] refl h
wakers_without ((cores.Owes, l) ∷ q) n d k apart h = wakers_without q n d k apart h

-- ---- the future f, which waits under the number n, leaves s
module _ (st st' : Store) (next i s f n d k : ℕ) (x : FutureEntry) (e e' : SemaphoreEntry) (linked : IsLinked st next) (less : next ≤ i)
    (there : get st.semaphores s ≡ Some e) (semaphores : (q : ℕ) → get st'.semaphores q ≡ cond (s == q) (Some e') (get st.semaphores q))
    (was : get st.futures f ≡ Some x) (futures : (g : ℕ) → get st'.futures g ≡ cond (f == g) None (get st.futures g)) (mine : x.semaphore ≡ s)
    (acquire : x.acquire ≡ acquires.Queued d n) (waits : cores.waiting e.core.queue n ≡ Some (d, k))
    (queue : e'.core.queue ≡ without_acquire e.core.queue n) (granted : e'.core.granted ≡ e.core.granted) (cut : e'.core.cut ≡ e.core.cut)
    (closed : e'.core.closed ≡ e.core.closed) where
  numbered : IsNumbered e.core
  numbered = linked.numbered s e there

  under : (m : ℕ) → n ≡ m → has s m (Some x) ≡ true
  under m same = and_from _ _ (eq-eqb _ _ mine) (ap (λ a. is_under a m) acquire ∙ eq-eqb n m same)

  apart_from : (m : ℕ) → has s m (Some x) ≡ false → n ≡ m → ⊥
  apart_from m free same = absurd (let here = under m same in cc)

  not_under : (m : ℕ) → (n ≡ m → ⊥) → (t : Bool) → has s m (Some x) ≡ t → t ≡ false
  not_under m apart false h = refl
  not_under m apart true h = let parts = and_parts _ _ h in absurd (apart (eqb-true n m (ap (λ a. is_under a m) (sym acquire) ∙ parts.1)))

  waiting_now : (m : ℕ) → cores.waiting e'.core.queue m ≡ cond (n == m) None (cores.waiting e.core.queue m)
  waiting_now m = ap (λ q. cores.waiting q m) queue ∙ waiting-without e.core.queue n m

  belongs_on : (b m : ℕ) → has s m (Some x) ≡ false → Belongs e.core (acquires.Queued b m) → Belongs e'.core (acquires.Queued b m)
  belongs_on b m free (inl (inl is)) = inl (inl (ap (λ g. get g m) granted ∙ is))
  belongs_on b m free (inl (inr is)) = inl (inr (is.0, waiting_now m ∙ at_apart n m None (cores.waiting e.core.queue m) (apart_from m free) ∙ is.1))
  belongs_on b m free (inr is) = inr (closed ∙ is.0, ap (λ g. get g m) cut ∙ is.1)

  numbered_on : IsNumbered e'.core
  numbered_on = record {
    apart = subst cores.AreApart (sym queue) (AreApart-without e.core.queue n numbered.apart);
    granted_apart = λ m some. ap (λ g. get g m) granted ∙ numbered.granted_apart m
        (λ none. some (waiting_now m ∙ still (n == m) (cores.waiting e.core.queue m) none));
    cut_apart = λ m some.
        let before = numbered.cut_apart m (λ none. some (ap (λ g. get g m) cut ∙ none)) in
        (waiting_now m ∙ still (n == m) (cores.waiting e.core.queue m) before.0, ap (λ g. get g m) granted ∙ before.1);
    closing = keeps_closed e.core.closed e'.core.closed e.core.queue e'.core.queue e.core.cut e'.core.cut closed
        (λ h. absurd (let none = only-waiting e.core.queue n h in cc))
        (λ h. cut ∙ h) numbered.closing;
  }
    where
      still : (t : Bool) (o : Option (ℕ × ℕ)) → o ≡ None → cond t None o ≡ None
      still true o h = refl
      still false o h = h

  waits_now : (m b l : ℕ) → cores.waiting e'.core.queue m ≡ Some (b, l) → (has s m (Some x) ≡ false) × ((j : ℕ) × (cores.waiting e.core.queue m ≡ Some (b, j)))
  waits_now m b l is = by_test (n == m) refl (sym (waiting_now m) ∙ is)
    where
      by_test : (t : Bool) → (n == m) ≡ t → cond t None (cores.waiting e.core.queue m) ≡ Some (b, l)
          → (has s m (Some x) ≡ false) × ((j : ℕ) × (cores.waiting e.core.queue m ≡ Some (b, j)))
      by_test true h some = absurd (cc)
      by_test false h some = (not_under m (eqb-false n m h) (has s m (Some x)) refl, (l, some))

  pub changes_left : Changes st st' next (i + 1) s f e e' (Some x) None
  changes_left = record {
    there = there;
    semaphores = semaphores;
    was = was;
    futures = futures;
    rises = omega arith;
    inside = λ y is. absurd (cc);
    was_of = λ y is. (let same : x ≡ y = cc in ap (λ (z : FutureEntry). z.semaphore) (sym same) ∙ mine);
    is_of = λ y is. absurd (cc);
    home = λ y is. absurd (cc);
    kept = λ b m free. belongs_on b m free;
    wakers = λ m free free_now. ap (λ q. cores.waker_under q m) queue ∙ waker-without e.core.queue n m
        ∙ at_apart n m None (cores.waker_under e.core.queue m) (apart_from m free);
    waits = λ m b l is. inr (waits_now m b l is);
    grants = λ m b is. grants_on m b (ap (λ g. get g m) (sym granted) ∙ is) (n == m) refl;
    cut = λ m b is. cut_on m b (ap (λ g. get g m) (sym cut) ∙ is) (n == m) refl;
    cuts = λ m free free_now. ap (λ g. get g m) cut;
    alone = λ g m y z is. absurd (cc);
    numbered = numbered_on;
  }
    where
      cut_on : (m b : ℕ) → get e.core.cut m ≡ Some b → (t : Bool) → (n == m) ≡ t → (has s m (Some x) ≡ false) × (get e.core.cut m ≡ Some b)
      cut_on m b is false h = (not_under m (eqb-false n m h) (has s m (Some x)) refl, is)
      cut_on m b is true h = absurd (let idle = cut_idle e.core numbered b m is in
          let gone : cores.waiting e.core.queue n ≡ None = ap (cores.waiting e.core.queue) (eqb-true n m h) ∙ idle.0 in cc)

      grants_on : (m b : ℕ) → get e.core.granted m ≡ Some b → (t : Bool) → (n == m) ≡ t → (has s m (Some x) ≡ false) × (get e.core.granted m ≡ Some b)
      grants_on m b is false h = (not_under m (eqb-false n m h) (has s m (Some x)) refl, is)
      grants_on m b is true h = absurd (
          let none : get e.core.granted m ≡ None = numbered.granted_apart m
          (λ gone. absurd (let some : cores.waiting e.core.queue m ≡ Some (d, k) = ap (cores.waiting e.core.queue) (sym (eqb-true n m h)) ∙ waits in cc)) in
          cc)

  pub linked_left : IsLinked st' (i + 1)
  linked_left = linked_after st st' next (i + 1) s f e e' (Some x) None linked changes_left

  -- each of the queue is f where it has f's number
  all_named : AllByRecursion (NamedAs (who_of st.futures next s) f n) e.core.queue
  all_named = all_by (IsAt e.core.queue) (NamedAs (who_of st.futures next s) f n)
      (λ z at. names-number st next s e linked there f x z.0 z.1 was mine at n d acquire) e.core.queue (all_at e.core.queue numbered.apart)

  pub lack_left : lack_of (queue_of st.futures next s e.core.queue) f ≡ k
  lack_left = lack_seen (who_of st.futures next s) f n d k e.core.queue all_named numbered.apart waits

  -- those who stay are named as before
  same_names : (q : Queue) → AllByRecursion (IsAt e.core.queue) q
      → queue_of st'.futures (i + 1) s (without_acquire q n) ≡ queue_of st.futures next s (without_acquire q n)
  same_names [] h = refl
  same_names ((cores.Acquires m b w, l) ∷ q) h = by_test (m == n) refl (same_names q h.1)
    where
      by_test : (t : Bool) → (m == n) ≡ t → queue_of st'.futures (i + 1) s (without_acquire q n) ≡ queue_of st.futures next s (without_acquire q n)
          → queue_of st'.futures (i + 1) s
          (cond t (without_acquire q n) ((cores.Acquires m b w, l) ∷ without_acquire q n)) ≡ queue_of st.futures next s
          (cond t (without_acquire q n) ((cores.Acquires m b w, l) ∷ without_acquire q n))
      by_test true e rest = rest
      by_test false t rest =
          let free : has s m (Some x) ≡ false = not_under m (λ same. eqb-false m n t (sym same)) (has s m (Some x)) refl in
          λ j. (Waiter (name_kept st st' next (i + 1) s f e e' (Some x) None linked changes_left m b (linked.owned s e m b l there h.0.0) free j), l) ∷ rest j
  same_names ((cores.Owes, l) ∷ q) h = ap (λ t. (Debt, l) ∷ t) (same_names q h.1)

  pub hall_left : hall_of st' (i + 1) ≡ record {
    semaphores = insert (hall_of st next).semaphores s (seen_as e' (without (queue_of st.futures next s e.core.queue) f));
    futures = remove (hall_of st next).futures f;
    permits = st'.permits;
  }
  hall_left = hall_without st st' next (i + 1) s f e e' (Some x) None linked changes_left _ refl
      (ap (queue_of st'.futures (i + 1) s) queue ∙ same_names e.core.queue (all_at e.core.queue numbered.apart)
      ∙ without_seen (who_of st.futures next s) f n e.core.queue all_named)
