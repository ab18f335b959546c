-- a future that leaves while everybody who waits stays where they are
use Rattle.std.proofs.Common.{◌≡◌, inl, inr, ℕ, ◌+◌, ◌≤◌, ◌==◌, Bool, true, false, cond, refl, ap, sym, subst, ◌∙◌, arith, Option, Some, None}
use Rattle.std.specs.Option.{option_map}
use Rattle.std.specs.Ordering.{nat_cmp}
use Rattle.std.specs.FinMap.{FinMap, get, get-empty, insert, remove}
use Rattle.std.proofs.lemmas.Bool.{eqb-true, eq-eqb, and_from, and_parts}
use Rattle.std.proofs.Common.{◌&&◌}
use Rattle.mea_base.proofs.Totals.{get_removed}
use Rattle.mea_base.proofs.Tests.{at_same, at_apart}
use Rattle.mea_base.proofs.NamedMaps.{same_named, get-seen}
use Rattle.mea_sem_model.specs.Hall.{FutureStage}
use Rattle.mea_sem_core.specs.declared.acquire.Acquire.{Acquire}
use Rattle.mea_sem_core.specs.declared.acquire.Acquire.TheVariants as acquires
use Rattle.mea_sem_core.specs.Acquire.{demand_of}
use Rattle.mea_sem_core.specs.Core as cores
use Rattle.mea_sem_core.specs.Calls.{Belongs}
use Rattle.mea_sem.specs.declared.entries.SemaphoreEntry.{SemaphoreEntry}
use Rattle.mea_sem.specs.declared.entries.FutureEntry.{FutureEntry}
use Rattle.mea_sem.specs.Store.{Store, has, queue_of, seen_as, core_in, stage_of, future_of, hall_of, IsNumbered, IsLinked}
use Rattle.mea_sem.specs.Store.{is_under}
use Rattle.mea_sem.proofs.ClosedCores.{keeps_closed}
use Rattle.mea_sem.proofs.Stages.{granted_idle, granted_uncut, cut_idle}
use Rattle.mea_sem.proofs.Changes.{Changes, linked_after, queue_kept, hall_without}

-- a future as it is seen, at a stage that is known
pub seen_future : (st : Store) (b f : ℕ) (x : FutureEntry) (e : SemaphoreEntry) (a : Acquire) (z : FutureStage) → get st.futures f ≡ Some x
    → get st.semaphores x.semaphore ≡ Some e → x.acquire ≡ a → stage_of a e.core ≡ z
    → get (hall_of st b).futures f ≡ Some (record { semaphore = x.semaphore; demand = demand_of a; plain = x.plain; forgets = x.forgets; stage = z })
seen_future st b f x e a z is there acquire stage =
    get-seen (λ g y. future_of st.semaphores y) st.futures f ∙ ap (option_map (future_of st.semaphores)) is
    ∙ (λ j. Some (record { semaphore = x.semaphore; demand = demand_of (acquire j); plain = x.plain; forgets = x.forgets; stage = seen j }))
  where
    seen : stage_of x.acquire (core_in (get st.semaphores x.semaphore)) ≡ z
    seen = ap (λ d. stage_of x.acquire (core_in d)) there ∙ ap (λ y. stage_of y e.core) acquire ∙ stage

-- the numbers that are mine are no keys any more, and nothing else has changed
pub record Frees (mine : ℕ → Bool) (pairs pairs' : FinMap nat_cmp ℕ) : Type 0 where
  pub others : (n : ℕ) → mine n ≡ false → get pairs' n ≡ get pairs n
  pub freed : (n : ℕ) → mine n ≡ true → get pairs' n ≡ None
  pub none_more : (n : ℕ) → get pairs n ≡ None → get pairs' n ≡ None

-- who is still a key was one before, and is not mine
kept_from : (mine : ℕ → Bool) (pairs pairs' : FinMap nat_cmp ℕ) → Frees mine pairs pairs' → (n d : ℕ) → get pairs' n ≡ Some d
    → (mine n ≡ false) × (get pairs n ≡ Some d)
kept_from mine pairs pairs' f n d is = by_test (mine n) refl
  where
    by_test : (t : Bool) → mine n ≡ t → (mine n ≡ false) × (get pairs n ≡ Some d)
    by_test true h = absurd (let none = f.freed n h in cc)
    by_test false h = (h, sym (f.others n h) ∙ is)

-- nothing was a key of mine
frees_none : (mine : ℕ → Bool) (pairs pairs' : FinMap nat_cmp ℕ) → pairs' ≡ pairs → ((n : ℕ) → mine n ≡ true → get pairs n ≡ None) → Frees mine pairs pairs'
frees_none mine pairs pairs' same none = record {
  others = λ n free. ap (λ m. get m n) same;
  freed = λ n under. ap (λ m. get m n) same ∙ none n under;
  none_more = λ n absent. ap (λ m. get m n) same ∙ absent;
}

-- one number was mine, and it is removed
frees_one : (mine : ℕ → Bool) (pairs pairs' : FinMap nat_cmp ℕ) (k : ℕ) → pairs' ≡ remove pairs k → ((n : ℕ) → mine n ≡ true → k ≡ n) → mine k ≡ true
    → Frees mine pairs pairs'
frees_one mine pairs pairs' k same only under = record {
  others = λ n free. removed n ∙ at_apart k n None (get pairs n) (λ is. absurd (let here : mine n ≡ true = ap mine (sym is) ∙ under in cc));
  freed = λ n yours. removed n ∙ at_same k n None (get pairs n) (only n yours);
  none_more = λ n none. removed n ∙ still (k == n) (get pairs n) none;
}
  where
    removed : (n : ℕ) → get pairs' n ≡ cond (k == n) None (get pairs n)
    removed n = ap (λ m. get m n) same ∙ get_removed pairs k n

    still : (t : Bool) (o : Option ℕ) → o ≡ None → cond t None o ≡ None
    still true o h = refl
    still false o h = h

-- what is asked of the change
pub record Leaves (st st' : Store) (s f : ℕ) (x : FutureEntry) (e e' : SemaphoreEntry) : Type 0 where
  pub there : get st.semaphores s ≡ Some e
  pub semaphores : (q : ℕ) → get st'.semaphores q ≡ cond (s == q) (Some e') (get st.semaphores q)
  pub was : get st.futures f ≡ Some x
  pub futures : (g : ℕ) → get st'.futures g ≡ cond (f == g) None (get st.futures g)
  pub is_of : x.semaphore ≡ s
  pub queue : e'.core.queue ≡ e.core.queue
  -- f does not wait
  pub idle : (n d l : ℕ) → cores.waiting e.core.queue n ≡ Some (d, l) → has s n (Some x) ≡ false
  pub granted : Frees (λ n. has s n (Some x)) e.core.granted e'.core.granted
  pub cut : Frees (λ n. has s n (Some x)) e.core.cut e'.core.cut
  pub closed : e'.core.closed ≡ e.core.closed

module _ (st st' : Store) (next i s f : ℕ) (x : FutureEntry) (e e' : SemaphoreEntry) (linked : IsLinked st next) (less : next ≤ i)
    (c : Leaves st st' s f x e e') where
  belongs_on : (d n : ℕ) → has s n (Some x) ≡ false → Belongs e.core (acquires.Queued d n) → Belongs e'.core (acquires.Queued d n)
  belongs_on d n free (inl (inl granted)) = inl (inl (c.granted.others n free ∙ granted))
  belongs_on d n free (inl (inr waits)) = inl (inr (waits.0, ap (λ q. cores.waiting q n) c.queue ∙ waits.1))
  belongs_on d n free (inr cut) = inr (c.closed ∙ cut.0, c.cut.others n free ∙ cut.1)

  pub changes_gone : Changes st st' next (i + 1) s f e e' (Some x) None
  changes_gone = record {
    there = c.there;
    semaphores = c.semaphores;
    was = c.was;
    futures = c.futures;
    rises = omega arith;
    inside = λ y is. absurd (cc);
    was_of = λ y is. (let same : x ≡ y = cc in ap (λ (z : FutureEntry). z.semaphore) (sym same) ∙ c.is_of);
    is_of = λ y is. absurd (cc);
    home = λ y is. absurd (cc);
    kept = λ d n free. belongs_on d n free;
    wakers = λ n free free_now. ap (λ q. cores.waker_under q n) c.queue;
    waits = λ n d l is. (let was : cores.waiting e.core.queue n ≡ Some (d, l) = ap (λ q. cores.waiting q n) (sym c.queue) ∙ is in
        inr (c.idle n d l was, (l, was)));
    grants = λ n d is. kept_from (λ m. has s m (Some x)) e.core.granted e'.core.granted c.granted n d is;
    cut = λ n d is. kept_from (λ m. has s m (Some x)) e.core.cut e'.core.cut c.cut n d is;
    cuts = λ n free free_now. c.cut.others n free;
    alone = λ g n y z is. absurd (cc);
    numbered =
        let old : IsNumbered e.core = linked.numbered s e c.there in
        record {
          apart = subst cores.AreApart (sym c.queue) old.apart;
          granted_apart = λ n waits. c.granted.none_more n (old.granted_apart n (λ none. waits (ap (λ q. cores.waiting q n) c.queue ∙ none)));
          cut_apart = λ n some.
              let before = old.cut_apart n (λ none. some (c.cut.none_more n none)) in
              (ap (λ q. cores.waiting q n) c.queue ∙ before.0, c.granted.none_more n before.1);
          closing = keeps_closed e.core.closed e'.core.closed e.core.queue e'.core.queue e.core.cut e'.core.cut c.closed
              (λ h. subst cores.HasOnlyDebts (sym c.queue) h)
              (λ h. same_named _ _ (λ n. c.cut.none_more n (ap (λ m. get m n) h ∙ get-empty nat_cmp n) ∙ sym (get-empty nat_cmp n))) old.closing;
        };
  }

  pub linked_gone : IsLinked st' (i + 1)
  linked_gone = linked_after st st' next (i + 1) s f e e' (Some x) None linked changes_gone

  pub hall_gone : hall_of st' (i + 1) ≡ record {
    semaphores = insert (hall_of st next).semaphores s (seen_as e' (queue_of st.futures next s e.core.queue));
    futures = remove (hall_of st next).futures f;
    permits = st'.permits;
  }
  hall_gone = hall_without st st' next (i + 1) s f e e' (Some x) None linked changes_gone _ refl
      (ap (queue_of st'.futures (i + 1) s) c.queue ∙ queue_kept st st' next (i + 1) s f e e' (Some x) None linked changes_gone c.idle)

-- ---- the ways in which a future leaves that does not wait

module _ (st st' : Store) (next s f : ℕ) (x : FutureEntry) (e e' : SemaphoreEntry) (linked : IsLinked st next) (there : get st.semaphores s ≡ Some e)
    (semaphores : (q : ℕ) → get st'.semaphores q ≡ cond (s == q) (Some e') (get st.semaphores q)) (was : get st.futures f ≡ Some x)
    (futures : (g : ℕ) → get st'.futures g ≡ cond (f == g) None (get st.futures g)) (mine : x.semaphore ≡ s) (queue : e'.core.queue ≡ e.core.queue)
    (closed : e'.core.closed ≡ e.core.closed) where
  abbrev its : ℕ → Bool
  its n = has s n (Some x)

  -- it was never polled
  pub leaves_new : (d : ℕ) → x.acquire ≡ acquires.New d → e'.core.granted ≡ e.core.granted → e'.core.cut ≡ e.core.cut → Leaves st st' s f x e e'
  leaves_new d acquire granted cut = record {
    there = there;
    semaphores = semaphores;
    was = was;
    futures = futures;
    is_of = mine;
    queue = queue;
    idle = λ n d l is. not_under n;
    granted = frees_none its e.core.granted e'.core.granted granted (λ n under. absurd (let other = not_under n in cc));
    cut = frees_none its e.core.cut e'.core.cut cut (λ n under. absurd (let other = not_under n in cc));
    closed = closed;
  }
    where
      both_false : (t : Bool) → (t && false) ≡ false
      both_false true = refl
      both_false false = refl

      not_under : (n : ℕ) → has s n (Some x) ≡ false
      not_under n = ap (λ a. (x.semaphore == s) && is_under a n) acquire ∙ both_false (x.semaphore == s)

  -- it has the number n, which does not wait
  module _ (d n : ℕ) (acquire : x.acquire ≡ acquires.Queued d n) (none : cores.waiting e.core.queue n ≡ None) where
    only : (m : ℕ) → its m ≡ true → n ≡ m
    only m yours = eqb-true n m (ap (λ a. is_under a m) (sym acquire) ∙ (and_parts _ _ yours).1)

    own : its n ≡ true
    own = and_from _ _ (eq-eqb _ _ mine) (ap (λ a. is_under a n) acquire ∙ eq-eqb n n refl)

    not_under : (m b l : ℕ) → cores.waiting e.core.queue m ≡ Some (b, l) → (t : Bool) → its m ≡ t → t ≡ false
    not_under m b l is false h = refl
    not_under m b l is true h = absurd (let gone : cores.waiting e.core.queue m ≡ None = ap (cores.waiting e.core.queue) (sym (only m h)) ∙ none in cc)

    leaves_numbered : Frees its e.core.granted e'.core.granted → Frees its e.core.cut e'.core.cut → Leaves st st' s f x e e'
    leaves_numbered granted cut = record {
      there = there;
      semaphores = semaphores;
      was = was;
      futures = futures;
      is_of = mine;
      queue = queue;
      idle = λ m b l is. not_under m b l is (its m) refl;
      granted = granted;
      cut = cut;
      closed = closed;
    }

  -- it was granted
  pub leaves_granted : (d n : ℕ) → x.acquire ≡ acquires.Queued d n → get e.core.granted n ≡ Some d → e'.core.granted ≡ remove e.core.granted n
      → e'.core.cut ≡ e.core.cut → Leaves st st' s f x e e'
  leaves_granted d n acquire is granted cut =
      let numbered = linked.numbered s e there in
      let none = granted_idle e.core numbered d n is in
      leaves_numbered d n acquire none (frees_one its e.core.granted e'.core.granted n granted (only d n acquire none) (own d n acquire none))
      (frees_none its e.core.cut e'.core.cut cut (λ m yours. ap (get e.core.cut) (sym (only d n acquire none m yours)) ∙ granted_uncut e.core numbered d n is))

  -- it was cut
  pub leaves_cut : (d n : ℕ) → x.acquire ≡ acquires.Queued d n → get e.core.cut n ≡ Some d → e'.core.granted ≡ e.core.granted
      → e'.core.cut ≡ remove e.core.cut n → Leaves st st' s f x e e'
  leaves_cut d n acquire is granted cut =
      let idle = cut_idle e.core (linked.numbered s e there) d n is in
      leaves_numbered d n acquire idle.0
      (frees_none its e.core.granted e'.core.granted granted (λ m yours. ap (get e.core.granted) (sym (only d n acquire idle.0 m yours)) ∙ idle.1))
      (frees_one its e.core.cut e'.core.cut n cut (only d n acquire idle.0) (own d n acquire idle.0))
