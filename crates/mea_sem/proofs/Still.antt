-- changes of a semaphore that leave everybody who waits and every future where they are
use Rattle.std.proofs.Common.{◌≡◌, inl, inr, ℕ, ◌+◌, ◌<◌, ◌≤◌, ◌==◌, Bool, true, false, cond, List, refl, ap, sym, subst, ◌∙◌, arith, Option, Some, None}
use Rattle.std.specs.FinMap.{get, insert}
use Rattle.std.proofs.lemmas.Bool.{eqb-true}
use Rattle.mea_sem_model.specs.Hall.{Who}
use Rattle.mea_sem_core.specs.declared.acquire.Acquire.TheVariants.{Queued}
use Rattle.mea_sem_core.specs.Core as cores
use Rattle.mea_sem_core.specs.Calls.{Belongs}
use Rattle.mea_sem.specs.declared.entries.SemaphoreEntry.{SemaphoreEntry}
use Rattle.mea_sem.specs.declared.entries.FutureEntry.{FutureEntry}
use Rattle.mea_sem.specs.Store.{Store, queue_of, hall_of, IsNumbered, IsLinked, seen_as}
use Rattle.mea_sem.proofs.ClosedCores.{keeps_closed}
use Rattle.mea_sem.proofs.Changes.{Changes, linked_after, queue_kept, semaphores_after, futures_same}

-- every number of the core has what it had
pub record IsStill (e e' : SemaphoreEntry) : Type 0 where
  pub waiting : (n : ℕ) → cores.waiting e'.core.queue n ≡ cores.waiting e.core.queue n
  pub wakers : (n : ℕ) → cores.waker_under e'.core.queue n ≡ cores.waker_under e.core.queue n
  pub granted : e'.core.granted ≡ e.core.granted
  pub cut : e'.core.cut ≡ e.core.cut
  pub closed : e'.core.closed ≡ e.core.closed
  pub apart : cores.AreApart e.core.queue → cores.AreApart e'.core.queue
  pub only_debts : cores.HasOnlyDebts e.core.queue → cores.HasOnlyDebts e'.core.queue

pub still_queue : (e e' : SemaphoreEntry) → e'.core.queue ≡ e.core.queue → e'.core.granted ≡ e.core.granted → e'.core.cut ≡ e.core.cut
    → e'.core.closed ≡ e.core.closed → IsStill e e'
still_queue e e' queue granted cut closed = record {
  waiting = λ n. ap (λ q. cores.waiting q n) queue;
  wakers = λ n. ap (λ q. cores.waker_under q n) queue;
  granted = granted;
  cut = cut;
  closed = closed;
  apart = subst cores.AreApart (sym queue);
  only_debts = subst cores.HasOnlyDebts (sym queue);
}

-- there is no future of a number that was not given
pub no_future : (st : Store) (next i : ℕ) → IsLinked st next → next ≤ i → get st.futures i ≡ None
no_future st next i linked less = at_value (get st.futures i) refl
  where
    at_value : (o : Option FutureEntry) → get st.futures i ≡ o → o ≡ None
    at_value None is = refl
    at_value (Some x) is = let small : i < next = linked.below i x is in absurd (omega arith)

module _ (st st' : Store) (next i s : ℕ) (e e' : SemaphoreEntry) (linked : IsLinked st next) (less : next ≤ i) (there : get st.semaphores s ≡ Some e)
    (semaphores : (q : ℕ) → get st'.semaphores q ≡ cond (s == q) (Some e') (get st.semaphores q)) (futures : st'.futures ≡ st.futures)
    (still : IsStill e e') where
  belongs_still : (d n : ℕ) → Belongs e.core (Queued d n) → Belongs e'.core (Queued d n)
  belongs_still d n (inl (inl granted)) = inl (inl (ap (λ g. get g n) still.granted ∙ granted))
  belongs_still d n (inl (inr waits)) = inl (inr (waits.0, still.waiting n ∙ waits.1))
  belongs_still d n (inr cut) = inr (still.closed ∙ cut.0, ap (λ g. get g n) still.cut ∙ cut.1)

  -- the number i is no future's, before and after
  pub changes_still : Changes st st' next (i + 1) s i e e' None None
  changes_still = record {
    there = there;
    semaphores = semaphores;
    was = no_future st next i linked less;
    futures = λ g. ap (λ m. get m g) futures ∙ at_i g (i == g) refl;
    rises = omega arith;
    inside = λ x is. absurd (cc);
    was_of = λ x is. absurd (cc);
    is_of = λ x is. absurd (cc);
    home = λ x is. absurd (cc);
    kept = λ d n free. belongs_still d n;
    wakers = λ n free free_now. still.wakers n;
    waits = λ n d l is. inr (refl, (l, sym (still.waiting n) ∙ is));
    grants = λ n d is. (refl, ap (λ g. get g n) (sym still.granted) ∙ is);
    cut = λ n d is. (refl, ap (λ g. get g n) (sym still.cut) ∙ is);
    cuts = λ n free free_now. ap (λ g. get g n) still.cut;
    alone = λ g n x y is. absurd (cc);
    numbered =
        let old : IsNumbered e.core = linked.numbered s e there in
        record {
          apart = still.apart old.apart;
          granted_apart = λ n waits. ap (λ g. get g n) still.granted ∙ old.granted_apart n (λ none. waits (still.waiting n ∙ none));
          cut_apart = λ n some.
              let parts = old.cut_apart n (λ none. some (ap (λ g. get g n) still.cut ∙ none)) in
              (still.waiting n ∙ parts.0, ap (λ g. get g n) still.granted ∙ parts.1);
          closing = keeps_closed e.core.closed e'.core.closed e.core.queue e'.core.queue e.core.cut e'.core.cut still.closed
              (λ h. still.only_debts h)
              (λ h. still.cut ∙ h) old.closing;
        };
  }
    where
      at_i : (g : ℕ) (t : Bool) → (i == g) ≡ t → get st.futures g ≡ cond t None (get st.futures g)
      at_i g true h = ap (get st.futures) (sym (eqb-true i g h)) ∙ no_future st next i linked less
      at_i g false h = refl

  pub linked_still : IsLinked st' (i + 1)
  linked_still = linked_after st st' next (i + 1) s i e e' None None linked changes_still

  pub queue_still : queue_of st'.futures (i + 1) s e.core.queue ≡ queue_of st.futures next s e.core.queue
  queue_still = queue_kept st st' next (i + 1) s i e e' None None linked changes_still (λ n d k is. refl)

  -- the hall after it, where the queue is seen as q
  pub hall_still : (q : List (Who × ℕ)) → queue_of st'.futures (i + 1) s e'.core.queue ≡ q
      → hall_of st' (i + 1) ≡ record {
        semaphores = insert (hall_of st next).semaphores s (seen_as e' q);
        futures = (hall_of st next).futures;
        permits = st'.permits;
      }
  hall_still q seen = λ j. record {
    semaphores = (semaphores_after st st' next (i + 1) s i e e' None None linked changes_still
        ∙ ap (λ p. insert (hall_of st next).semaphores s (seen_as e' p)) seen) j;
    futures = futures_same st st' next (i + 1) s i e e' None None linked changes_still refl refl j;
    permits = st'.permits;
  }
