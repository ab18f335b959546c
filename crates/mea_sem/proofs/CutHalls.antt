-- all who wait at a semaphore are cut, in its core and in the hall that is stood for
use Rattle.std.proofs.Common.{◌≡◌, ◌⊎◌, inl, inr, ℕ, ◌-◌, ◌==◌, true, false, cond, List, [], ◌∷◌, refl, ap, sym, subst, ◌∙◌, arith, Option, Some, None}
use Rattle.std.specs.List.{AllByRecursion}
use Rattle.std.specs.Option.{option_map}
use Rattle.std.specs.FinMap.{get, get-empty, insert}
use Rattle.std.specs.Ordering.{nat_cmp}
use Rattle.std.proofs.lemmas.List.Sums.{sum_by-cons}
use Rattle.mea_base.proofs.NamedMaps.{get-seen}
use Rattle.mea_sem_model.specs.Hall.{Cut, Who, Debt, queue_at, stage_all, paid_to_who, paid_in, demand_at, debts_in, cutting}
use Rattle.mea_sem_core.specs.Acquire.{demand_of}
use Rattle.mea_sem_core.specs.Core as cores
use Rattle.mea_sem.specs.declared.entries.SemaphoreEntry.{SemaphoreEntry}
use Rattle.mea_sem.specs.Store.{Store, name_of, who_of, queue_of, stage_under, future_of, hall_of, IsOwned, IsNumbered, IsLinked}
use Rattle.mea_sem.proofs.Cores.{Queue, IsAt, all_at, waiting-only, AreApart-only, only-only, among-none, cut_splits, demands-other, cut-demand}
use Rattle.mea_sem.proofs.Names.{name-owner}
use Rattle.mea_sem.proofs.Seen.{seen_at, all_waiters_found, everyone_seen}
use Rattle.mea_sem.proofs.MoveHalls.{MovesInto, linked_moved, semaphores_moved, futures_moved}

-- the core after all were cut, with its wakers handed on
abbrev pub cut_entry : SemaphoreEntry → SemaphoreEntry
cut_entry e = record e { core = record (cores.cut_off e.core) { wakes = [] } }

module _ (st st' : Store) (b s : ℕ) (e : SemaphoreEntry) (linked : IsLinked st b) (there : get st.semaphores s ≡ Some e)
    (semaphores : (q : ℕ) → get st'.semaphores q ≡ cond (s == q) (Some (cut_entry e)) (get st.semaphores q)) (futures : st'.futures ≡ st.futures)
    (permits : st'.permits ≡ st.permits) (open_still : e.core.closed ≡ false) where
  old : IsNumbered e.core
  old = linked.numbered s e there

  -- nothing was cut before
  none_cut : (k : ℕ) → get e.core.cut k ≡ None
  none_cut k = ap (λ m. get m k) (subst (λ b. cores.CutsWhereClosed b e.core.queue e.core.cut) open_still old.closing) ∙ get-empty nat_cmp k

  abbrev all : List (cores.Waiter ℕ)
  all = cores.waiters_of e.core.queue

  demand_cut : (k d l : ℕ) → cores.waiting e.core.queue k ≡ Some (d, l) → get (cut_entry e).core.cut k ≡ Some d
  demand_cut k d l is = cut-demand e.core.cut e.core.queue k d l old.apart is

  cut_from : (k d : ℕ) → get (cut_entry e).core.cut k ≡ Some d → (get e.core.cut k ≡ Some d) ⊎ ((l : ℕ) × (cores.waiting e.core.queue k ≡ Some (d, l)))
  cut_from k d is = by_option (cores.waiting e.core.queue k) refl
    where
      by_option : (o : Option (ℕ × ℕ)) → cores.waiting e.core.queue k ≡ o
          → (get e.core.cut k ≡ Some d) ⊎ ((l : ℕ) × (cores.waiting e.core.queue k ≡ Some (d, l)))
      by_option None h = inl (sym (demands-other e.core.cut all k (among-none e.core.queue k h)) ∙ is)
      by_option (Some p) h =
          let both : Some p.0 ≡ Some d = sym (demand_cut k p.0 p.1 h) ∙ is in
          let same : p.0 ≡ d = cc in
          inr (p.1, h ∙ ap (λ x. Some (x, p.1)) same)

  numbered_now : IsNumbered (cut_entry e).core
  numbered_now = record {
    apart = AreApart-only e.core.queue;
    granted_apart = λ k waits. absurd (waits (waiting-only e.core.queue k));
    cut_apart = λ k some. (waiting-only e.core.queue k, ungranted k some (cores.waiting e.core.queue k) refl);
    closing = only-only e.core.queue;
  }
    where
      ungranted : (k : ℕ) → (get (cut_entry e).core.cut k ≡ None → ⊥) → (o : Option (ℕ × ℕ)) → cores.waiting e.core.queue k ≡ o → get e.core.granted k ≡ None
      ungranted k some None h = absurd (some (demands-other e.core.cut all k (among-none e.core.queue k h) ∙ none_cut k))
      ungranted k some (Some p) h = old.granted_apart k (λ t. absurd (let no : Some p ≡ None = sym h ∙ t in cc))

  moves : MovesInto st st' s Cut all e (cut_entry e)
  moves = record {
    there = there;
    semaphores = semaphores;
    futures = futures;
    found = all_waiters_found st b s e linked there;
    splits = λ k. cut_splits e.core.queue k;
    granted_still = λ k d is. is;
    cut_still = λ k d is. absurd (let none = none_cut k in cc);
    closed_still = λ is. refl;
    placed = λ k d l is a. inr (refl, demand_cut k d l is);
    staged = λ k d l is a. ap (stage_under None) (demand_cut k d l is);
    cuts = λ k a. demands-other e.core.cut all k a;
    granted_from = λ k d is. inl is;
    cut_from = cut_from;
    numbered = numbered_now;
  }

  pub linked_cut : IsLinked st' b
  linked_cut = linked_moved st st' b s Cut all e (cut_entry e) linked moves

  -- the debts are seen as debts
  debts_seen : (q : Queue) → queue_of st.futures b s (cores.only_debts q) ≡ debts_in (queue_of st.futures b s q)
  debts_seen [] = refl
  debts_seen ((cores.Acquires n d w, l) ∷ q) = debts_seen q
  debts_seen ((cores.Owes, l) ∷ q) = ap (λ r. (Debt, l) ∷ r) (debts_seen q)

  pub hall_cut : hall_of st' b ≡ cutting (hall_of st b) s
  hall_cut = (λ i. record {
    semaphores = (semaphores_moved st st' b s Cut all e (cut_entry e) linked moves) i;
    futures = (futures_moved st st' b s Cut all e (cut_entry e) linked moves ∙ ap (λ ws. stage_all Cut ws (hall_of st b).futures)
        (sym (everyone_seen st b s e linked there))) i;
    permits = permits i;
  }) ∙ (λ i. record {
    semaphores = insert (hall_of st b).semaphores s
        (record {
          free = e.core.free;
          queue = (ap (λ m. queue_of m b s (cores.only_debts e.core.queue)) futures ∙ debts_seen e.core.queue) i;
          made = e.made;
          released = e.released;
          forgotten = e.forgotten;
          named = e.named;
          closed = true;
        });
    futures = (cutting (hall_of st b) s).futures;
    permits = st.permits;
  }) ∙ (λ i. record {
    semaphores = insert (hall_of st b).semaphores s
        (record (sym (seen_at st b s e linked there) i) { queue = debts_in (sym (seen_at st b s e linked there) i).queue; closed = true });
    futures = (cutting (hall_of st b) s).futures;
    permits = st.permits;
  })

-- what those who wait were paid is the same by name
module _ (st : Store) (b s : ℕ) (e : SemaphoreEntry) (linked : IsLinked st b) (there : get st.semaphores s ≡ Some e) where
  demand_seen : (m d l : ℕ) → cores.waiting e.core.queue m ≡ Some (d, l) → (w : ℕ)
      → paid_to_who (hall_of st b).futures (who_of st.futures b s (cores.Acquires m d w)) l ≡ d - l
  demand_seen m d l is w = ap (λ o. demand_at o - l) (get-seen (λ f x. future_of st.semaphores x) st.futures (name_at m)
      ∙ ap (λ k. option_map (future_of st.semaphores) (get st.futures k)) (name-owner st b s m d linked owner)
      ∙ ap (option_map (future_of st.semaphores)) owner.there) ∙ ap (λ a. demand_of a - l) owner.acquire
    where
      owner : IsOwned st s m d
      owner = linked.owned s e m d l there is

      name_at : ℕ → ℕ
      name_at k = name_of st.futures b s k

  paid_all : (q : Queue) → AllByRecursion (IsAt e.core.queue) q → paid_in (hall_of st b).futures (queue_of st.futures b s q) ≡ cores.paid_waiting q
  paid_all [] h = refl
  paid_all ((cores.Acquires m d w, l) ∷ q) h = omega (
    arith,
    paid_all q h.1,
    demand_seen m d l h.0.0 w,
    sum_by-cons {X = Who × ℕ} (λ x. paid_to_who (hall_of st b).futures x.0 x.1) (who_of st.futures b s (cores.Acquires m d w), l) (queue_of st.futures b s q),
    sum_by-cons {X = cores.Waiter ℕ × ℕ} (λ x. cores.paid_to x.0 x.1) (cores.Acquires m d w, l) q,
  )
  paid_all ((cores.Owes, l) ∷ q) h = omega (
    arith,
    paid_all q h.1,
    sum_by-cons {X = Who × ℕ} (λ x. paid_to_who (hall_of st b).futures x.0 x.1) (Debt, l) (queue_of st.futures b s q),
    sum_by-cons {X = cores.Waiter ℕ × ℕ} (λ x. cores.paid_to x.0 x.1) (cores.Owes, l) q,
  )

  pub paid_in_seen : paid_in (hall_of st b).futures (queue_at (hall_of st b) s) ≡ cores.paid_waiting e.core.queue
  paid_in_seen = ap (λ r. paid_in (hall_of st b).futures r.queue) (seen_at st b s e linked there)
      ∙ paid_all e.core.queue (all_at e.core.queue (linked.numbered s e there).apart)
