-- a pour into a core is a pour into the hall that is stood for
use Rattle.std.proofs.Common.{◌≡◌, ◌≢◌, ◌⊎◌, inl, inr, ℕ, ◌+◌, ◌-◌, ◌==◌, Bool, true, false, cond, refl, ap, sym, subst, ◌∙◌, Option, Some, None}
use Rattle.std.specs.FinMap.{get, insert}
use Rattle.mea_base.specs.Queue.{waiting_after, granted_in, left_over}
use Rattle.mea_base.proofs.Queues.{waiting_after-map, lacks-map}
use Rattle.mea_sem_model.specs.Hall.{Granted, poured, grant_all, pour}
use Rattle.mea_sem_core.specs.Core as cores
use Rattle.mea_sem.specs.declared.entries.SemaphoreEntry.{SemaphoreEntry}
use Rattle.mea_sem.specs.Store.{Store, who_of, queue_of, semaphore_of, stage_under, hall_of, IsNumbered, IsLinked}
use Rattle.mea_sem.proofs.ClosedCores.{keeps_closed}
use Rattle.mea_sem.proofs.Cores.{is_among, Splits, pour_splits, AreApart-waiting_after, only-waiting_after, demands-other, granted-poured}
use Rattle.mea_sem.proofs.Seen.{seen_at, granted_names, all_granted_found}
use Rattle.mea_sem.proofs.MoveHalls.{MovesInto, linked_moved, semaphores_moved, futures_moved}

-- the core after a pour, as the queue and the granted numbers see it
pub record PoursInto (st st' : Store) (s n : ℕ) (e e' : SemaphoreEntry) : Type 0 where
  pub there : get st.semaphores s ≡ Some e
  pub semaphores : (q : ℕ) → get st'.semaphores q ≡ cond (s == q) (Some e') (get st.semaphores q)
  pub futures : st'.futures ≡ st.futures
  pub permits : st'.permits ≡ st.permits
  pub free : e'.core.free ≡ e.core.free + left_over e.core.queue n
  pub queue : e'.core.queue ≡ waiting_after e.core.queue n
  pub cut : e'.core.cut ≡ e.core.cut
  pub closed : e'.core.closed ≡ e.core.closed
  pub granted : e'.core.granted ≡ cores.granting e.core.granted (granted_in e.core.queue n)
  pub made : e'.made ≡ e.made
  pub released : e'.released ≡ e.released
  pub forgotten : e'.forgotten ≡ e.forgotten
  pub named : e'.named ≡ e.named

-- ---- the hall after a pour, and the links
module _ (st st' : Store) (b s n : ℕ) (e e' : SemaphoreEntry) (linked : IsLinked st b) (c : PoursInto st st' s n e e') where
  old : IsNumbered e.core
  old = linked.numbered s e c.there

  paid : ℕ → Bool
  paid k = is_among (granted_in e.core.queue n) k

  split_at : (k : ℕ) → Splits (cores.waiting e.core.queue k) (cores.waiting (waiting_after e.core.queue n) k) (cores.waker_under e.core.queue k)
      (cores.waker_under (waiting_after e.core.queue n) k) (is_among (granted_in e.core.queue n) k)
  split_at k = pour_splits e.core.queue n k old.apart

  -- a number that does not wait is not paid
  unpaid : (k : ℕ) → cores.waiting e.core.queue k ≡ None → get e'.core.granted k ≡ get e.core.granted k
  unpaid k none = ap (λ g. get g k) c.granted ∙ demands-other e.core.granted (granted_in e.core.queue n) k ((split_at k).none none).1

  -- a granted number does not wait, nor does a cut one
  not_waiting : (k d : ℕ) → get e.core.granted k ≡ Some d → (o : Option (ℕ × ℕ)) → cores.waiting e.core.queue k ≡ o → o ≡ None
  not_waiting k d is None h = refl
  not_waiting k d is (Some p) h = absurd (let none = old.granted_apart k (λ t. absurd (let no : Some p ≡ None = sym h ∙ t in cc)) in cc)

  paid_demand : (k d l : ℕ) → cores.waiting e.core.queue k ≡ Some (d, l) → is_among (granted_in e.core.queue n) k ≡ true → get e'.core.granted k ≡ Some d
  paid_demand k d l is a = ap (λ g. get g k) c.granted ∙ granted-poured e.core.granted e.core.queue n k d l old.apart is a

  granted_from : (k d : ℕ) → get e'.core.granted k ≡ Some d → (get e.core.granted k ≡ Some d) ⊎ ((l : ℕ) × (cores.waiting e.core.queue k ≡ Some (d, l)))
  granted_from k d is = by_test (is_among (granted_in e.core.queue n) k) refl
    where
      waited : (o : Option (ℕ × ℕ)) → cores.waiting e.core.queue k ≡ o → is_among (granted_in e.core.queue n) k ≡ true
          → (get e.core.granted k ≡ Some d) ⊎ ((l : ℕ) × (cores.waiting e.core.queue k ≡ Some (d, l)))
      waited None none a = absurd (let no = ((split_at k).none none).1 in cc)
      waited (Some p) some a =
          let both : Some p.0 ≡ Some d = sym (paid_demand k p.0 p.1 some a) ∙ is in
          let demand : p.0 ≡ d = cc in
          inr (p.1, some ∙ ap (λ x. Some (x, p.1)) demand)

      by_test : (t : Bool) → is_among (granted_in e.core.queue n) k ≡ t
          → (get e.core.granted k ≡ Some d) ⊎ ((l : ℕ) × (cores.waiting e.core.queue k ≡ Some (d, l)))
      by_test true a = waited (cores.waiting e.core.queue k) refl a
      by_test false a = inl (sym (ap (λ g. get g k) c.granted ∙ demands-other e.core.granted (granted_in e.core.queue n) k a) ∙ is)

  none_granted : (k : ℕ) → cores.waiting (waiting_after e.core.queue n) k ≢ None → (o : Option (ℕ × ℕ))
      → cores.waiting (waiting_after e.core.queue n) k ≡ o → get e'.core.granted k ≡ None
  none_granted k waits None is = absurd (waits is)
  none_granted k waits (Some p) is =
      let before = (split_at k).waits p.0 p.1 is in
      let still = elim ((split_at k).some p.0 before.0 before.1) as (λ _. is_among (granted_in e.core.queue n) k ≡ false)
      [ inl on ↦ on.2 | inr paid ↦ absurd (waits paid.1) ] in
      ap (λ g. get g k) c.granted ∙ demands-other e.core.granted (granted_in e.core.queue n) k still
      ∙ old.granted_apart k (λ t. absurd (let no : None ≡ Some (p.0, before.0) = sym t ∙ before.1 in cc))

  -- who waits is not cut
  uncut : (k d l : ℕ) → cores.waiting e.core.queue k ≡ Some (d, l) → (o : Option ℕ) → get e.core.cut k ≡ o → stage_under None o ≡ Granted
  uncut k d l is None h = refl
  uncut k d l is (Some z) h = absurd
      (let none = (old.cut_apart k (λ t. absurd (let no : Some z ≡ None = sym h ∙ t in cc))).0 in cc)

  moves : MovesInto st st' s Granted (granted_in e.core.queue n) e e'
  moves = record {
    there = c.there;
    semaphores = c.semaphores;
    futures = c.futures;
    found = all_granted_found st b s e linked c.there n;
    splits = λ k. subst (λ q. Splits (cores.waiting e.core.queue k) (cores.waiting q k) (cores.waker_under e.core.queue k) (cores.waker_under q k)
        (is_among (granted_in e.core.queue n) k)) (sym c.queue) (split_at k);
    granted_still = λ k d is. unpaid k (not_waiting_now k d is) ∙ is;
    cut_still = λ k d is. ap (λ g. get g k) c.cut ∙ is;
    closed_still = λ is. c.closed ∙ is;
    placed = λ k d l is a. inl (paid_demand k d l is a);
    staged = λ k d l is a. ap (λ g. stage_under None (get g k)) c.cut ∙ uncut k d l is (get e.core.cut k) refl;
    cuts = λ k a. ap (λ g. get g k) c.cut;
    granted_from = granted_from;
    cut_from = λ k d is. inl (ap (λ g. get g k) (sym c.cut) ∙ is);
    numbered = record {
      apart = subst cores.AreApart (sym c.queue) (AreApart-waiting_after e.core.queue n old.apart);
      granted_apart = λ k waits. none_granted k (λ t. waits (ap (λ q. cores.waiting q k) c.queue ∙ t)) (cores.waiting (waiting_after e.core.queue n) k) refl;
      cut_apart = λ k some.
          let before = old.cut_apart k (λ none. some (ap (λ g. get g k) c.cut ∙ none)) in
          (ap (λ q. cores.waiting q k) c.queue ∙ ((split_at k).none before.0).0, unpaid k before.0 ∙ before.1);
      closing = keeps_closed e.core.closed e'.core.closed e.core.queue e'.core.queue e.core.cut e'.core.cut c.closed
          (λ h. subst cores.HasOnlyDebts (sym c.queue) (only-waiting_after e.core.queue n h))
          (λ h. c.cut ∙ h) old.closing;
    };
  }
    where
      not_waiting_now : (k d : ℕ) → get e.core.granted k ≡ Some d → cores.waiting e.core.queue k ≡ None
      not_waiting_now k d is = not_waiting k d is (cores.waiting e.core.queue k) refl

  pub linked_poured : IsLinked st' b
  linked_poured = linked_moved st st' b s Granted (granted_in e.core.queue n) e e' linked moves

  poured_seen : semaphore_of st'.futures b s e' ≡ poured (semaphore_of st.futures b s e) n
  poured_seen = λ i. record {
    free = (c.free ∙ ap (λ k. e.core.free + (n - k)) (sym (lacks-map (who_of st.futures b s) e.core.queue))) i;
    queue = (ap (λ m. queue_of m b s e'.core.queue) c.futures ∙ ap (queue_of st.futures b s) c.queue
        ∙ sym (waiting_after-map (who_of st.futures b s) e.core.queue n)) i;
    made = c.made i;
    released = c.released i;
    forgotten = c.forgotten i;
    named = c.named i;
    closed = c.closed i;
  }

  pub hall_poured : hall_of st' b ≡ pour (hall_of st b) s n
  hall_poured = λ i. record {
    semaphores = (semaphores_moved st st' b s Granted (granted_in e.core.queue n) e e' linked moves
        ∙ ap (insert (hall_of st b).semaphores s) (poured_seen ∙ ap (λ r. poured r n) (sym (seen_at st b s e linked c.there)))) i;
    futures = (futures_moved st st' b s Granted (granted_in e.core.queue n) e e' linked moves
        ∙ ap (λ ws. grant_all ws (hall_of st b).futures) (sym (granted_names st b s e linked c.there n))) i;
    permits = c.permits i;
  }
