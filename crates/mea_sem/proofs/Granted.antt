-- as many numbers of a core are granted, and cut, as its semaphore has such futures
use Rattle.std.proofs.Common.{◌≡◌, ◌⊎◌, inl, inr, ℕ, ◌==◌, Bool, true, false, cond, Option, Some, None, refl, ap, sym, subst, ◌∙◌}
use Rattle.std.specs.Option.{option_map}
use Rattle.std.specs.Ordering.{nat_cmp}
use Rattle.std.specs.FinMap.{FinMap, get, len}
use Rattle.std.proofs.lemmas.Bool.{eqb-true, eq-eqb}
use Rattle.mea_base.specs.Totals.{total, weight}
use Rattle.mea_base.proofs.Totals.{total-alike}
use Rattle.mea_base.proofs.NamedMaps.{get-seen}
use Rattle.mea_sem_model.specs.Hall.{Future, FutureStage, New}
use Rattle.mea_sem_core.specs.declared.acquire.Acquire.{Acquire}
use Rattle.mea_sem_core.specs.declared.acquire.Acquire.TheVariants as acquires
use Rattle.mea_sem_core.specs.Calls.{Belongs}
use Rattle.mea_sem.specs.declared.entries.SemaphoreEntry.{SemaphoreEntry}
use Rattle.mea_sem.specs.declared.entries.FutureEntry.{FutureEntry}
use Rattle.mea_sem.specs.Store.{Store, is_under, stage_of, core_in, future_of, hall_of, IsOwned, IsNumbered, IsLinked}
use Rattle.mea_sem.specs.StandsFor.{one_if_granted, granted_futures, one_if_cut, cut_futures}
use Rattle.mea_sem.proofs.Stages.{stage_granted, stage_cut, stage_waits}
use Rattle.mea_sem.proofs.Matching.{Matches, matches_count}

abbrev number_of : Acquire → ℕ
number_of (acquires.New d) = 0
number_of (acquires.Queued d n) = n
number_of (acquires.Done d) = 0
number_of (acquires.Refused d) = 0

-- the futures of s that count one at their stage are those whose numbers are keys of some pairs of its core
module _ (st : Store) (b s : ℕ) (e : SemaphoreEntry) (linked : IsLinked st b) (there : get st.semaphores s ≡ Some e) (one_of : FutureStage → ℕ)
    (pairs : FinMap nat_cmp ℕ) (unpolled : one_of New ≡ 0)
    (placed : (n d : ℕ) → get pairs n ≡ Some d → one_of (stage_of (acquires.Queued d n) e.core) ≡ 1)
    (belonging : (d n : ℕ) → Belongs e.core (acquires.Queued d n) → (one_of (stage_of (acquires.Queued d n) e.core) ≡ 0)
    ⊎ ((one_of (stage_of (acquires.Queued d n) e.core) ≡ 1) × ((k : ℕ) × (get pairs n ≡ Some k))))
    (owned : (n d : ℕ) → get pairs n ≡ Some d → IsOwned st s n d) where
  -- 1 for such a future of s
  abbrev is_one : ℕ → FutureEntry → ℕ
  is_one f x = cond (x.semaphore == s) (one_of (stage_of x.acquire (core_in (get st.semaphores x.semaphore)))) 0

  abbrev number : FutureEntry → ℕ
  number x = number_of x.acquire

  -- what one of s is, by its acquire
  one_here : (f : ℕ) (x : FutureEntry) → x.semaphore ≡ s → is_one f x ≡ one_of (stage_of x.acquire e.core)
  one_here f x mine = ap (λ t. cond t (one_of (stage_of x.acquire (core_in (get st.semaphores x.semaphore)))) 0) (eq-eqb _ _ mine)
      ∙ ap (λ q. one_of (stage_of x.acquire (core_in (get st.semaphores q)))) mine
      ∙ ap (λ o. one_of (stage_of x.acquire (core_in o))) there

  -- what stands for a future of s that belongs
  one_or_none : (a : Acquire) → Belongs e.core a → (one_of (stage_of a e.core) ≡ 0) ⊎
      ((one_of (stage_of a e.core) ≡ 1) × ((d : ℕ) × (get pairs (number_of a) ≡ Some d)))
  one_or_none (acquires.New d) h = inl unpolled
  one_or_none (acquires.Done d) h = inl unpolled
  one_or_none (acquires.Refused d) h = inl unpolled
  one_or_none (acquires.Queued d n) h = belonging d n h

  each_counts : (f : ℕ) (x : FutureEntry) → get st.futures f ≡ Some x
      → (is_one f x ≡ 0) ⊎ ((is_one f x ≡ 1) × ((d : ℕ) × (get pairs (number x) ≡ Some d)))
  each_counts f x is = by_test (x.semaphore == s) refl
    where
      by_test : (t : Bool) → (x.semaphore == s) ≡ t → (is_one f x ≡ 0) ⊎ ((is_one f x ≡ 1) × ((d : ℕ) × (get pairs (number x) ≡ Some d)))
      by_test false h = inl (ap (λ t. cond t (one_of (stage_of x.acquire (core_in (get st.semaphores x.semaphore)))) 0) h)
      by_test true h =
          let mine : x.semaphore ≡ s = eqb-true _ _ h in
          let home = linked.home f x is in
          let both : Some home.entry ≡ Some e = sym home.there ∙ ap (get st.semaphores) mine ∙ there in
          let same : home.entry ≡ e = cc in
          elim (one_or_none x.acquire (subst (λ (d : SemaphoreEntry). Belongs d.core x.acquire) same home.belongs)) [
            | inl none ↦ inl (one_here f x mine ∙ none)
            | inr one ↦ inr (one_here f x mine ∙ one.0, one.1)
          ]

  -- one that counts has its number
  under_own : (a : Acquire) → one_of (stage_of a e.core) ≡ 1 → is_under a (number_of a) ≡ true
  under_own (acquires.New d) one = absurd (cc)
  under_own (acquires.Queued d n) one = eq-eqb n n refl
  under_own (acquires.Done d) one = absurd (cc)
  under_own (acquires.Refused d) one = absurd (cc)

  of_s : (f : ℕ) (x : FutureEntry) → is_one f x ≡ 1 → (t : Bool) → (x.semaphore == s) ≡ t → t ≡ true
  of_s f x one true h = refl
  of_s f x one false h = absurd (let none : is_one f x ≡ 0 = ap
      (λ t. cond t (one_of (stage_of x.acquire (core_in (get st.semaphores x.semaphore)))) 0) h in cc)

  own : (f : ℕ) (x : FutureEntry) → is_one f x ≡ 1 → (x.semaphore ≡ s) × (is_under x.acquire (number x) ≡ true)
  own f x one =
      let mine : x.semaphore ≡ s = eqb-true _ _ (of_s f x one (x.semaphore == s) refl) in
      (mine, under_own x.acquire (sym (one_here f x mine) ∙ one))

  all_match : Matches is_one number pairs st.futures
  all_match = record {
    has = λ n d is. (
        let o = owned n d is in
        record {
          name = o.name;
          entry = o.entry;
          there = o.there;
          counts = one_here o.name o.entry o.semaphore ∙ ap (λ a. one_of (stage_of a e.core)) o.acquire ∙ placed n d is;
          numbered = ap number_of o.acquire;
        });
    each = each_counts;
    apart = λ f g x y isx isy onex oney same. linked.apart f g (number x) x y isx isy ((own f x onex).0 ∙ sym (own g y oney).0) (own f x onex).1
        (ap (is_under y.acquire) same ∙ (own g y oney).1);
  }

  weight_seen : (f : ℕ) (o : Option FutureEntry) → weight (λ g (x : Future). cond (x.semaphore == s) (one_of x.stage) 0) f
      (option_map (future_of st.semaphores) o) ≡ weight is_one f o
  weight_seen f None = refl
  weight_seen f (Some x) = refl

  counted-seen : len pairs ≡ total {X = Future} (λ g x. cond (x.semaphore == s) (one_of x.stage) 0) (hall_of st b).futures
  counted-seen = sym (total-alike (λ g (x : Future). cond (x.semaphore == s) (one_of x.stage) 0) is_one (hall_of st b).futures st.futures
      (λ f. ap (weight (λ g (x : Future). cond (x.semaphore == s) (one_of x.stage) 0) f)
      (get-seen (λ f x. future_of st.semaphores x) st.futures f) ∙ weight_seen f (get st.futures f))
      ∙ matches_count is_one number (len pairs) pairs st.futures refl all_match)

module _ (st : Store) (b s : ℕ) (e : SemaphoreEntry) (linked : IsLinked st b) (there : get st.semaphores s ≡ Some e) where
  numbered : IsNumbered e.core
  numbered = linked.numbered s e there

  pub granted-seen : len e.core.granted ≡ granted_futures (hall_of st b) s
  granted-seen = counted-seen st b s e linked there one_if_granted e.core.granted refl (λ n d is. ap one_if_granted (stage_granted e.core numbered d n is))
      belonging (λ n d is. linked.granted s e n d there is)
    where
      belonging : (d n : ℕ) → Belongs e.core (acquires.Queued d n) → (one_if_granted (stage_of (acquires.Queued d n) e.core) ≡ 0)
          ⊎ ((one_if_granted (stage_of (acquires.Queued d n) e.core) ≡ 1) × ((k : ℕ) × (get e.core.granted n ≡ Some k)))
      belonging d n (inl (inl is)) = inr (ap one_if_granted (stage_granted e.core numbered d n is), (d, is))
      belonging d n (inl (inr waits)) = inl (ap one_if_granted (stage_waits e.core numbered d n waits.0 waits.1).1)
      belonging d n (inr cut) = inl (ap one_if_granted (stage_cut e.core numbered d n cut.1))

  pub cut-seen : len e.core.cut ≡ cut_futures (hall_of st b) s
  cut-seen = counted-seen st b s e linked there one_if_cut e.core.cut refl (λ n d is. ap one_if_cut (stage_cut e.core numbered d n is))
      belonging (λ n d is. linked.cut s e n d there is)
    where
      belonging : (d n : ℕ) → Belongs e.core (acquires.Queued d n) → (one_if_cut (stage_of (acquires.Queued d n) e.core) ≡ 0)
          ⊎ ((one_if_cut (stage_of (acquires.Queued d n) e.core) ≡ 1) × ((k : ℕ) × (get e.core.cut n ≡ Some k)))
      belonging d n (inl (inl is)) = inl (ap one_if_cut (stage_granted e.core numbered d n is))
      belonging d n (inl (inr waits)) = inl (ap one_if_cut (stage_waits e.core numbered d n waits.0 waits.1).1)
      belonging d n (inr cut) = inr (ap one_if_cut (stage_cut e.core numbered d n cut.1), (d, cut.1))
