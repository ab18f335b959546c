-- what a change of one semaphore and one future does to the links, and to the hall that is stood for
use Rattle.std.proofs.Common.{◌≡◌, ◌⊎◌, inl, inr, ℕ, ◌<◌, ◌≤◌, ◌==◌, Bool, true, false, cond, refl, ap, sym, ◌∙◌, arith, List, Option, Some, None}
use Rattle.std.specs.Option.{option_map}
use Rattle.std.specs.Ordering.{nat_cmp}
use Rattle.std.specs.FinMap.{FinMap, get, insert, remove}
use Rattle.std.proofs.lemmas.Bool.{eqb-true, eqb-false}
use Rattle.mea_base.proofs.NamedMaps.{same_named, get-seen}
use Rattle.mea_base.proofs.Totals.{get_inserted, get_removed}
use Rattle.mea_base.proofs.Tests.{at_same, at_apart, by_name}
use Rattle.mea_sem_model.specs.Hall.{Future, Who, Waiter}
use Rattle.mea_sem_core.specs.declared.acquire.Acquire.{Acquire}
use Rattle.mea_sem_core.specs.declared.acquire.Acquire.TheVariants.{New, Queued, Done, Refused}
use Rattle.mea_sem_core.specs.Core as cores
use Rattle.mea_sem_core.specs.Calls.{Belongs}
use Rattle.mea_sem.specs.declared.entries.SemaphoreEntry.{SemaphoreEntry}
use Rattle.mea_sem.specs.declared.entries.FutureEntry.{FutureEntry}
use Rattle.mea_sem.specs.Store.{Store, is_under, has, name_of, who_of, queue_of, seen_as, semaphore_of, stage_of, stage_under, core_in, future_of, hall_of, IsOpen, IsHome, IsOwned, IsNumbered, IsLinked, at_stage}
use Rattle.mea_sem.proofs.Replaced.{semaphore_there, semaphore_other, each_semaphore, home_still}
use Rattle.mea_sem.proofs.Cores.{IsAt, all_at, all_by}
use Rattle.mea_sem.proofs.Names.{has-parts, under-queued, owner_has, name-owner, queue_of-same}

-- in s, e becomes e'; and the future f, o before, becomes o'
pub record Changes (st st' : Store) (b b' s f : ℕ) (e e' : SemaphoreEntry) (o o' : Option FutureEntry) : Type 0 where
  pub there : get st.semaphores s ≡ Some e
  pub semaphores : (q : ℕ) → get st'.semaphores q ≡ cond (s == q) (Some e') (get st.semaphores q)
  pub was : get st.futures f ≡ o
  pub futures : (g : ℕ) → get st'.futures g ≡ cond (f == g) o' (get st.futures g)
  pub rises : b ≤ b'
  pub inside : (x : FutureEntry) → o' ≡ Some x → f < b'
  pub was_of : (x : FutureEntry) → o ≡ Some x → x.semaphore ≡ s
  pub is_of : (x : FutureEntry) → o' ≡ Some x → x.semaphore ≡ s
  pub home : (x : FutureEntry) → o' ≡ Some x → Belongs e'.core x.acquire × IsOpen x.acquire
  -- what stands under the numbers of others stays
  pub kept : (d n : ℕ) → has s n o ≡ false → Belongs e.core (Queued d n) → Belongs e'.core (Queued d n)
  pub wakers : (n : ℕ) → has s n o ≡ false → has s n o' ≡ false → cores.waker_under e'.core.queue n ≡ cores.waker_under e.core.queue n
  -- who waits is the future, or waited before
  pub waits : (n d l : ℕ) → cores.waiting e'.core.queue n ≡ Some (d, l)
      → ((x : FutureEntry) × (o' ≡ Some x) × (x.acquire ≡ Queued d n)) ⊎ ((has s n o ≡ false) × ((k : ℕ) × (cores.waiting e.core.queue n ≡ Some (d, k))))
  -- what is granted was so before, and is not the future's
  pub grants : (n d : ℕ) → get e'.core.granted n ≡ Some d → (has s n o ≡ false) × (get e.core.granted n ≡ Some d)
  -- and so is what is cut
  pub cut : (n d : ℕ) → get e'.core.cut n ≡ Some d → (has s n o ≡ false) × (get e.core.cut n ≡ Some d)
  pub cuts : (n : ℕ) → has s n o ≡ false → has s n o' ≡ false → get e'.core.cut n ≡ get e.core.cut n
  -- the future's number is nobody else's
  pub alone : (g n : ℕ) (x y : FutureEntry) → o' ≡ Some x → (f ≡ g → ⊥) → get st.futures g ≡ Some y → y.semaphore ≡ s → is_under x.acquire n ≡ true
      → is_under y.acquire n ≡ true → ⊥
  pub numbered : IsNumbered e'.core

module _ (st st' : Store) (b b' s f : ℕ) (e e' : SemaphoreEntry) (o o' : Option FutureEntry) (linked : IsLinked st b)
    (c : Changes st st' b b' s f e e' o o') where
  future_there : f ≡ f → get st'.futures f ≡ o'
  future_there same = c.futures f ∙ at_same f f o' (get st.futures f) same

  future_other : (g : ℕ) → (f ≡ g → ⊥) → get st'.futures g ≡ get st.futures g
  future_other g apart = c.futures g ∙ at_apart f g o' (get st.futures g) apart

  -- a number that another future of s has is not f's
  not_mine : (g n : ℕ) (y : FutureEntry) → (f ≡ g → ⊥) → get st.futures g ≡ Some y → y.semaphore ≡ s → is_under y.acquire n ≡ true → has s n o ≡ false
  not_mine g n y apart is mine under = by_test (has s n o) refl
    where
      by_test : (t : Bool) → has s n o ≡ t → has s n o ≡ false
      by_test false h = h
      by_test true h = let x = has-parts s n o h in absurd (apart (linked.apart f g n x.0 y (c.was ∙ x.1) is (x.2 ∙ sym mine) x.3 under))

  -- nor is it what f has now
  not_now_mine : (g n : ℕ) (y : FutureEntry) → (f ≡ g → ⊥) → get st.futures g ≡ Some y → y.semaphore ≡ s → is_under y.acquire n ≡ true → has s n o' ≡ false
  not_now_mine g n y apart is mine under = by_test (has s n o') refl
    where
      by_test : (t : Bool) → has s n o' ≡ t → has s n o' ≡ false
      by_test false h = h
      by_test true h = let x = has-parts s n o' h in absurd (c.alone g n x.0 y x.1 apart is mine x.3 under)

  home_kept : (y : FutureEntry) (a : Acquire) → y.acquire ≡ a → ((n : ℕ) → is_under y.acquire n ≡ true → has s n o ≡ false) → Belongs e.core a
      → IsOpen a → Belongs e'.core a
  home_kept y (New d) is free belongs still = tt
  home_kept y (Queued d n) is free belongs still = c.kept d n (free n (under-queued y.acquire d n is)) belongs
  home_kept y (Done d) is free belongs still = tt
  home_kept y (Refused d) is free belongs still = absurd still

  home_other : (g : ℕ) (y : FutureEntry) → (f ≡ g → ⊥) → get st.futures g ≡ Some y → IsHome st' y
  home_other g y apart is =
      let old = linked.home g y is in
      home_still st st' s e' c.semaphores c.there y old (λ mine belongs. home_kept y y.acquire refl (λ n under. not_mine g n y apart is (sym mine) under) belongs old.open_still)

  -- an owner that is not f owns still
  abbrev owned_still : (q n d : ℕ) (w : IsOwned st q n d) → (f ≡ w.name → ⊥) → IsOwned st' q n d
  owned_still q n d w apart = record {
    name = w.name;
    entry = w.entry;
    there = future_other w.name apart
        ∙ w.there;
    semaphore = w.semaphore;
    acquire = w.acquire;
  }

  -- f does not own what is not under it
  owner_apart : (n d : ℕ) (w : IsOwned st s n d) → has s n o ≡ false → f ≡ w.name → ⊥
  owner_apart n d w free same =
      let here : has s n o ≡ true = ap (has s n) (sym c.was ∙ ap (get st.futures) same) ∙ owner_has st s n d w in
      cc

  elsewhere_apart : (q n d : ℕ) (w : IsOwned st q n d) → (s ≡ q → ⊥) → f ≡ w.name → ⊥
  elsewhere_apart q n d w apart same =
      let here : o ≡ Some w.entry = sym c.was ∙ ap (get st.futures) same ∙ w.there in
      apart (sym (c.was_of w.entry here) ∙ w.semaphore)

  -- so is what stands under a number that waits no more
  placed_all : (pairs : cores.Core ℕ → FinMap nat_cmp ℕ)
      → ((n d : ℕ) → get (pairs e'.core) n ≡ Some d → (has s n o ≡ false) × (get (pairs e.core) n ≡ Some d))
      → ((q : ℕ) (x : SemaphoreEntry) (n d : ℕ) → get st.semaphores q ≡ Some x → get (pairs x.core) n ≡ Some d → IsOwned st q n d)
      → (q : ℕ) (d : SemaphoreEntry) (n demand : ℕ) → get st'.semaphores q ≡ Some d → get (pairs d.core) n ≡ Some demand → IsOwned st' q n demand
  placed_all pairs from owned q d n demand is placed = each_semaphore st st' s e' c.semaphores (λ q d. get (pairs d.core) n ≡ Some demand → IsOwned st' q n demand)
      (λ now. let before = from n demand now in
      let w = owned s e n demand c.there before.1 in owned_still s n demand w (owner_apart n demand w before.0))
      (λ q d apart old placed. let w = owned q d n demand old placed in owned_still q n demand w (elsewhere_apart q n demand w apart))
      q d is placed

  apart_all : (g h n : ℕ) (x y : FutureEntry) → get st'.futures g ≡ Some x → get st'.futures h ≡ Some y → x.semaphore ≡ y.semaphore
      → is_under x.acquire n ≡ true → is_under y.acquire n ≡ true → g ≡ h
  apart_all g h n x y isx isy same ux uy = by_tests (f == g) (f == h) refl refl
    where
      mine : (k : ℕ) (z : FutureEntry) → f ≡ k → get st'.futures k ≡ Some z → o' ≡ Some z
      mine k z at_f is = sym (future_there refl) ∙ ap (get st'.futures) at_f ∙ is

      by_tests : (t u : Bool) → (f == g) ≡ t → (f == h) ≡ u → g ≡ h
      by_tests true true p q = sym (eqb-true f g p) ∙ eqb-true f h q
      by_tests true false p q =
          let here = mine g x (eqb-true f g p) isx in
          absurd (c.alone h n x y here (eqb-false f h q) (sym (future_other h (eqb-false f h q)) ∙ isy) (sym same ∙ c.is_of x here) ux uy)
      by_tests false true p q =
          let here = mine h y (eqb-true f h q) isy in
          absurd (c.alone g n y x here (eqb-false f g p) (sym (future_other g (eqb-false f g p)) ∙ isx) (same ∙ c.is_of y here) uy ux)
      by_tests false false p q =
          linked.apart g h n x y (sym (future_other g (eqb-false f g p)) ∙ isx) (sym (future_other h (eqb-false f h q)) ∙ isy) same ux uy

  pub linked_after : IsLinked st' b'
  linked_after = record {
    home = λ g y is. by_name f g
        (λ same. let here : o' ≡ Some y = sym (future_there refl) ∙ ap (get st'.futures) same ∙ is in
        record { entry = e'; there = ap (get st'.semaphores) (c.is_of y here) ∙ semaphore_there st st' s e' c.semaphores; belongs = (c.home y here).0; open_still = (c.home y here).1 })
        (λ apart. home_other g y apart (sym (future_other g apart) ∙ is));
    owned = λ q d n demand l is waits. each_semaphore st st' s e' c.semaphores (λ q d. cores.waiting d.core.queue n ≡ Some (demand, l) → IsOwned st' q n demand)
        (λ now. elim (c.waits n demand l now) [
          | inl mine ↦ record { name = f; entry = mine.0; there = future_there refl ∙ mine.1; semaphore = c.is_of mine.0 mine.1; acquire = mine.2 }
          | inr before ↦ (let w = linked.owned s e n demand before.1.0 c.there before.1.1 in owned_still s n demand w (owner_apart n demand w before.0))
        ])
        (λ q d apart old waits. let w = linked.owned q d n demand l old waits in owned_still q n demand w (elsewhere_apart q n demand w apart))
        q d is waits;
    granted = placed_all (λ x. x.granted) c.grants linked.granted;
    cut = placed_all (λ x. x.cut) c.cut linked.cut;
    apart = apart_all;
    below = λ g y is. by_name f g
        (λ same. let small : f < b' = c.inside y (sym (future_there refl) ∙ ap (get st'.futures) same ∙ is) in omega arith)
        (λ apart. let small : g < b = linked.below g y (sym (future_other g apart) ∙ is) in let more : b ≤ b' = c.rises in omega arith);
    numbered = each_semaphore st st' s e' c.semaphores (λ q d. IsNumbered d.core) c.numbered (λ q d apart old. linked.numbered q d old);
  }

  -- ---- names stay
  pub name_kept : (n d : ℕ) → IsOwned st s n d → has s n o ≡ false → name_of st'.futures b' s n ≡ name_of st.futures b s n
  name_kept n d w free = name-owner st' b' s n d linked_after (owned_still s n d w (owner_apart n d w free)) ∙ sym (name-owner st b s n d linked w)

  name_elsewhere : (q n d : ℕ) → (s ≡ q → ⊥) → IsOwned st q n d → name_of st'.futures b' q n ≡ name_of st.futures b q n
  name_elsewhere q n d apart w = name-owner st' b' q n d linked_after (owned_still q n d w (elsewhere_apart q n d w apart))
      ∙ sym (name-owner st b q n d linked w)

  who_elsewhere : (q : ℕ) (d : SemaphoreEntry) → (s ≡ q → ⊥) → get st.semaphores q ≡ Some d → (x : cores.Waiter ℕ × ℕ) → IsAt d.core.queue x
      → who_of st'.futures b' q x.0 ≡ who_of st.futures b q x.0
  who_elsewhere q d apart is (cores.Acquires n m w, l) at = ap Waiter (name_elsewhere q n m apart (linked.owned q d n m l is at.0))
  who_elsewhere q d apart is (cores.Owes, l) at = refl

  queue_elsewhere : (q : ℕ) (d : SemaphoreEntry) → (s ≡ q → ⊥) → get st.semaphores q ≡ Some d
      → queue_of st'.futures b' q d.core.queue ≡ queue_of st.futures b q d.core.queue
  queue_elsewhere q d apart is = queue_of-same st.futures st'.futures b b' q d.core.queue
      (all_by (IsAt d.core.queue) _ (who_elsewhere q d apart is) d.core.queue (all_at d.core.queue (linked.numbered q d is).apart))

  -- where f has no number in the queue, all that waited are named as before
  who_kept : ((n d k : ℕ) → cores.waiting e.core.queue n ≡ Some (d, k) → has s n o ≡ false) → (x : cores.Waiter ℕ × ℕ) → IsAt e.core.queue x
      → who_of st'.futures b' s x.0 ≡ who_of st.futures b s x.0
  who_kept free (cores.Acquires n m w, l) at = ap Waiter (name_kept n m (linked.owned s e n m l c.there at.0) (free n m l at.0))
  who_kept free (cores.Owes, l) at = refl

  pub queue_kept : ((n d k : ℕ) → cores.waiting e.core.queue n ≡ Some (d, k) → has s n o ≡ false)
      → queue_of st'.futures b' s e.core.queue ≡ queue_of st.futures b s e.core.queue
  queue_kept free = queue_of-same st.futures st'.futures b b' s e.core.queue
      (all_by (IsAt e.core.queue) _ (who_kept free) e.core.queue (all_at e.core.queue (linked.numbered s e c.there).apart))

  -- ---- the hall after it
  pub semaphores_after : (hall_of st' b').semaphores ≡ insert (hall_of st b).semaphores s (semaphore_of st'.futures b' s e')
  semaphores_after = same_named _ _ (λ q.
      get-seen (semaphore_of st'.futures b') st'.semaphores q ∙ ap (option_map (semaphore_of st'.futures b' q)) (c.semaphores q)
      ∙ at_each q (s == q) refl (get st.semaphores q) refl
      ∙ ap (cond (s == q) (Some (semaphore_of st'.futures b' s e'))) (sym (get-seen (semaphore_of st.futures b) st.semaphores q))
      ∙ sym (get_inserted (hall_of st b).semaphores s q (semaphore_of st'.futures b' s e')))
    where
      at_each : (q : ℕ) (t : Bool) → (s == q) ≡ t → (d : Option SemaphoreEntry) → get st.semaphores q ≡ d
          → option_map (semaphore_of st'.futures b' q) (cond t (Some e') d) ≡ cond t (Some (semaphore_of st'.futures b' s e'))
          (option_map (semaphore_of st.futures b q) d)
      at_each q true h d is = ap (λ k. Some (semaphore_of st'.futures b' k e')) (sym (eqb-true s q h))
      at_each q false h None is = refl
      at_each q false h (Some d) is = λ i. Some (seen_as d (queue_elsewhere q d (eqb-false s q h) is i))

  stage_kept : (g : ℕ) (y : FutureEntry) (a : Acquire) → y.acquire ≡ a → (f ≡ g → ⊥) → get st.futures g ≡ Some y → y.semaphore ≡ s
      → stage_of a e'.core ≡ stage_of a e.core
  stage_kept g y (New d) is apart at mine = refl
  stage_kept g y (Queued d n) is apart at mine =
      let before = not_mine g n y apart at mine (under-queued y.acquire d n is) in
      let now = not_now_mine g n y apart at mine (under-queued y.acquire d n is) in
      λ i. stage_under (c.wakers n before now i) (c.cuts n before now i)
  stage_kept g y (Done d) is apart at mine = refl
  stage_kept g y (Refused d) is apart at mine = refl

  future_kept : (g : ℕ) (y : FutureEntry) → (f ≡ g → ⊥) → get st.futures g ≡ Some y → future_of st'.semaphores y ≡ future_of st.semaphores y
  future_kept g y apart is = ap (at_stage y) (by_name s y.semaphore
      (λ mine. ap (λ d. stage_of y.acquire (core_in d)) (ap (get st'.semaphores) (sym mine) ∙ semaphore_there st st' s e' c.semaphores)
      ∙ stage_kept g y y.acquire refl apart is (sym mine) ∙ sym (ap (λ d. stage_of y.acquire (core_in d)) (ap (get st.semaphores) (sym mine) ∙ c.there)))
      (λ other. ap (λ d. stage_of y.acquire (core_in d)) (semaphore_other st st' s e' c.semaphores y.semaphore other)))

  futures_at : (g : ℕ) → get (hall_of st' b').futures g ≡ cond (f == g) (option_map (future_of st'.semaphores) o') (get (hall_of st b).futures g)
  futures_at g =
      get-seen (λ k x. future_of st'.semaphores x) st'.futures g ∙ ap (option_map (future_of st'.semaphores)) (c.futures g)
      ∙ at_each (f == g) refl (get st.futures g) refl
      ∙ ap (cond (f == g) (option_map (future_of st'.semaphores) o')) (sym (get-seen (λ k x. future_of st.semaphores x) st.futures g))
    where
      at_each : (t : Bool) → (f == g) ≡ t → (d : Option FutureEntry) → get st.futures g ≡ d
          → option_map (future_of st'.semaphores) (cond t o' d) ≡ cond t (option_map (future_of st'.semaphores) o') (option_map (future_of st.semaphores) d)
      at_each true h d is = refl
      at_each false h None is = refl
      at_each false h (Some y) is = ap (λ (x : Future). Some x) (future_kept g y (eqb-false f g h) is)

  -- f is there, or still there
  pub futures_put : (x : FutureEntry) → o' ≡ Some x → (hall_of st' b').futures ≡ insert (hall_of st b).futures f (future_of st'.semaphores x)
  futures_put x is = same_named _ _
      (λ g. futures_at g ∙ ap (λ d. cond (f == g) (option_map (future_of st'.semaphores) d) (get (hall_of st b).futures g)) is
      ∙ sym (get_inserted (hall_of st b).futures f g (future_of st'.semaphores x)))

  futures_gone : o' ≡ None → (hall_of st' b').futures ≡ remove (hall_of st b).futures f
  futures_gone is = same_named _ _
      (λ g. futures_at g ∙ ap (λ d. cond (f == g) (option_map (future_of st'.semaphores) d) (get (hall_of st b).futures g)) is
      ∙ sym (get_removed (hall_of st b).futures f g))

  -- it is gone, and these wait
  pub hall_without : (queue : List (Who × ℕ)) → o' ≡ None → queue_of st'.futures b' s e'.core.queue ≡ queue → hall_of st' b' ≡ record {
    semaphores = insert (hall_of st b).semaphores s (seen_as e' queue);
    futures = remove (hall_of st b).futures f;
    permits = st'.permits;
  }
  hall_without queue gone same = λ j. record {
    semaphores = (semaphores_after ∙ ap (λ q. insert (hall_of st b).semaphores s (seen_as e' q)) same) j;
    futures = futures_gone gone j;
    permits = st'.permits;
  }

  -- there is no such future, neither before nor after
  pub futures_same : o ≡ None → o' ≡ None → (hall_of st' b').futures ≡ (hall_of st b).futures
  futures_same was is = same_named _ _
      (λ g. futures_at g ∙ ap (λ d. cond (f == g) (option_map (future_of st'.semaphores) d) (get (hall_of st b).futures g)) is ∙ at_each g (f == g) refl)
    where
      gone : get (hall_of st b).futures f ≡ None
      gone = get-seen (λ k x. future_of st.semaphores x) st.futures f ∙ ap (option_map (future_of st.semaphores)) (c.was ∙ was)

      at_each : (g : ℕ) (t : Bool) → (f == g) ≡ t → cond t None (get (hall_of st b).futures g) ≡ get (hall_of st b).futures g
      at_each g true h = sym (ap (get (hall_of st b).futures) (sym (eqb-true f g h)) ∙ gone)
      at_each g false h = refl
