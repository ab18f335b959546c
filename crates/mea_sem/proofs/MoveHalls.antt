-- some leave the queue of a core and come to a stage, in the core and in the hall that is stood for
use Rattle.std.proofs.Common.{◌≡◌, ◌⊎◌, inl, inr, ℕ, ◌==◌, Bool, true, false, cond, List, map, refl, ap, sym, ◌∙◌, Option, Some, None}
use Rattle.std.specs.List.{AllByRecursion}
use Rattle.std.specs.Option.{option_map}
use Rattle.std.specs.Ordering.{nat_cmp}
use Rattle.std.specs.FinMap.{FinMap, get, insert}
use Rattle.std.proofs.lemmas.Bool.{eqb-true, eqb-false}
use Rattle.mea_base.proofs.NamedMaps.{same_named, get-seen}
use Rattle.mea_base.proofs.Totals.{get_inserted}
use Rattle.mea_sem_model.specs.Hall.{Future, FutureStage, Who, staged, stage_all}
use Rattle.mea_sem_model.proofs.HallLemmas.{among, get-stage_all}
use Rattle.mea_sem_core.specs.declared.acquire.Acquire.{Acquire}
use Rattle.mea_sem_core.specs.declared.acquire.Acquire.TheVariants as acquires
use Rattle.mea_sem_core.specs.Core as cores
use Rattle.mea_sem_core.specs.Calls.{Belongs, IsCutAs}
use Rattle.mea_sem.specs.declared.entries.SemaphoreEntry.{SemaphoreEntry}
use Rattle.mea_sem.specs.declared.entries.FutureEntry.{FutureEntry}
use Rattle.mea_sem.specs.Store.{Store, is_under, has, who_of, semaphore_of, stage_of, stage_under, core_in, future_of, hall_of, IsOwned, IsNumbered, IsLinked, at_stage}
use Rattle.mea_sem.proofs.Replaced.{semaphore_there, semaphore_other, each_semaphore, home_still, future_back, owned_on}
use Rattle.mea_sem.proofs.Cores.{IsAt, is_among, Splits}
use Rattle.mea_sem.proofs.Seen.{among-number, among-unnamed}
use Rattle.mea_sem.proofs.Names.{has-parts}

-- in the core of s those of ws leave the queue and come to the stage t, and nobody else moves
pub record MovesInto (st st' : Store) (s : ℕ) (t : FutureStage) (ws : List (cores.Waiter ℕ)) (e e' : SemaphoreEntry) : Type 0 where
  pub there : get st.semaphores s ≡ Some e
  pub semaphores : (q : ℕ) → get st'.semaphores q ≡ cond (s == q) (Some e') (get st.semaphores q)
  pub futures : st'.futures ≡ st.futures
  pub found : AllByRecursion (λ w. (l : ℕ) × IsAt e.core.queue (w, l)) ws
  pub splits : (k : ℕ) → Splits (cores.waiting e.core.queue k) (cores.waiting e'.core.queue k) (cores.waker_under e.core.queue k)
      (cores.waker_under e'.core.queue k) (is_among ws k)
  -- what was granted or cut is so still
  pub granted_still : (k d : ℕ) → get e.core.granted k ≡ Some d → get e'.core.granted k ≡ Some d
  pub cut_still : (k d : ℕ) → get e.core.cut k ≡ Some d → get e'.core.cut k ≡ Some d
  pub closed_still : e.core.closed ≡ true → e'.core.closed ≡ true
  -- who leaves is granted or cut, and so at the stage
  pub placed : (k d l : ℕ) → cores.waiting e.core.queue k ≡ Some (d, l) → is_among ws k ≡ true → (get e'.core.granted k ≡ Some d) ⊎ IsCutAs e'.core d k
  pub staged : (k d l : ℕ) → cores.waiting e.core.queue k ≡ Some (d, l) → is_among ws k ≡ true → stage_under None (get e'.core.cut k) ≡ t
  pub cuts : (k : ℕ) → is_among ws k ≡ false → get e'.core.cut k ≡ get e.core.cut k
  -- who is granted or cut was so before, or waited
  pub granted_from : (k d : ℕ) → get e'.core.granted k ≡ Some d → (get e.core.granted k ≡ Some d) ⊎ ((l : ℕ) × (cores.waiting e.core.queue k ≡ Some (d, l)))
  pub cut_from : (k d : ℕ) → get e'.core.cut k ≡ Some d → (get e.core.cut k ≡ Some d) ⊎ ((l : ℕ) × (cores.waiting e.core.queue k ≡ Some (d, l)))
  pub numbered : IsNumbered e'.core

module _ (st st' : Store) (b s : ℕ) (t : FutureStage) (ws : List (cores.Waiter ℕ)) (e e' : SemaphoreEntry) (linked : IsLinked st b)
    (c : MovesInto st st' s t ws e e') where
  -- who waited waits on, or is at the stage
  waits_or_placed : (d k l : ℕ) → cores.waiting e.core.queue k ≡ Some (d, l) → Belongs e'.core (acquires.Queued d k)
  waits_or_placed d k l is = elim ((c.splits k).some d l is) [
    | inl waits ↦ inl (inr (waits.0, waits.1))
    | inr paid ↦ elim (c.placed k d l is paid.0) [ inl granted ↦ inl (inl granted) | inr cut ↦ inr cut ]
  ]

  belongs_still : (a : Acquire) → Belongs e.core a → Belongs e'.core a
  belongs_still (acquires.New d) h = tt
  belongs_still (acquires.Done d) h = tt
  belongs_still (acquires.Refused d) h = c.closed_still h
  belongs_still (acquires.Queued d k) (inl (inl granted)) = inl (inl (c.granted_still k d granted))
  belongs_still (acquires.Queued d k) (inl (inr waits)) = waits_or_placed d k waits.0 waits.1
  belongs_still (acquires.Queued d k) (inr cut) = inr (c.closed_still cut.0, c.cut_still k d cut.1)

  -- what stands now under a number that waits no more stood there before, or waited
  placed_all : (pairs : cores.Core ℕ → FinMap nat_cmp ℕ)
      → ((k d : ℕ) → get (pairs e'.core) k ≡ Some d → (get (pairs e.core) k ≡ Some d) ⊎ ((l : ℕ) × (cores.waiting e.core.queue k ≡ Some (d, l))))
      → ((q : ℕ) (x : SemaphoreEntry) (k d : ℕ) → get st.semaphores q ≡ Some x → get (pairs x.core) k ≡ Some d → IsOwned st q k d)
      → (q : ℕ) (d : SemaphoreEntry) (k demand : ℕ) → get st'.semaphores q ≡ Some d → get (pairs d.core) k ≡ Some demand → IsOwned st' q k demand
  placed_all pairs from owned q d k demand is placed = each_semaphore st st' s e' c.semaphores (λ q d. get (pairs d.core) k ≡ Some demand → IsOwned st' q k demand)
      (λ now. elim (from k demand now) [
        | inl before ↦ owned_on st st' c.futures s k demand (owned s e k demand c.there before)
        | inr waited ↦ owned_on st st' c.futures s k demand (linked.owned s e k demand waited.0 c.there waited.1)
      ])
      (λ q d apart old placed. owned_on st st' c.futures q k demand (owned q d k demand old placed))
      q d is placed

  pub linked_moved : IsLinked st' b
  linked_moved = record {
    home = λ g y is. home_still st st' s e' c.semaphores c.there y (linked.home g y (future_back st st' c.futures g y is)) (λ mine belongs. belongs_still y.acquire belongs);
    owned = λ q d k demand l is waits. each_semaphore st st' s e' c.semaphores (λ q d. cores.waiting d.core.queue k ≡ Some (demand, l) → IsOwned st' q k demand)
        (λ now. let before = (c.splits k).waits demand l now in owned_on st st' c.futures s k demand (linked.owned s e k demand before.0 c.there before.1))
        (λ q d apart old waits. owned_on st st' c.futures q k demand (linked.owned q d k demand l old waits))
        q d is waits;
    granted = placed_all (λ x. x.granted) c.granted_from linked.granted;
    cut = placed_all (λ x. x.cut) c.cut_from linked.cut;
    apart = λ g h k x y isx isy. linked.apart g h k x y (future_back st st' c.futures g x isx) (future_back st st' c.futures h y isy);
    below = λ g y is. linked.below g y (future_back st st' c.futures g y is);
    numbered = each_semaphore st st' s e' c.semaphores (λ q d. IsNumbered d.core) c.numbered (λ q d apart old. linked.numbered q d old);
  }

  -- ---- the semaphores
  pub semaphores_moved : (hall_of st' b).semaphores ≡ insert (hall_of st b).semaphores s (semaphore_of st'.futures b s e')
  semaphores_moved = same_named _ _ (λ q.
      get-seen (semaphore_of st'.futures b) st'.semaphores q ∙ ap (option_map (semaphore_of st'.futures b q)) (c.semaphores q)
      ∙ at_each q (s == q) refl (get st.semaphores q)
      ∙ ap (cond (s == q) (Some (semaphore_of st'.futures b s e'))) (sym (get-seen (semaphore_of st.futures b) st.semaphores q))
      ∙ sym (get_inserted (hall_of st b).semaphores s q (semaphore_of st'.futures b s e')))
    where
      at_each : (q : ℕ) (t : Bool) → (s == q) ≡ t → (d : Option SemaphoreEntry)
          → option_map (semaphore_of st'.futures b q) (cond t (Some e') d) ≡ cond t (Some (semaphore_of st'.futures b s e'))
          (option_map (semaphore_of st.futures b q) d)
      at_each q true h d = ap (λ k. Some (semaphore_of st'.futures b k e')) (sym (eqb-true s q h))
      at_each q false h None = refl
      at_each q false h (Some d) = ap (λ m. Some (semaphore_of m b q d)) c.futures

  -- ---- the futures
  -- those who leave, by name
  abbrev left_names : List Who
  left_names = map (who_of st.futures b s) ws

  staged_by : (x : Future) (z : FutureStage) (u : Bool) → z ≡ cond u t x.stage → ◌≡◌ {A = Future} (record x { stage = z }) (cond u (staged t x) x)
  staged_by x z true h = λ i. record x { stage = h i }
  staged_by x z false h = λ i. record x { stage = h i }

  -- the stage under a number
  stage_moved : (k : ℕ) (u : Bool) → is_among ws k ≡ u
      → stage_under (cores.waker_under e'.core.queue k) (get e'.core.cut k) ≡ cond u t (stage_under (cores.waker_under e.core.queue k) (get e.core.cut k))
  stage_moved k false a = λ i. stage_under (((c.splits k).waker ∙ ap (λ u. cond u None (cores.waker_under e.core.queue k)) a) i) (c.cuts k a i)
  stage_moved k true a = ap (λ o. stage_under o (get e'.core.cut k)) ((c.splits k).waker ∙ ap (λ u. cond u None (cores.waker_under e.core.queue k)) a)
      ∙ by_option (cores.waiting e.core.queue k) refl
    where
      by_option : (o : Option (ℕ × ℕ)) → cores.waiting e.core.queue k ≡ o → stage_under None (get e'.core.cut k) ≡ t
      by_option None is = absurd (let none = ((c.splits k).none is).1 in cc)
      by_option (Some p) is = c.staged k p.0 p.1 is a

  no_number : (k : ℕ) (g : ℕ) (y : FutureEntry) → get st.futures g ≡ Some y → (t : Bool) → has s k (get st.futures g) ≡ t → (t ≡ true → ⊥)
      → has s k (get st.futures g) ≡ false
  no_number k g y is false h never = h
  no_number k g y is true h never = absurd (never refl)

  -- a future that has no number in the core of s stays
  unmoved : (g : ℕ) (y : FutureEntry) → get st.futures g ≡ Some y → ((k : ℕ) → has s k (get st.futures g) ≡ true → ⊥)
      → stage_of y.acquire (core_in (get st'.semaphores y.semaphore)) ≡ stage_of y.acquire (core_in (get st.semaphores y.semaphore))
      → future_of st'.semaphores y ≡ cond (among left_names g) (staged t (future_of st.semaphores y)) (future_of st.semaphores y)
  unmoved g y is none same =
      ap (at_stage y) same
      ∙ ap (λ u. cond u (staged t (future_of st.semaphores y)) (future_of st.semaphores y))
      (sym (among-unnamed st b s e linked c.there g (λ k. no_number k g y is (has s k (get st.futures g)) refl (none k)) ws c.found))

  without_number : (g : ℕ) (y : FutureEntry) (a : Acquire) → y.acquire ≡ a → get st.futures g ≡ Some y → ((k : ℕ) → is_under a k ≡ false)
      → ((x z : cores.Core ℕ) → stage_of a x ≡ stage_of a z)
      → future_of st'.semaphores y ≡ cond (among left_names g) (staged t (future_of st.semaphores y)) (future_of st.semaphores y)
  without_number g y a acquire is none alike = unmoved g y is (λ k h. not_under k (has-parts s k (get st.futures g) h))
      (ap (λ a. stage_of a (core_in (get st'.semaphores y.semaphore))) acquire ∙ alike _ _
      ∙ sym (ap (λ a. stage_of a (core_in (get st.semaphores y.semaphore))) acquire))
    where
      not_under : (k : ℕ) → (x : FutureEntry) × (get st.futures g ≡ Some x) × (x.semaphore ≡ s) × (is_under x.acquire k ≡ true) → ⊥
      not_under k p =
          let both : Some y ≡ Some p.0 = sym is ∙ p.1 in
          let same : p.0 ≡ y = cc in
          let under : is_under a k ≡ true = ap (λ a. is_under a k) (sym acquire) ∙ ap (λ (x : FutureEntry). is_under x.acquire k) (sym same) ∙ p.3 in
          let no = none k in
          cc

  moved_of_s : (g : ℕ) (y : FutureEntry) (a : Acquire) → y.acquire ≡ a → get st.futures g ≡ Some y → s ≡ y.semaphore
      → future_of st'.semaphores y ≡ cond (among left_names g) (staged t (future_of st.semaphores y)) (future_of st.semaphores y)
  moved_of_s g y (acquires.New d) acquire is mine = without_number g y (acquires.New d) acquire is (λ k. refl) (λ x z. refl)
  moved_of_s g y (acquires.Done d) acquire is mine = without_number g y (acquires.Done d) acquire is (λ k. refl) (λ x z. refl)
  moved_of_s g y (acquires.Refused d) acquire is mine = without_number g y (acquires.Refused d) acquire is (λ k. refl) (λ x z. refl)
  moved_of_s g y (acquires.Queued d k) acquire is mine =
      let now : get st'.semaphores y.semaphore ≡ Some e' = ap (get st'.semaphores) (sym mine) ∙ semaphore_there st st' s e' c.semaphores in
      let then : get st.semaphores y.semaphore ≡ Some e = ap (get st.semaphores) (sym mine) ∙ c.there in
      let new_stage : stage_of y.acquire (core_in (get st'.semaphores y.semaphore)) ≡ stage_of (acquires.Queued d k) e'.core =
      ap (λ d. stage_of y.acquire (core_in d)) now ∙ ap (λ a. stage_of a e'.core) acquire in
      let old_stage : stage_of y.acquire (core_in (get st.semaphores y.semaphore)) ≡ stage_of (acquires.Queued d k) e.core =
      ap (λ d. stage_of y.acquire (core_in d)) then ∙ ap (λ a. stage_of a e.core) acquire in
      let stage : stage_of y.acquire (core_in (get st'.semaphores y.semaphore)) ≡ cond (is_among ws k) t
      (stage_of y.acquire (core_in (get st.semaphores y.semaphore))) =
      new_stage ∙ stage_moved k (is_among ws k) refl ∙ ap (cond (is_among ws k) t) (sym old_stage) in
      staged_by (future_of st.semaphores y) _ (is_among ws k) stage
      ∙ ap (λ u. cond u (staged t (future_of st.semaphores y)) (future_of st.semaphores y))
      (sym (among-number st b s e linked c.there g y is (sym mine) k d acquire ws c.found))

  moved : (g : ℕ) (y : FutureEntry) → get st.futures g ≡ Some y → (u : Bool) → (s == y.semaphore) ≡ u
      → future_of st'.semaphores y ≡ cond (among left_names g) (staged t (future_of st.semaphores y)) (future_of st.semaphores y)
  moved g y is true h = moved_of_s g y y.acquire refl is (eqb-true s y.semaphore h)
  moved g y is false h = unmoved g y is (λ k t. away k (has-parts s k (get st.futures g) t))
      (ap (λ d. stage_of y.acquire (core_in d)) (semaphore_other st st' s e' c.semaphores y.semaphore (eqb-false s y.semaphore h)))
    where
      away : (k : ℕ) → (x : FutureEntry) × (get st.futures g ≡ Some x) × (x.semaphore ≡ s) × (is_under x.acquire k ≡ true) → ⊥
      away k p =
          let both : Some y ≡ Some p.0 = sym is ∙ p.1 in
          let same : p.0 ≡ y = cc in
          eqb-false s y.semaphore h (sym p.2 ∙ ap (λ (x : FutureEntry). x.semaphore) same)

  pub futures_moved : (hall_of st' b).futures ≡ stage_all t left_names (hall_of st b).futures
  futures_moved = same_named _ _ (λ g.
      get-seen (λ k x. future_of st'.semaphores x) st'.futures g ∙ ap (λ m. option_map (future_of st'.semaphores) (get m g)) c.futures
      ∙ at_each g (get st.futures g) refl
      ∙ ap (λ o. cond (among left_names g) (option_map (staged t) o) o) (sym (get-seen (λ k x. future_of st.semaphores x) st.futures g))
      ∙ sym (get-stage_all t left_names (hall_of st b).futures g))
    where
      none_either : (t : Bool) → ◌≡◌ {A = Option Future} None (cond t None None)
      none_either true = refl
      none_either false = refl

      some_either : (t : Bool) (x y : Future) → Some (cond t x y) ≡ cond t (Some x) (Some y)
      some_either true x y = refl
      some_either false x y = refl

      at_each : (g : ℕ) (o : Option FutureEntry) → get st.futures g ≡ o
          → option_map (future_of st'.semaphores) o ≡ cond (among left_names g) (option_map (staged t) (option_map (future_of st.semaphores) o))
          (option_map (future_of st.semaphores) o)
      at_each g None is = none_either (among left_names g)
      at_each g (Some y) is = ap (λ (x : Future). Some x) (moved g y is (s == y.semaphore) refl)
          ∙ some_either (among left_names g) (staged t (future_of st.semaphores y)) (future_of st.semaphores y)
