-- what an acquire that is polled again, or leaves, does to the queue
use Rattle.std.proofs.Common.{◌≡◌, ◌≢◌, ℕ, ◌+◌, ◌-◌, ◌≤◌, ◌⊎◌, Bool, true, false, cond, not, ◌||◌, eqb, List, [], ◌∷◌, length, get_or, IsSome, Option, Some, None, is_some, refl, sym, ap, ap₂, subst, ◌∙◌, inl, inr, arith}
use Rattle.std.proofs.lemmas.Bool.{cases_eq}
use Rattle.std.proofs.lemmas.Bool.Decides.{nat_tests}
use Rattle.std.specs.List.{list_any}
use Rattle.std.specs.FinMap as fin
use Rattle.std.proofs.lemmas.List.Sums.{get_or-le-sum_by}
use Rattle.mea_base.specs.WaitList.{get, is_linked, IsAbsent, Updates, without}
use Rattle.mea_base.specs.WaitList as base
use Rattle.mea_base.proofs.Waits.{sum_by-updated, in_use_within, IsDistinct-without, without_absent, length-without}
use Rattle.mea_base.proofs.Tests.{test_same, test_differs}
use Rattle.mea_sem_core.specs.declared.wait_record.WaitRecord.{WaitRecord}
use Rattle.mea_sem_core.specs.declared.wait_record.WaitRecord.TheVariants.{Acquire, Debt, Granted, Cut}
use Rattle.mea_sem_core.specs.Core.{Acquires, Owes, waiting, HasDebtsFirst, HasOnlyDebts, CutsWhereClosed}
use Rattle.mea_sem_core.specs.Places.{entry, entries, queue_of, granted_of, cut_of, grant_of, cut_demand, demands_by, AllWaiting, IsQueue, paid_slot, paid_in, is_grant_of, is_cut, IsWaiting, IsIdle, is_acquire_of, LacksAtMost}
use Rattle.mea_sem_core.specs.Calls.{with_waker, without_acquire, StandsAs}
use Rattle.mea_sem_core.specs.declared.acquire.Acquire.TheVariants.{Queued}
use Rattle.mea_sem_core.proofs.Enqueues.{waiting_absent}
use Rattle.mea_sem_core.proofs.Closings.{only_debts_without, closing_kept, closing_dropped, closed_where_cut}
use Rattle.mea_sem_core.proofs.Debts.{debts_first_with_waker, debts_first_without}
use Rattle.mea_sem_core.proofs.Places.{entries-updated, AllWaiting-updated, demands_updated, demands_removed, get-demands, count_updated}
use Rattle.mea_base.proofs.Chains.{unlinked_from_absent}
use Rattle.mea_sem_core.proofs.Grants.{unlinked_before}

-- what is left of the order
unlinked-without : (m n : ℕ) (ns : List ℕ) → m ≢ n → list_any (λ k. eqb k m) (without n ns) ≡ false → list_any (λ k. eqb k m) ns ≡ false
unlinked-without m n [] differs none = refl
unlinked-without m n (k ∷ ks) differs none =
    elim (cases_eq k n) [
      | inl same ↦
          let gone : not (eqb k n) ≡ false = ap not (test_same k n same) in
          let rest = rw gone at none in
          unlinked_before m k ks (λ e. differs (e ∙ same)) (unlinked-without m n ks differs rest)
      | inr stays ↦
          let here : not (eqb k n) ≡ true = ap not (test_differs k n stays) in
          let both = rw here at none in
          by_test (eqb k m) both (unlinked-without m n ks differs)
    ]
  where
    by_test : (b : Bool) → (b || list_any (λ j. eqb j m) (without n ks)) ≡ false
        → (list_any (λ j. eqb j m) (without n ks) ≡ false → list_any (λ j. eqb j m) ks ≡ false) → (b || list_any (λ j. eqb j m) ks) ≡ false
    by_test true none rest = absurd (cc)
    by_test false none rest = rest none

-- what is left has no such number
pub unlinked_after : (n : ℕ) (ns : List ℕ) → list_any (λ k. eqb k n) (without n ns) ≡ false
unlinked_after n [] = refl
unlinked_after n (k ∷ ks) = by_test (eqb k n) refl (unlinked_after n ks)
  where
    by_test : (b : Bool) → eqb k n ≡ b → list_any (λ j. eqb j n) (without n ks) ≡ false
        → list_any (λ j. eqb j n) (cond (not b) (k ∷ without n ks) (without n ks)) ≡ false
    by_test true is rest = rest
    by_test false is rest = ap (λ b. b || list_any (λ j. eqb j n) (without n ks)) is ∙ rest

module _ {W : Type 0} where
  -- an unlinked number changes as before
  pub Updates-unlinked : (old mid new : base.Waits (WaitRecord W)) (n : ℕ) (slot : Option (WaitRecord W)) → mid.slots ≡ old.slots → Updates mid new n slot
      → Updates old new n slot
  Updates-unlinked old mid new n slot same updates =
      record { changed = updates.changed; others = λ other differs. updates.others other differs ∙ ap (λ slots. get_or slots other None) same }

  -- the slot behind a granted pair, and behind a waiting acquire
  pub slot_granted : (slots : List (Option (WaitRecord W))) (n demand : ℕ) → fin.get (demands_by grant_of slots) n ≡ Some demand
      → get_or slots n None ≡ Some (Granted demand)
  slot_granted slots n demand found = by_slot (get_or slots n None) (sym (get-demands grant_of refl slots n) ∙ found)
    where
      by_slot : (x : Option (WaitRecord W)) → grant_of x ≡ Some demand → x ≡ Some (Granted demand)
      by_slot None none = absurd (cc)
      by_slot (Some (Acquire _ _ _)) none = absurd (cc)
      by_slot (Some (Debt _)) none = absurd (cc)
      by_slot (Some (Granted d)) is = let same : d ≡ demand = cc in ap (λ k. Some (Granted k)) same
      by_slot (Some (Cut d)) none = absurd (cc)

  -- and behind a cut one
  pub slot_cut : (slots : List (Option (WaitRecord W))) (n demand : ℕ) → fin.get (demands_by cut_demand slots) n ≡ Some demand
      → get_or slots n None ≡ Some (Cut demand)
  slot_cut slots n demand found = by_slot (get_or slots n None) (sym (get-demands cut_demand refl slots n) ∙ found)
    where
      by_slot : (x : Option (WaitRecord W)) → cut_demand x ≡ Some demand → x ≡ Some (Cut demand)
      by_slot None none = absurd (cc)
      by_slot (Some (Acquire _ _ _)) none = absurd (cc)
      by_slot (Some (Debt _)) none = absurd (cc)
      by_slot (Some (Granted d)) none = absurd (cc)
      by_slot (Some (Cut d)) is = let same : d ≡ demand = cc in ap (λ k. Some (Cut k)) same

  pub slot_waiting : (slots : List (Option (WaitRecord W))) (n demand lack : ℕ) (ns : List ℕ) → waiting (entries slots ns) n ≡ Some (demand, lack)
      → (w : W) × (get_or slots n None ≡ Some (Acquire demand lack w))
  slot_waiting slots n demand lack [] found = absurd (cc)
  slot_waiting slots n demand lack (m ∷ ms) found = by_slot (get_or slots m None) refl found (slot_waiting slots n demand lack ms)
    where
      by_slot : (x : Option (WaitRecord W)) → get_or slots m None ≡ x → waiting (entry m x ∷ entries slots ms) n ≡ Some (demand, lack)
          → (waiting (entries slots ms) n ≡ Some (demand, lack) → (w : W) × (get_or slots n None ≡ Some (Acquire demand lack w)))
          → (w : W) × (get_or slots n None ≡ Some (Acquire demand lack w))
      by_slot None is found rest = rest found
      by_slot (Some (Debt l)) is found rest = rest found
      by_slot (Some (Granted d)) is found rest = rest found
      by_slot (Some (Cut d)) is found rest = rest found
      by_slot (Some (Acquire d l w)) is found rest =
          elim (cases_eq m n) [
            | inl same ↦
                let here = rw (test_same m n same) at found in
                let d_is : d ≡ demand = ap (λ o. (elim o as (λ _. ℕ) [ None ↦ 0 | Some p ↦ p.0 ])) here in
                let l_is : l ≡ lack = ap (λ o. (elim o as (λ _. ℕ) [ None ↦ 0 | Some p ↦ p.1 ])) here in
                (w, ap (λ k. get_or slots k None) (sym same) ∙ is ∙ ap₂ (λ a b. Some (Acquire a b w)) d_is l_is)
            | inr differs ↦ rest (rw (test_differs m n differs) at found)
          ]

  -- a number whose place waits for nothing is not in the queue
  pub idle_absent : (slots : List (Option (WaitRecord W))) (n : ℕ) (x : Option (WaitRecord W)) (ns : List ℕ) → get_or slots n None ≡ x → (IsWaiting x → ⊥)
      → AllWaiting slots ns → IsAbsent n ns
  idle_absent slots n x [] is idle all = tt
  idle_absent slots n x (m ∷ ms) is idle all = (
    (λ same. let waits = all.0 in let here : get_or slots m None ≡ x = rw same is in idle (rw here at waits)),
    idle_absent slots n x ms is idle all.1,
  )

  pub granted_absent : (slots : List (Option (WaitRecord W))) (n demand : ℕ) (ns : List ℕ) → get_or slots n None ≡ Some (Granted demand)
      → AllWaiting slots ns → IsAbsent n ns
  granted_absent slots n demand ns is all = idle_absent slots n (Some (Granted demand)) ns is (λ waits. waits) all

  pub cut_absent : (slots : List (Option (WaitRecord W))) (n demand : ℕ) (ns : List ℕ) → get_or slots n None ≡ Some (Cut demand)
      → AllWaiting slots ns → IsAbsent n ns
  cut_absent slots n demand ns is all = idle_absent slots n (Some (Cut demand)) ns is (λ waits. waits) all

  -- the queue with another waker
  entries-with_waker : (old new : List (Option (WaitRecord W))) (n demand lack : ℕ) (w w' : W) (ns : List ℕ)
      → ((other : ℕ) → other ≢ n → get_or new other None ≡ get_or old other None) → get_or old n None ≡ Some (Acquire demand lack w)
      → get_or new n None ≡ Some (Acquire demand lack w') → entries new ns ≡ with_waker (entries old ns) n w'
  entries-with_waker old new n demand lack w w' [] others was is = refl
  entries-with_waker old new n demand lack w w' (m ∷ ms) others was is =
      elim (cases_eq m n) [
        | inl same ↦ rw (same, was, is, test_same n n refl)
            (ap (λ es. (Acquires n demand w', lack) ∷ es) (entries-with_waker old new n demand lack w w' ms others was is))
        | inr differs ↦ rw (others m differs) (by_slot (get_or old m None) differs (entries-with_waker old new n demand lack w w' ms others was is))
      ]
    where
      by_slot : (x : Option (WaitRecord W)) → m ≢ n → entries new ms ≡ with_waker (entries old ms) n w'
          → entry m x ∷ entries new ms ≡ with_waker (entry m x ∷ entries old ms) n w'
      by_slot None differs rest = ap (λ es. (Owes, 0) ∷ es) rest
      by_slot (Some (Debt l)) differs rest = ap (λ es. (Owes, l) ∷ es) rest
      by_slot (Some (Granted d)) differs rest = ap (λ es. (Owes, 0) ∷ es) rest
      by_slot (Some (Cut d)) differs rest = ap (λ es. (Owes, 0) ∷ es) rest
      by_slot (Some (Acquire d l v)) differs rest = rw (test_differs m n differs) (ap (λ es. (Acquires m d v, l) ∷ es) rest)

  -- the queue with the acquire gone
  entries-without : (old new : List (Option (WaitRecord W))) (n demand lack : ℕ) (w : W) (ns : List ℕ)
      → ((other : ℕ) → other ≢ n → get_or new other None ≡ get_or old other None) → get_or old n None ≡ Some (Acquire demand lack w)
      → entries new (without n ns) ≡ without_acquire (entries old ns) n
  entries-without old new n demand lack w [] others was = refl
  entries-without old new n demand lack w (m ∷ ms) others was =
      elim (cases_eq m n) [
        | inl same ↦ rw (same, was, test_same n n refl) (entries-without old new n demand lack w ms others was)
        | inr differs ↦ rw (test_differs m n differs, others m differs)
            (by_slot (get_or old m None) differs (entries-without old new n demand lack w ms others was))
      ]
    where
      by_slot : (x : Option (WaitRecord W)) → m ≢ n → entries new (without n ms) ≡ without_acquire (entries old ms) n
          → entry m x ∷ entries new (without n ms) ≡ without_acquire (entry m x ∷ entries old ms) n
      by_slot None differs rest = ap (λ es. (Owes, 0) ∷ es) rest
      by_slot (Some (Debt l)) differs rest = ap (λ es. (Owes, l) ∷ es) rest
      by_slot (Some (Granted d)) differs rest = ap (λ es. (Owes, 0) ∷ es) rest
      by_slot (Some (Cut d)) differs rest = ap (λ es. (Owes, 0) ∷ es) rest
      by_slot (Some (Acquire d l v)) differs rest = rw (test_differs m n differs) (ap (λ es. (Acquires m d v, l) ∷ es) rest)

  AllWaiting-without : (old new : List (Option (WaitRecord W))) (n : ℕ) (ns : List ℕ)
      → ((other : ℕ) → other ≢ n → get_or new other None ≡ get_or old other None) → AllWaiting old ns → AllWaiting new (without n ns)
  AllWaiting-without old new n [] others all = tt
  AllWaiting-without old new n (m ∷ ms) others all =
      elim (cases_eq m n) [
        | inl same ↦ rw (test_same m n same) (AllWaiting-without old new n ms others all.1)
        | inr differs ↦ rw (test_differs m n differs) (rw (others m differs) all.0, AllWaiting-without old new n ms others all.1)
      ]

  AllWaiting-with_waker : (old new : List (Option (WaitRecord W))) (n demand lack : ℕ) (w w' : W) (ns : List ℕ)
      → ((other : ℕ) → other ≢ n → get_or new other None ≡ get_or old other None) → get_or old n None ≡ Some (Acquire demand lack w)
      → get_or new n None ≡ Some (Acquire demand lack w') → AllWaiting old ns → AllWaiting new ns
  AllWaiting-with_waker old new n demand lack w w' [] others was is all = tt
  AllWaiting-with_waker old new n demand lack w w' (m ∷ ms) others was is all = (
    elim (cases_eq m n) [
      | inl same ↦ let waits = all.0 in rw (same, is) (rw (same, was) at waits)
      | inr differs ↦ rw (others m differs) all.0
    ],
    AllWaiting-with_waker old new n demand lack w w' ms others was is all.1,
  )

  -- a number that is idle in the old slots is not that of a waiting acquire
  not_idle : (w : base.Waits (WaitRecord W)) (n demand lack : ℕ) (waker : W) → IsQueue w → get w n ≡ Some (Acquire demand lack waker) → is_linked w n ≡ false → ⊥
  not_idle w n demand lack waker kept found unlinked = let idle = kept.idle n unlinked in rw found at idle

  -- a number that is not in the queue is free again
  pub record Frees (old new : base.Waits (WaitRecord W)) (number : ℕ) : Type 0 where
    pub queue : queue_of new ≡ queue_of old
    pub granted : granted_of new ≡ fin.remove (granted_of old) number
    pub cut : cut_of new ≡ fin.remove (cut_of old) number
    pub kept : IsQueue new
    pub paid : paid_in new + paid_slot (get old number) ≡ paid_in old

  pub frees : (old new : base.Waits (WaitRecord W)) (number : ℕ) → IsAbsent number old.order → Updates old new number None → new.order ≡ old.order
      → IsQueue old → Frees old new number
  frees old new number absent updates order kept =
      let sum = sum_by-updated paid_slot refl old.slots new.slots number updates.others in
      let part = rw updates.changed at sum in
      let queue : queue_of new ≡ queue_of old = rw order (entries-updated old.slots new.slots number old.order updates.others absent) in
      record {
        queue = queue;
        granted = demands_removed grant_of refl old.slots new.slots number updates.others (ap grant_of updates.changed);
        cut = demands_removed cut_demand refl old.slots new.slots number updates.others (ap cut_demand updates.changed);
        kept = record {
          distinct = rw order kept.distinct;
          debts_first = subst HasDebtsFirst (sym queue) kept.debts_first;
          few = let count = count_updated old.slots new.slots number updates.others in
              let counted = rw updates.changed at count in
              omega (arith, counted, kept.few);
          waiting = rw order (AllWaiting-updated old.slots new.slots number old.order updates.others absent kept.waiting);
          idle = λ m unlinked. elim (cases_eq m number) [
            | inl same ↦ rw (same, updates.changed) tt
            | inr differs ↦ rw (updates.others m differs) (kept.idle m (rw order at unlinked))
          ];
        };
        paid = omega (arith, part);
      }

  -- a granted pair is taken away
  pub record Takes (old new : base.Waits (WaitRecord W)) (number demand : ℕ) : Type 0 where
    pub queue : queue_of new ≡ queue_of old
    pub granted : granted_of new ≡ fin.remove (granted_of old) number
    pub cut : cut_of new ≡ cut_of old
    pub kept : IsQueue new
    pub paid : paid_in new + demand ≡ paid_in old

  pub takes : (old new : base.Waits (WaitRecord W)) (number demand : ℕ) → get old number ≡ Some (Granted demand) → Updates old new number None
      → new.order ≡ old.order → IsQueue old → Takes old new number demand
  takes old new number demand was updates order kept =
      let freed = frees old new number (granted_absent old.slots number demand old.order was kept.waiting) updates order kept in
      record {
        queue = freed.queue;
        granted = freed.granted;
        cut = demands_updated cut_demand refl old.slots new.slots number updates.others (rw (updates.changed, was) refl);
        kept = freed.kept;
        paid = let paid = freed.paid in rw was at paid;
      }

  -- a cut pair is taken away
  pub record Drops (old new : base.Waits (WaitRecord W)) (number : ℕ) : Type 0 where
    pub queue : queue_of new ≡ queue_of old
    pub granted : granted_of new ≡ granted_of old
    pub cut : cut_of new ≡ fin.remove (cut_of old) number
    pub kept : IsQueue new
    pub paid : paid_in new ≡ paid_in old

  pub drops : (old new : base.Waits (WaitRecord W)) (number demand : ℕ) → get old number ≡ Some (Cut demand) → Updates old new number None
      → new.order ≡ old.order → IsQueue old → Drops old new number
  drops old new number demand was updates order kept =
      let freed = frees old new number (cut_absent old.slots number demand old.order was kept.waiting) updates order kept in
      record {
        queue = freed.queue;
        granted = demands_updated grant_of refl old.slots new.slots number updates.others (rw (updates.changed, was) refl);
        cut = freed.cut;
        kept = freed.kept;
        paid = let paid = freed.paid in let nothing = rw was at paid in omega (arith, nothing);
      }

  -- a waiting acquire has another waker
  pub record Rewakes (old new : base.Waits (WaitRecord W)) (number : ℕ) (waker : W) : Type 0 where
    pub queue : queue_of new ≡ with_waker (queue_of old) number waker
    pub granted : granted_of new ≡ granted_of old
    pub cut : cut_of new ≡ cut_of old
    pub kept : IsQueue new
    pub paid : paid_in new ≡ paid_in old

  pub rewakes : (old new : base.Waits (WaitRecord W)) (number demand lack : ℕ) (was_waker waker : W)
      → get old number ≡ Some (Acquire demand lack was_waker) → Updates old new number (Some (Acquire demand lack waker)) → new.order ≡ old.order
      → IsQueue old → Rewakes old new number waker
  rewakes old new number demand lack was_waker waker was updates order kept =
      let sum = sum_by-updated paid_slot refl old.slots new.slots number updates.others in
      let part = rw (was, updates.changed) at sum in
      let queue : queue_of new ≡ with_waker (queue_of old) number waker =
      rw order (entries-with_waker old.slots new.slots number demand lack was_waker waker old.order updates.others was updates.changed) in
      record {
        queue = queue;
        granted = demands_updated grant_of refl old.slots new.slots number updates.others (rw (updates.changed, was) refl);
        cut = demands_updated cut_demand refl old.slots new.slots number updates.others (rw (updates.changed, was) refl);
        kept = record {
          distinct = rw order kept.distinct;
          debts_first = subst HasDebtsFirst (sym queue) (debts_first_with_waker (queue_of old) number waker kept.debts_first);
          few = let count = count_updated old.slots new.slots number updates.others in
              let counted = rw (was, updates.changed) at count in
              omega (arith, counted, kept.few);
          waiting = rw order (AllWaiting-with_waker old.slots new.slots number demand lack was_waker waker old.order updates.others was updates.changed kept.waiting);
          idle = λ m unlinked. elim (cases_eq m number) [
            | inl same ↦ absurd (not_idle old number demand lack was_waker kept was (rw (same, order) at unlinked))
            | inr differs ↦ rw (updates.others m differs) (kept.idle m (rw order at unlinked))
          ];
        };
        paid = omega (arith, part);
      }

  -- a waiting acquire leaves the queue, and its number has this from now on
  pub record Unqueues (old new : base.Waits (WaitRecord W)) (number part : ℕ) : Type 0 where
    pub queue : queue_of new ≡ without_acquire (queue_of old) number
    pub granted : granted_of new ≡ granted_of old
    pub kept : IsQueue new
    pub paid : paid_in new + part ≡ paid_in old
    pub shorter : length new.order ≤ length old.order

  at_most_one : (slot : Option (WaitRecord W)) → cond (is_some slot) 1 0 ≤ 1
  at_most_one None = omega arith
  at_most_one (Some x) = omega arith

  pub unqueues : (old new : base.Waits (WaitRecord W)) (number demand lack : ℕ) (waker : W) (slot : Option (WaitRecord W)) → IsIdle slot → grant_of slot ≡ None
      → paid_slot slot ≡ 0 → get old number ≡ Some (Acquire demand lack waker) → Updates old new number slot → new.order ≡ without number old.order
      → IsQueue old → Unqueues old new number (demand - lack)
  unqueues old new number demand lack waker slot idle no_grant unpaid was updates order kept =
      let sum = sum_by-updated paid_slot refl old.slots new.slots number updates.others in
      let part = rw (was, updates.changed, unpaid) at sum in
      let queue : queue_of new ≡ without_acquire (queue_of old) number =
      rw order (entries-without old.slots new.slots number demand lack waker old.order updates.others was) in
      record {
        queue = queue;
        granted = demands_updated grant_of refl old.slots new.slots number updates.others (rw (updates.changed, was) no_grant);
        kept = record {
          distinct = rw order (IsDistinct-without number old.order kept.distinct);
          debts_first = subst HasDebtsFirst (sym queue) (debts_first_without (queue_of old) number kept.debts_first);
          few = let count = count_updated old.slots new.slots number updates.others in
              let counted = rw (was, updates.changed) at count in
              omega (arith, counted, kept.few, at_most_one slot);
          waiting = rw order (AllWaiting-without old.slots new.slots number old.order updates.others kept.waiting);
          idle = λ m unlinked. elim (cases_eq m number) [
            | inl same ↦ rw (same, updates.changed) idle
            | inr differs ↦ rw (updates.others m differs) (kept.idle m (unlinked-without m number old.order differs (rw order at unlinked)))
          ];
        };
        paid = omega (arith, part);
        shorter = rw order (length-without number old.order);
      }

  -- under this number an acquire of this demand was granted, or waits
  abbrev pub IsOf : base.Waits (WaitRecord W) → ℕ → ℕ → Type 0
  IsOf w demand number = (fin.get (granted_of w) number ≡ Some demand) ⊎ ((lack : ℕ) × (waiting (queue_of w) number ≡ Some (demand, lack)))

  -- or, of a closed semaphore, it was cut
  abbrev pub IsOneOf : base.Waits (WaitRecord W) → Bool → ℕ → ℕ → Type 0
  IsOneOf w closed demand number = IsOf w demand number ⊎ ((closed ≡ true) × (fin.get (cut_of w) number ≡ Some demand))

  -- the places of these
  abbrev pub HoldsOf : base.Waits (WaitRecord W) → ℕ → ℕ → Type 0
  HoldsOf w demand number = (get w number ≡ Some (Granted demand)) ⊎ ((lack : ℕ) × (waker : W) × (get w number ≡ Some (Acquire demand lack waker)))

  abbrev pub HoldsOneOf : base.Waits (WaitRecord W) → ℕ → ℕ → Type 0
  HoldsOneOf w demand number = HoldsOf w demand number ⊎ (get w number ≡ Some (Cut demand))

  pub place_of : (w : base.Waits (WaitRecord W)) (demand number : ℕ) → IsOf w demand number → HoldsOf w demand number
  place_of w demand number (inl granted) = inl (slot_granted w.slots number demand granted)
  place_of w demand number (inr waits) = let found = slot_waiting w.slots number demand waits.0 w.order waits.1 in inr (waits.0, found.0, found.1)

  pub place_of_one : (w : base.Waits (WaitRecord W)) (closed : Bool) (demand number : ℕ) → IsOneOf w closed demand number → HoldsOneOf w demand number
  place_of_one w closed demand number (inl is) = inl (place_of w demand number is)
  place_of_one w closed demand number (inr cut) = inr (slot_cut w.slots number demand cut.1)

  pub in_use_at : (w : base.Waits (WaitRecord W)) (demand number : ℕ) → HoldsOneOf w demand number → IsSome (get w number)
  in_use_at w demand number (inl (inl granted)) = rw granted refl
  in_use_at w demand number (inl (inr waits)) = rw waits.2 refl
  in_use_at w demand number (inr cut) = rw cut refl

  pub granted_at : (w : base.Waits (WaitRecord W)) (demand number : ℕ) (x : WaitRecord W) → get w number ≡ Some x → is_grant_of x demand ≡ true
      → get w number ≡ Some (Granted demand)
  granted_at w demand number (Acquire own lack waker) found is = absurd (cc)
  granted_at w demand number (Debt lack) found is = absurd (cc)
  granted_at w demand number (Cut own) found is = absurd (cc)
  granted_at w demand number (Granted own) found is = let same : own ≡ demand = grind (arith, nat_tests, is) in found ∙ ap (λ d. Some (Granted d)) same

  pub waiting_at : (w : base.Waits (WaitRecord W)) (demand number : ℕ) (x : WaitRecord W) → get w number ≡ Some x → is_grant_of x demand ≡ false
      → HoldsOf w demand number → (lack : ℕ) × (waker : W) × (get w number ≡ Some (Acquire demand lack waker))
  waiting_at w demand number x found is (inl granted) =
      let same : x ≡ Granted demand = cc in
      absurd (let no = rw (same, test_same demand demand refl) at is in cc)
  waiting_at w demand number x found is (inr waits) = waits

  -- a number cannot be both
  pub not_both : (w : base.Waits (WaitRecord W)) (demand number lack : ℕ) (waker : W) → get w number ≡ Some (Granted demand)
      → get w number ≡ Some (Acquire demand lack waker) → ⊥
  not_both w demand number lack waker granted waits = cc

  pub unlinked_granted : (w : base.Waits (WaitRecord W)) (demand number : ℕ) → IsQueue w → get w number ≡ Some (Granted demand) → is_linked w number ≡ false
  unlinked_granted w demand number kept granted = unlinked_from_absent number w.order (granted_absent w.slots number demand w.order granted kept.waiting)

  pub demand-le-paid : (w : base.Waits (WaitRecord W)) (demand number : ℕ) → get w number ≡ Some (Granted demand) → demand ≤ paid_in w
  demand-le-paid w demand number granted =
      let part = get_or-le-sum_by paid_slot w.slots number None (in_use_within w.slots number (rw granted refl)) in
      rw granted at part

  lacks_within : (w : base.Waits (WaitRecord W)) (demand number lack : ℕ) (waker : W) → IsQueue w → get w number ≡ Some (Acquire demand lack waker) → lack ≤ demand
  lacks_within w demand number lack waker kept found = by_link (is_linked w number) refl
    where
      linked : (ns : List ℕ) → list_any (λ m. eqb m number) ns ≡ true → AllWaiting w.slots ns → lack ≤ demand
      linked [] none all = absurd (cc)
      linked (m ∷ ms) some all =
          elim (cases_eq m number) [
            | inl same ↦ let waits = all.0 in let here = rw (same, found) at waits in here.1
            | inr differs ↦ linked ms (rw (test_differs m number differs) at some) all.1
          ]

      by_link : (b : Bool) → is_linked w number ≡ b → lack ≤ demand
      by_link true is = linked w.order is kept.waiting
      by_link false is = absurd (not_idle w number demand lack waker kept found is)

  -- an acquire that waits or was granted is gone
  pub record Departs (old new : base.Waits (WaitRecord W)) (demand number part : ℕ) : Type 0 where
    pub kept : IsQueue new
    pub paid : paid_in new + part ≡ paid_in old
    pub shorter : length new.order ≤ length old.order
    pub idle : old.order ≡ [] → new.order ≡ []
    pub closing : (closed : Bool) → CutsWhereClosed closed (queue_of old) (cut_of old) → CutsWhereClosed closed (queue_of new) (cut_of new)
    pub granted : fin.get (granted_of old) number ≡ Some demand
        → (part ≡ demand) × (queue_of new ≡ queue_of old) × (granted_of new ≡ fin.remove (granted_of old) number) × (cut_of new ≡ cut_of old)
    pub waits : (lack : ℕ) → waiting (queue_of old) number ≡ Some (demand, lack)
        → (part ≡ demand - lack) × (queue_of new ≡ without_acquire (queue_of old) number) × (granted_of new ≡ granted_of old) × (cut_of new ≡ cut_of old)
    pub cut : fin.get (cut_of old) number ≡ Some demand
        → (part ≡ 0) × (queue_of new ≡ queue_of old) × (granted_of new ≡ granted_of old) × (cut_of new ≡ fin.remove (cut_of old) number)

  pub within_at : (w : base.Waits (WaitRecord W)) (demand number : ℕ) (x : WaitRecord W) → IsQueue w → get w number ≡ Some x → HoldsOneOf w demand number
      → LacksAtMost x
  within_at w demand number x kept found (inl (inl granted)) = let same : x ≡ Granted demand = cc in rw same tt
  within_at w demand number x kept found (inl (inr waits)) =
      let here = waits.2 in
      let same : x ≡ Acquire demand waits.0 waits.1 = cc in
      rw same (lacks_within w demand number waits.0 waits.1 kept here)
  within_at w demand number x kept found (inr cut) = let same : x ≡ Cut demand = cc in rw same tt

  -- of the three places a number has one at most
  not_cut : (w : base.Waits (WaitRecord W)) (demand number : ℕ) (x : WaitRecord W) → get w number ≡ Some x → is_cut x ≡ false
      → fin.get (cut_of w) number ≡ Some demand → ⊥
  not_cut w demand number x found none cut =
      let slot = slot_cut w.slots number demand cut in
      let same : x ≡ Cut demand = cc in
      let is = rw same at none in
      cc

  pub departs : (old new : base.Waits (WaitRecord W)) (demand number : ℕ) (x : WaitRecord W) → IsQueue old → get old number ≡ Some x
      → Updates old new number None → new.order ≡ without number old.order → HoldsOneOf old demand number
      → Departs old new demand number (paid_slot (Some x))
  departs old new demand number x kept found updates order (inl (inl is)) =
      let same : x ≡ Granted demand = cc in
      let absent = granted_absent old.slots number demand old.order is kept.waiting in
      let taken = takes old new number demand is updates (order ∙ without_absent number old.order absent) kept in
      rw same record {
        kept = taken.kept;
        paid = taken.paid;
        shorter = rw order (length-without number old.order);
        idle = λ none. order ∙ ap (without number) none;
        closing = λ closed h. closing_kept closed (queue_of old) (queue_of new) (cut_of old) (cut_of new)
            (λ debts. subst HasOnlyDebts (sym taken.queue) debts) (λ none. taken.cut ∙ none) h;
        granted = λ _. (refl, taken.queue, taken.granted, taken.cut);
        waits = λ lack waits. let slot = slot_waiting old.slots number demand lack old.order waits in absurd (not_both old demand number lack slot.0 is slot.1);
        cut = λ cut. absurd (not_cut old demand number (Granted demand) is refl cut);
      }
  departs old new demand number x kept found updates order (inl (inr is)) =
      let here = is.2 in
      let same : x ≡ Acquire demand is.0 is.1 = cc in
      let left = unqueues old new number demand is.0 is.1 None tt refl refl here updates order kept in
      let cut = demands_updated cut_demand refl old.slots new.slots number updates.others (rw (updates.changed, here) refl) in
      rw same record {
        kept = left.kept;
        paid = left.paid;
        shorter = left.shorter;
        idle = λ none. order ∙ ap (without number) none;
        closing = λ closed h. closing_kept closed (queue_of old) (queue_of new) (cut_of old) (cut_of new)
            (λ debts. subst HasOnlyDebts (sym left.queue) (only_debts_without (queue_of old) number debts)) (λ none. cut ∙ none) h;
        granted = λ granted. absurd (not_both old demand number is.0 is.1 (slot_granted old.slots number demand granted) here);
        waits = λ lack waits.
            let slot = slot_waiting old.slots number demand lack old.order waits in
            let found_lack = slot.1 in
            let alike : Acquire demand is.0 is.1 ≡ Acquire demand lack slot.0 = cc in
            let lacks : is.0 ≡ lack = cc in
            (ap (λ l. demand - l) lacks, left.queue, left.granted, cut);
        cut = λ was_cut. absurd (not_cut old demand number (Acquire demand is.0 is.1) here refl was_cut);
      }
  departs old new demand number x kept found updates order (inr is) =
      let same : x ≡ Cut demand = cc in
      let absent = cut_absent old.slots number demand old.order is kept.waiting in
      let dropped = drops old new number demand is updates (order ∙ without_absent number old.order absent) kept in
      rw same record {
        kept = dropped.kept;
        paid = omega (arith, dropped.paid);
        shorter = rw order (length-without number old.order);
        idle = λ none. order ∙ ap (without number) none;
        closing = λ closed h. closing_dropped closed (queue_of old) (queue_of new) (cut_of old) (cut_of new) number demand
            (get-demands cut_demand refl old.slots number ∙ ap cut_demand is) dropped.queue h;
        granted = λ granted. absurd (let slot = slot_granted old.slots number demand granted in cc);
        waits = λ lack waits. absurd (let slot = slot_waiting old.slots number demand lack old.order waits in let here = slot.1 in cc);
        cut = λ _. (refl, dropped.queue, dropped.granted, dropped.cut);
      }

  -- a linked acquire waits with its demand and lack
  waiting_slot : (slots : List (Option (WaitRecord W))) (n demand lack : ℕ) (waker : W) (ns : List ℕ)
      → get_or slots n None ≡ Some (Acquire demand lack waker) → list_any (λ k. eqb k n) ns ≡ true → waiting (entries slots ns) n ≡ Some (demand, lack)
  waiting_slot slots n demand lack waker [] found linked = absurd (cc)
  waiting_slot slots n demand lack waker (m ∷ ms) found linked =
      elim (cases_eq m n) [
        | inl same ↦ rw (same, found, test_same n n refl) refl
        | inr differs ↦ by_slot (get_or slots m None) differs (waiting_slot slots n demand lack waker ms found (rw (test_differs m n differs) at linked))
      ]
    where
      by_slot : (x : Option (WaitRecord W)) → m ≢ n → waiting (entries slots ms) n ≡ Some (demand, lack)
          → waiting (entry m x ∷ entries slots ms) n ≡ Some (demand, lack)
      by_slot None differs rest = rest
      by_slot (Some (Debt l)) differs rest = rest
      by_slot (Some (Granted d)) differs rest = rest
      by_slot (Some (Cut d)) differs rest = rest
      by_slot (Some (Acquire d l v)) differs rest = rw (test_differs m n differs) rest

  pub belongs_from_slot : (w : base.Waits (WaitRecord W)) (closed : Bool) (demand number : ℕ) (x : WaitRecord W) → IsQueue w
      → CutsWhereClosed closed (queue_of w) (cut_of w) → get w number ≡ Some x → is_acquire_of x demand ≡ true → IsOneOf w closed demand number
  belongs_from_slot w closed demand number (Acquire own lack waker) kept closing found is =
      let same : own ≡ demand = grind (arith, nat_tests, is) in
      inl (inr (lack, by_link (is_linked w number) refl ∙ ap (λ d. Some (d, lack)) same))
    where
      by_link : (b : Bool) → is_linked w number ≡ b → waiting (queue_of w) number ≡ Some (own, lack)
      by_link true linked = waiting_slot w.slots number own lack waker w.order found linked
      by_link false unlinked = absurd (not_idle w number own lack waker kept found unlinked)
  belongs_from_slot w closed demand number (Debt lack) kept closing found is = absurd (cc)
  belongs_from_slot w closed demand number (Granted own) kept closing found is =
      let same : own ≡ demand = grind (arith, nat_tests, is) in
      inl (inl (get-demands grant_of refl w.slots number ∙ ap grant_of found ∙ ap Some same))
  belongs_from_slot w closed demand number (Cut own) kept closing found is =
      let same : own ≡ demand = grind (arith, nat_tests, is) in
      let cut = get-demands cut_demand refl w.slots number ∙ ap cut_demand found ∙ ap Some same in
      inr (closed_where_cut closed (queue_of w) (cut_of w) number demand closing cut, cut)

  pub slot_from_belongs : (w : base.Waits (WaitRecord W)) (closed : Bool) (demand number : ℕ) (x : WaitRecord W) → get w number ≡ Some x
      → IsOneOf w closed demand number → is_acquire_of x demand ≡ true
  slot_from_belongs w closed demand number x found belongs = by_place (place_of_one w closed demand number belongs)
    where
      by_place : HoldsOneOf w demand number → is_acquire_of x demand ≡ true
      by_place (inl (inl granted)) = let same : x ≡ Granted demand = cc in rw (same, test_same demand demand refl) refl
      by_place (inl (inr waits)) = let here = waits.2 in let same : x ≡ Acquire demand waits.0 waits.1 = cc in rw (same, test_same demand demand refl) refl
      by_place (inr cut) = let same : x ≡ Cut demand = cc in rw (same, test_same demand demand refl) refl

  -- whether it was cut, by what its place tells
  pub cut_at : (w : base.Waits (WaitRecord W)) (closed : Bool) (demand number : ℕ) (x : WaitRecord W) → get w number ≡ Some x → is_cut x ≡ true
      → IsOneOf w closed demand number → (closed ≡ true) × (fin.get (cut_of w) number ≡ Some demand)
  cut_at w closed demand number x found is (inl belongs) = by_place (place_of w demand number belongs)
    where
      by_place : HoldsOf w demand number → (closed ≡ true) × (fin.get (cut_of w) number ≡ Some demand)
      by_place (inl granted) = absurd (let same : x ≡ Granted demand = cc in let none = rw same at is in cc)
      by_place (inr waits) = absurd (let here = waits.2 in let same : x ≡ Acquire demand waits.0 waits.1 = cc in let none = rw same at is in cc)
  cut_at w closed demand number x found is (inr cut) = cut

  pub uncut_at : (w : base.Waits (WaitRecord W)) (closed : Bool) (demand number : ℕ) (x : WaitRecord W) → get w number ≡ Some x → is_cut x ≡ false
      → IsOneOf w closed demand number → IsOf w demand number
  uncut_at w closed demand number x found none (inl belongs) = belongs
  uncut_at w closed demand number x found none (inr cut) = absurd (not_cut w demand number x found none cut.1)

  -- ---- whether an acquire was granted
  pub granted_from_slot : (w : base.Waits (WaitRecord W)) (demand number : ℕ) (x : WaitRecord W) → get w number ≡ Some x → is_grant_of x demand ≡ true
      → fin.get (granted_of w) number ≡ Some demand
  granted_from_slot w demand number x found is = get-demands grant_of refl w.slots number ∙ ap grant_of (granted_at w demand number x found is)

  pub slot_from_granted : (w : base.Waits (WaitRecord W)) (demand number : ℕ) (x : WaitRecord W) → get w number ≡ Some x
      → fin.get (granted_of w) number ≡ Some demand → is_grant_of x demand ≡ true
  slot_from_granted w demand number x found granted =
      let slot = slot_granted w.slots number demand granted in
      let same : x ≡ Granted demand = cc in
      rw (same, test_same demand demand refl) refl

  -- a granted number does not wait
  pub granted_apart : (w : base.Waits (WaitRecord W)) (demand number : ℕ) → IsQueue w → get w number ≡ Some (Granted demand) → waiting (queue_of w) number ≡ None
  granted_apart w demand number kept granted = waiting_absent w.slots number w.order (granted_absent w.slots number demand w.order granted kept.waiting)

  -- where an acquire that belongs stands, by what its place tells
  pub stands_at : (w : base.Waits (WaitRecord W)) (free live : ℕ) (closed : Bool) (wakes : List W) (demand number : ℕ) (x : WaitRecord W) (b : Bool)
      → get w number ≡ Some x → b ≡ is_grant_of x demand → IsOneOf w closed demand number
      → StandsAs (record {
        free = free;
        live = live;
        queue = queue_of w;
        granted = granted_of w;
        cut = cut_of w;
        closed = closed;
        wakes = wakes;
      }) (Queued demand number) b
  stands_at w free live closed wakes demand number x true found is belongs = granted_from_slot w demand number x found (sym is)
  stands_at w free live closed wakes demand number x false found is (inl (inl granted)) =
      absurd (let yes = slot_from_granted w demand number x found granted in cc)
  stands_at w free live closed wakes demand number x false found is (inl (inr waits)) =
      let slot = slot_waiting w.slots number demand waits.0 w.order waits.1 in
      (inl waits, get-demands grant_of refl w.slots number ∙ ap grant_of slot.1)
  stands_at w free live closed wakes demand number x false found is (inr cut) =
      (inr cut, get-demands grant_of refl w.slots number ∙ ap grant_of (slot_cut w.slots number demand cut.1))
