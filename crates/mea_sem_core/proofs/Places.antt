-- how changes of the slots change the queue and the pairs of numbers and demands
use Rattle.std.proofs.Common.{◌≡◌, ◌≢◌, ℕ, zero, suc, ◌+◌, ◌<◌, ◌≤◌, true, false, cond, List, [], ◌∷◌, length, get_or, Option, Some, None, is_some, count_by, refl, sym, ap, ◌∙◌, inl, inr, arith}
use Rattle.std.proofs.lemmas.Bool.{cases_eq}
use Rattle.std.proofs.lemmas.Bool.Decides.{nat_tests}
use Rattle.std.specs.Ordering.{nat_cmp, eq_by_cmp}
use Rattle.std.specs.Cmp.{nat_cmp_total, unsigned_tied}
use Rattle.std.specs.FinMap as fin
use Rattle.std.specs.FinMap.{find, get-from_entries, get-insert, get-remove, same_map, nat_cmp-IsAntisymmetric}
use Rattle.mea_base.specs.WaitList.{IsAbsent}
use Rattle.mea_base.proofs.Tests.{tied_same, tied_differs}
use Rattle.mea_base.proofs.Waits.{sum_by-updated}
use Rattle.mea_sem_core.specs.declared.wait_record.WaitRecord.{WaitRecord}
use Rattle.mea_sem_core.specs.declared.wait_record.WaitRecord.TheVariants.{Acquire, Debt, Granted, Cut}
use Rattle.mea_sem_core.specs.Places.{entry, entries, cons_pair, pairs_from, demands_by, IsWaiting, AllWaiting}
use Rattle.mea_sem_core.proofs.Pours.{AllLack}

module _ {W : Type 0} where
  -- changes at an absent number alone
  pub entries-updated : (old new : List (Option (WaitRecord W))) (n : ℕ) (ns : List ℕ)
      → ((other : ℕ) → other ≢ n → get_or new other None ≡ get_or old other None) → IsAbsent n ns → entries new ns ≡ entries old ns
  entries-updated old new n [] others absent = refl
  entries-updated old new n (m ∷ ms) others absent =
      λ i. entry m (others m absent.0 i) ∷ entries-updated old new n ms others absent.1 i

  pub AllWaiting-updated : (old new : List (Option (WaitRecord W))) (n : ℕ) (ns : List ℕ)
      → ((other : ℕ) → other ≢ n → get_or new other None ≡ get_or old other None) → IsAbsent n ns → AllWaiting old ns → AllWaiting new ns
  AllWaiting-updated old new n [] others absent all = tt
  AllWaiting-updated old new n (m ∷ ms) others absent all =
      (rw (others m absent.0) all.0, AllWaiting-updated old new n ms others absent.1 all.1)

  -- each waiter of the queue lacks at least 1
  lacks : (n : ℕ) (slot : Option (WaitRecord W)) → IsWaiting slot → 1 ≤ (entry n slot).1
  lacks n None waits = absurd waits
  lacks n (Some (Acquire demand lack waker)) waits = waits.0
  lacks n (Some (Debt lack)) waits = waits
  lacks n (Some (Granted demand)) waits = absurd waits
  lacks n (Some (Cut demand)) waits = absurd waits

  pub AllLack-entries : (slots : List (Option (WaitRecord W))) (ns : List ℕ) → AllWaiting slots ns → AllLack (entries slots ns)
  AllLack-entries slots [] all = tt
  AllLack-entries slots (n ∷ ns) all = (lacks n _ all.0, AllLack-entries slots ns all.1)

  -- ---- the numbers with a demand, by the slots
  module _ (demand : Option (WaitRecord W) → Option ℕ) (nothing : demand None ≡ None) where
    -- no pair comes before the first number
    pub find_before : (q k : ℕ) (slots : List (Option (WaitRecord W))) → q < k → find nat_cmp q (pairs_from demand k slots) ≡ None
    find_before q k [] before = refl
    find_before q k (slot ∷ rest) before = by_demand (demand slot) (find_before q (k + 1) rest (omega arith))
      where
        by_demand : (o : Option ℕ) → find nat_cmp q (pairs_from demand (k + 1) rest) ≡ None
            → find nat_cmp q (cons_pair k o (pairs_from demand (k + 1) rest)) ≡ None
        by_demand None none = none
        by_demand (Some d) none =
            let differs : eq_by_cmp nat_cmp q k ≡ false = unsigned_tied q k ∙ grind (arith, nat_tests, before) in
            ap (λ b. cond b (Some d) (find nat_cmp q (pairs_from demand (k + 1) rest))) differs ∙ none

    find_pairs : (k q : ℕ) (slots : List (Option (WaitRecord W))) → find nat_cmp (k + q) (pairs_from demand k slots) ≡ demand (get_or slots q None)
    find_pairs k q [] = sym nothing
    find_pairs k zero (slot ∷ rest) = by_demand (demand slot) (find_before (k + 0) (k + 1) rest (omega arith))
      where
        by_demand : (o : Option ℕ) → find nat_cmp (k + 0) (pairs_from demand (k + 1) rest) ≡ None
            → find nat_cmp (k + 0) (cons_pair k o (pairs_from demand (k + 1) rest)) ≡ o
        by_demand None none = none
        by_demand (Some d) none =
            let same : eq_by_cmp nat_cmp (k + 0) k ≡ true = unsigned_tied (k + 0) k ∙ grind (arith, nat_tests) in
            ap (λ b. cond b (Some d) (find nat_cmp (k + 0) (pairs_from demand (k + 1) rest))) same
    find_pairs k (suc q) (slot ∷ rest) =
        by_demand (demand slot)
        (ap (λ m. find nat_cmp m (pairs_from demand (k + 1) rest)) (let e : k + suc q ≡ k + 1 + q = omega arith in e) ∙ find_pairs (k + 1) q rest)
      where
        by_demand : (o : Option ℕ) → find nat_cmp (k + suc q) (pairs_from demand (k + 1) rest) ≡ demand (get_or rest q None)
            → find nat_cmp (k + suc q) (cons_pair k o (pairs_from demand (k + 1) rest)) ≡ demand (get_or rest q None)
        by_demand None found = found
        by_demand (Some d) found =
            let differs : eq_by_cmp nat_cmp (k + suc q) k ≡ false = unsigned_tied (k + suc q) k ∙ grind (arith, nat_tests) in
            ap (λ b. cond b (Some d) (find nat_cmp (k + suc q) (pairs_from demand (k + 1) rest))) differs ∙ found

    pub get-demands : (slots : List (Option (WaitRecord W))) (q : ℕ) → fin.get (demands_by demand slots) q ≡ demand (get_or slots q None)
    get-demands slots q = get-from_entries nat_cmp_total _ q
        ∙ ap (λ m. find nat_cmp m (pairs_from demand 0 slots)) (let e : q ≡ 0 + q = omega arith in e)
        ∙ find_pairs 0 q slots

    -- slots that have the same demands have the same pairs
    pub demands_same : (old new : List (Option (WaitRecord W))) → ((q : ℕ) → demand (get_or new q None) ≡ demand (get_or old q None))
        → demands_by demand new ≡ demands_by demand old
    demands_same old new alike = same_map nat_cmp_total nat_cmp-IsAntisymmetric _ _ (λ q. get-demands new q ∙ alike q ∙ sym (get-demands old q))

    -- also where they change under one number alone
    pub demands_updated : (old new : List (Option (WaitRecord W))) (n : ℕ) → ((other : ℕ) → other ≢ n → get_or new other None ≡ get_or old other None)
        → demand (get_or new n None) ≡ demand (get_or old n None) → demands_by demand new ≡ demands_by demand old
    demands_updated old new n others here = demands_same old new (λ q. elim (cases_eq q n) [
      | inl same ↦ rw same here
      | inr differs ↦ ap demand (others q differs)
    ])

    -- a slot that has a demand from now on adds its pair
    pub demands_inserted : (old new : List (Option (WaitRecord W))) (n d : ℕ)
        → ((other : ℕ) → other ≢ n → get_or new other None ≡ get_or old other None) → demand (get_or new n None) ≡ Some d
        → demands_by demand new ≡ fin.insert (demands_by demand old) n d
    demands_inserted old new n d others here =
        same_map nat_cmp_total nat_cmp-IsAntisymmetric _ _ (λ q.
        rw (get-demands new q, get-insert nat_cmp_total (demands_by demand old) n d q) (elim (cases_eq q n) [
          | inl same ↦ rw (tied_same q n same, same) here
          | inr differs ↦ rw (tied_differs q n differs, others q differs) (sym (get-demands old q))
        ]))

    -- a slot that has none any more takes its pair away
    pub demands_removed : (old new : List (Option (WaitRecord W))) (n : ℕ) → ((other : ℕ) → other ≢ n → get_or new other None ≡ get_or old other None)
        → demand (get_or new n None) ≡ None → demands_by demand new ≡ fin.remove (demands_by demand old) n
    demands_removed old new n others here =
        same_map nat_cmp_total nat_cmp-IsAntisymmetric _ _ (λ q.
        rw (get-demands new q, get-remove nat_cmp_total (demands_by demand old) n q) (elim (cases_eq q n) [
          | inl same ↦ rw (tied_same q n same, same) here
          | inr differs ↦ rw (tied_differs q n differs, others q differs) (sym (get-demands old q))
        ]))

  -- the values after a change of one number
  pub count_updated : (old new : List (Option (WaitRecord W))) (n : ℕ) → ((other : ℕ) → other ≢ n → get_or new other None ≡ get_or old other None)
      → count_by is_some new + cond (is_some (get_or old n None)) 1 0 ≡ count_by is_some old + cond (is_some (get_or new n None)) 1 0
  count_updated old new n others = sum_by-updated (λ (o : Option (WaitRecord W)). cond (is_some o) 1 0) refl old new n others

  pub no_order : (slots : List (Option (WaitRecord W))) (ns : List ℕ) → entries slots ns ≡ [] → ns ≡ []
  no_order slots [] none = refl
  no_order slots (n ∷ ns) none = absurd (cc)

  -- the queue is as long as the order of its numbers
  pub length-entries : (slots : List (Option (WaitRecord W))) (ns : List ℕ) → length (entries slots ns) ≡ length ns
  length-entries slots [] = refl
  length-entries slots (n ∷ ns) = omega (arith, length-entries slots ns)
