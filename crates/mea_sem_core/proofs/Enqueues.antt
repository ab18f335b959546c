-- what a new waiter does to the queue
use Rattle.std.proofs.Common.{◌≡◌, ◌≢◌, ℕ, suc, ◌+◌, ◌-◌, ◌<◌, ◌≤◌, ◌^◌, Bool, true, false, cond, ◌||◌, eqb, List, [], ◌∷◌, ◌++◌, length, get_or, Option, Some, None, refl, sym, ap, ap₂, subst, ◌∙◌, inl, inr, arith}
use Rattle.std.proofs.lemmas.Bool.{cases_eq}
use Rattle.std.proofs.lemmas.Bool.Decides.{nat_tests}
use Rattle.std.specs.List.{list_any}
use Rattle.std.specs.FinMap as fin
use Rattle.mea_base.specs.WaitList.{get, value_count, IsAbsent, Updates}
use Rattle.mea_base.specs.WaitList as base
use Rattle.mea_base.proofs.Waits.{sum_by-updated, IsDistinct-push}
use Rattle.mea_sem_core.specs.declared.wait_record.WaitRecord.{WaitRecord}
use Rattle.mea_sem_core.specs.declared.wait_record.WaitRecord.TheVariants.{Acquire, Debt, Granted, Cut}
use Rattle.mea_sem_core.specs.Core.{Acquires, Owes, waiting, HasDebtsFirst}
use Rattle.mea_sem_core.specs.Places.{entry, entries, queue_of, granted_of, cut_of, grant_of, cut_demand, demands_by, IsWaiting, AllWaiting, IsQueue, paid_slot, paid_in}
use Rattle.mea_sem_core.proofs.Debts.{debts_first_append}
use Rattle.mea_sem_core.proofs.PourSteps.{linked_first}
use Rattle.mea_sem_core.proofs.Places.{entries-updated, AllWaiting-updated, demands_updated, get-demands}

unlinked-push : (m n : ℕ) (ns : List ℕ) → list_any (λ k. eqb k m) (ns ++ n ∷ []) ≡ false → list_any (λ k. eqb k m) ns ≡ false
unlinked-push m n [] none = refl
unlinked-push m n (k ∷ ks) none = by_test (eqb k m) none (unlinked-push m n ks)
  where
    by_test : (b : Bool) → (b || list_any (λ j. eqb j m) (ks ++ n ∷ [])) ≡ false
        → (list_any (λ j. eqb j m) (ks ++ n ∷ []) ≡ false → list_any (λ j. eqb j m) ks ≡ false) → (b || list_any (λ j. eqb j m) ks) ≡ false
    by_test true none rest = absurd (cc)
    by_test false none rest = rest none

linked-push : (n : ℕ) (ns : List ℕ) → list_any (λ k. eqb k n) (ns ++ n ∷ []) ≡ false → ⊥
linked-push n [] none = let same : eqb n n ≡ true = grind (arith, nat_tests) in let found = rw same at none in absurd (cc)
linked-push n (k ∷ ks) none = by_test (eqb k n) none (linked-push n ks)
  where
    by_test : (b : Bool) → (b || list_any (λ j. eqb j n) (ks ++ n ∷ [])) ≡ false → (list_any (λ j. eqb j n) (ks ++ n ∷ []) ≡ false → ⊥) → ⊥
    by_test true none rest = absurd (cc)
    by_test false none rest = rest none

unlinked_behind : (m n : ℕ) (ns : List ℕ) → m ≢ n → list_any (λ k. eqb k m) (n ∷ ns) ≡ false → list_any (λ k. eqb k m) ns ≡ false
unlinked_behind m n ns differs none =
    let other : eqb n m ≡ false = grind (arith, nat_tests, differs) in
    rw other at none

length-push : (ns : List ℕ) (n : ℕ) → length (ns ++ n ∷ []) ≡ length ns + 1
length-push [] n = refl
length-push (m ∷ ms) n = omega (arith, length-push ms n)

module _ {W : Type 0} where
  -- a number with no value waits nowhere
  pub absent_from_none : (slots : List (Option (WaitRecord W))) (n : ℕ) (ns : List ℕ) → get_or slots n None ≡ None → AllWaiting slots ns → IsAbsent n ns
  absent_from_none slots n [] none all = tt
  absent_from_none slots n (m ∷ ms) none all =
      ((λ same. let waits = all.0 in let here : get_or slots m None ≡ None = rw same none in rw here at waits), absent_from_none slots n ms none all.1)

  pub entries-push : (slots : List (Option (WaitRecord W))) (n : ℕ) (ns : List ℕ) → entries slots (ns ++ n ∷ []) ≡ entries slots ns ++ entry n (get_or slots n None) ∷ []
  entries-push slots n [] = refl
  entries-push slots n (m ∷ ms) = ap (λ es. entry m (get_or slots m None) ∷ es) (entries-push slots n ms)

  AllWaiting-push : (slots : List (Option (WaitRecord W))) (n : ℕ) (ns : List ℕ) → IsWaiting (get_or slots n None) → AllWaiting slots ns
      → AllWaiting slots (ns ++ n ∷ [])
  AllWaiting-push slots n [] here all = (here, tt)
  AllWaiting-push slots n (m ∷ ms) here all = (all.0, AllWaiting-push slots n ms here all.1)

  -- an acquire went to the tail
  pub record Enqueues (old new : base.Waits (WaitRecord W)) (number demand lack : ℕ) (waker : W) : Type 0 where
    pub queue : queue_of new ≡ queue_of old ++ (Acquires number demand waker, lack) ∷ []
    pub granted : granted_of new ≡ granted_of old
    pub cut : cut_of new ≡ cut_of old
    pub kept : IsQueue new
    pub paid : paid_in new ≡ paid_in old + (demand - lack)
    pub longer : length new.order ≡ length old.order + 1

  pub enqueues : (old new : base.Waits (WaitRecord W)) (number demand lack : ℕ) (waker : W) → get old number ≡ None
      → Updates old new number (Some (Acquire demand lack waker)) → new.order ≡ old.order ++ number ∷ [] → 1 ≤ lack → lack ≤ demand → value_count new < 2 ^ 64 → IsQueue old
      → Enqueues old new number demand lack waker
  enqueues old new number demand lack waker fresh updates order some within few kept =
      let absent = absent_from_none old.slots number old.order fresh kept.waiting in
      let sum = sum_by-updated paid_slot refl old.slots new.slots number updates.others in
      let part = rw (fresh, updates.changed) at sum in
      let queue : queue_of new ≡ queue_of old ++ (Acquires number demand waker, lack) ∷ [] =
      rw order (entries-push new.slots number old.order ∙ ap₂ (λ es x. es ++ entry number x ∷ [])
      (entries-updated old.slots new.slots number old.order updates.others absent) updates.changed) in
      record {
        queue = queue;
        granted = demands_updated grant_of refl old.slots new.slots number updates.others (rw (updates.changed, fresh) refl);
        cut = demands_updated cut_demand refl old.slots new.slots number updates.others (rw (updates.changed, fresh) refl);
        kept = record {
          distinct = rw order (IsDistinct-push number old.order absent kept.distinct);
          debts_first = subst HasDebtsFirst (sym queue) (debts_first_append (queue_of old) number demand lack waker kept.debts_first);
          few = few;
          waiting = rw order (AllWaiting-push new.slots number old.order (rw updates.changed (some, within))
              (AllWaiting-updated old.slots new.slots number old.order updates.others absent kept.waiting));
          idle = λ m unlinked. elim (cases_eq m number) [
            | inl same ↦ absurd (linked-push number old.order (rw (same, order) at unlinked))
            | inr differs ↦ rw (updates.others m differs) (kept.idle m (unlinked-push m number old.order (rw order at unlinked)))
          ];
        };
        paid = omega (arith, part);
        longer = rw order (length-push old.order number);
      }

  -- a debt went to the head
  pub record Owing (old new : base.Waits (WaitRecord W)) (lack : ℕ) : Type 0 where
    pub queue : queue_of new ≡ (Owes, lack) ∷ queue_of old
    pub granted : granted_of new ≡ granted_of old
    pub cut : cut_of new ≡ cut_of old
    pub kept : IsQueue new
    pub paid : paid_in new ≡ paid_in old
    pub longer : length new.order ≡ length old.order + 1

  pub owing : (old new : base.Waits (WaitRecord W)) (number lack : ℕ) → get old number ≡ None → Updates old new number (Some (Debt lack))
      → new.order ≡ number ∷ old.order → 1 ≤ lack → value_count new < 2 ^ 64 → IsQueue old → Owing old new lack
  owing old new number lack fresh updates order some few kept =
      let absent = absent_from_none old.slots number old.order fresh kept.waiting in
      let sum = sum_by-updated paid_slot refl old.slots new.slots number updates.others in
      let part = rw (fresh, updates.changed) at sum in
      let queue : queue_of new ≡ (Owes, lack) ∷ queue_of old =
      rw (order, updates.changed) (ap (λ es. (Owes, lack) ∷ es) (entries-updated old.slots new.slots number old.order updates.others absent)) in
      record {
        queue = queue;
        granted = demands_updated grant_of refl old.slots new.slots number updates.others (rw (updates.changed, fresh) refl);
        cut = demands_updated cut_demand refl old.slots new.slots number updates.others (rw (updates.changed, fresh) refl);
        kept = record {
          distinct = rw order (absent, kept.distinct);
          waiting = rw order (rw updates.changed some, AllWaiting-updated old.slots new.slots number old.order updates.others absent kept.waiting);
          idle = λ m unlinked. elim (cases_eq m number) [
            | inl same ↦ absurd (linked_first number old.order (rw (same, order) at unlinked))
            | inr differs ↦ rw (updates.others m differs) (kept.idle m (unlinked_behind m number old.order differs (rw order at unlinked)))
          ];
          debts_first = subst HasDebtsFirst (sym queue) kept.debts_first;
          few = few;
        };
        paid = omega (arith, part);
        longer = rw order (let more : suc (length old.order) ≡ length old.order + 1 = omega arith in more);
      }

  -- a number with no value waits in no entry, is not granted and not cut
  pub waiting_absent : (slots : List (Option (WaitRecord W))) (n : ℕ) (ns : List ℕ) → IsAbsent n ns → waiting (entries slots ns) n ≡ None
  waiting_absent slots n [] absent = refl
  waiting_absent slots n (m ∷ ms) absent = by_slot (get_or slots m None) (waiting_absent slots n ms absent.1)
    where
      by_slot : (x : Option (WaitRecord W)) → waiting (entries slots ms) n ≡ None → waiting (entry m x ∷ entries slots ms) n ≡ None
      by_slot None rest = rest
      by_slot (Some (Acquire demand lack waker)) rest =
          let differs : eqb m n ≡ false = grind (arith, nat_tests, absent.0) in
          ap (λ b. cond b (Some (demand, lack)) (waiting (entries slots ms) n)) differs ∙ rest
      by_slot (Some (Debt lack)) rest = rest
      by_slot (Some (Granted demand)) rest = rest
      by_slot (Some (Cut demand)) rest = rest

  pub not_granted : (slots : List (Option (WaitRecord W))) (n : ℕ) → get_or slots n None ≡ None → fin.get (demands_by grant_of slots) n ≡ None
  not_granted slots n none = get-demands grant_of refl slots n ∙ ap grant_of none

  pub not_cut : (slots : List (Option (WaitRecord W))) (n : ℕ) → get_or slots n None ≡ None → fin.get (demands_by cut_demand slots) n ≡ None
  not_cut slots n none = get-demands cut_demand refl slots n ∙ ap cut_demand none

  -- the reserved places are no part of the queue
  pub IsQueue-spare : (w : base.Waits (WaitRecord W)) (spare : ℕ) → IsQueue w → IsQueue (record w { spare = spare })
  IsQueue-spare w spare kept = record { distinct = kept.distinct; waiting = kept.waiting; idle = kept.idle; debts_first = kept.debts_first; few = kept.few }
