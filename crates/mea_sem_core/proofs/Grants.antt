-- what it means for the queue that its first waiter was paid whole
use Rattle.std.proofs.Common.{◌≡◌, ◌≢◌, ℕ, ◌≤◌, false, ◌||◌, eqb, List, [], ◌∷◌, ◌++◌, drop, length, IsSome, Option, Some, None, refl, sym, ap, subst, ◌∙◌, inl, inr, arith}
use Rattle.std.proofs.lemmas.Bool.{cases_eq}
use Rattle.std.proofs.lemmas.Bool.Decides.{nat_tests}
use Rattle.std.specs.List.{list_any}
use Rattle.std.proofs.lemmas.List.{get_or-set_same, get_or-set_other, append-nil}
use Rattle.mea_base.specs.WaitList.{Waits, get, with_value, without, IsAbsent, Updates}
use Rattle.mea_base.proofs.Chains.{first-without}
use Rattle.mea_base.specs.Outbox.{Wakes}
use Rattle.mea_base.proofs.Waits.{in_use_within, sum_by-updated}
use Rattle.mea_sem_core.specs.declared.wait_record.WaitRecord.{WaitRecord}
use Rattle.mea_sem_core.specs.declared.wait_record.WaitRecord.TheVariants.{Acquire, Debt, Granted, Cut}
use Rattle.mea_sem_core.specs.Core.{Waiter, Acquires, Owes, HasDebtsFirst}
use Rattle.mea_sem_core.specs.Places.{entry, entries, grant_of, cut_demand, IsIdle, IsWaiting, IsQueue, GrantsFirst, after_grant, waker_of, paid_slot}
use Rattle.mea_sem_core.proofs.Debts.{debts_first_tail}
use Rattle.mea_sem_core.proofs.Places.{entries-updated, AllWaiting-updated, demands_updated, demands_inserted, count_updated}

-- a number is not found behind another
pub unlinked_before : (m n : ℕ) (ns : List ℕ) → m ≢ n → list_any (λ k. eqb k m) ns ≡ false → list_any (λ k. eqb k m) (n ∷ ns) ≡ false
unlinked_before m n ns differs none =
    let other : eqb n m ≡ false = grind (arith, nat_tests, differs) in
    ap (λ b. b || list_any (λ k. eqb k m) ns) other ∙ none

module _ {W : Type 0} where
  -- each write through `get_mut(n)` changes that number alone
  pub Updates-with_value : (w : Waits (WaitRecord W)) (n : ℕ) (value : WaitRecord W) → IsSome (get w n) → Updates w (with_value w n value) n (Some value)
  Updates-with_value w n value used =
      record {
        changed = get_or-set_same w.slots n (Some value) None (in_use_within w.slots n used);
        others = λ other differs. get_or-set_other w.slots n other (Some value) None differs;
      }

  -- two changes of one number
  pub Updates-Updates : (u v w : Waits (WaitRecord W)) (n : ℕ) (a b : Option (WaitRecord W)) → Updates u v n a → Updates v w n b → Updates u w n b
  Updates-Updates u v w n a b first second =
      record { changed = second.changed; others = λ other differs. second.others other differs ∙ first.others other differs }

  -- the first number was unlinked
  pub record UnlinksFirst (old mid : Waits (WaitRecord W)) (n : ℕ) : Type 0 where
    pub is : old ≡ record mid { order = n ∷ mid.order }
    pub absent : IsAbsent n mid.order

  pub unlinks_first : (old mid : Waits (WaitRecord W)) (n : ℕ) → IsQueue old → old.order ≡ n ∷ drop 1 old.order
      → mid ≡ record old { order = without n old.order } → UnlinksFirst old mid n
  unlinks_first old mid n kept first is =
      let order = first-without n old.order first kept.distinct in
      let distinct = kept.distinct in
      let rest = rw order at distinct in
      rw is record { is = λ i. record { order = order i; slots = old.slots; spare = old.spare }; absent = rest.0 }

  pub waiting_used : (x : Option (WaitRecord W)) → IsWaiting x → IsSome x
  waiting_used None waits = absurd waits
  waiting_used (Some x) waits = refl

  pub first_used : (w : Waits (WaitRecord W)) (n : ℕ) → IsQueue w → w.order ≡ n ∷ drop 1 w.order → IsSome (get w n)
  first_used w n kept first = let waiting = kept.waiting in let all = rw first at waiting in waiting_used (get w n) all.0

  module _ (mid new : Waits (WaitRecord W)) (n : ℕ) (slot : Option (WaitRecord W)) (box box' : Wakes W) (absent : IsAbsent n mid.order)
      (updates : Updates mid new n slot) (order : new.order ≡ mid.order) where
    rest_is : entries new.slots new.order ≡ entries mid.slots mid.order
    rest_is = rw order (entries-updated mid.slots new.slots n mid.order updates.others absent)

    -- the queue behind the first waiter stays sound
    kept_after : IsQueue (record mid { order = n ∷ mid.order }) → IsSome (get mid n) → IsIdle slot → IsQueue new
    kept_after kept used idle =
        record {
          distinct = rw order kept.distinct.1;
          waiting = rw order (AllWaiting-updated mid.slots new.slots n mid.order updates.others absent kept.waiting.1);
          idle = λ m unlinked. elim (cases_eq m n) [
            | inl same ↦ rw (same, updates.changed) idle
            | inr differs ↦ rw (updates.others m differs) (kept.idle m (unlinked_before m n mid.order differs (rw (← order) unlinked)))
          ];
          debts_first = let first = debts_first_tail (entry n (get mid n)) (entries mid.slots mid.order) kept.debts_first in
              subst HasDebtsFirst (sym rest_is) first;
          few = let count = count_updated mid.slots new.slots n updates.others in
              let counted = rw used at count in
              grind (arith, counted, kept.few);
        }

    -- an acquire was granted
    pub grants_acquire : (x : WaitRecord W) (w : W) → get mid n ≡ Some x → Some w ≡ waker_of x → slot ≡ Some (after_grant x)
        → IsQueue (record mid { order = n ∷ mid.order }) → box'.wakers ≡ box.wakers ++ w ∷ [] → length new.order ≤ box'.spare
        → (first : Waiter W × ℕ) × GrantsFirst (record mid { order = n ∷ mid.order }) new box box' first
    grants_acquire (Acquire demand lack waker) w found is written kept sent room =
        let same : w ≡ waker = cc in (
          (Acquires n demand waker, lack),
          record {
            queue = rw found (ap (λ es. (Acquires n demand waker, lack) ∷ es) (sym rest_is));
            granted = demands_inserted grant_of refl mid.slots new.slots n demand updates.others (rw (updates.changed, written) refl);
            cut = demands_updated cut_demand refl mid.slots new.slots n updates.others (rw (updates.changed, written, found) refl);
            wakers = rw (← same) sent;
            kept = kept_after kept (rw found refl) (rw written tt);
            room = room;
            shorter = omega (arith, ap length order);
            paid = let sum = sum_by-updated paid_slot refl mid.slots new.slots n updates.others in
                let part = rw (found, updates.changed, written) at sum in
                let waits = kept.waiting.0 in
                let lacking = rw found at waits in
                omega (arith, part, lacking.1);
          },
        )
    grants_acquire (Debt lack) w found is written kept sent room = absurd (cc)
    grants_acquire (Granted demand) w found is written kept sent room = absurd (cc)
    grants_acquire (Cut demand) w found is written kept sent room = absurd (cc)

    -- a debt was paid, and is gone
    pub grants_debt : (x : WaitRecord W) → get mid n ≡ Some x → None ≡ waker_of x → slot ≡ None → IsQueue (record mid { order = n ∷ mid.order })
        → box'.wakers ≡ box.wakers → length new.order ≤ box'.spare
        → (first : Waiter W × ℕ) × GrantsFirst (record mid { order = n ∷ mid.order }) new box box' first
    grants_debt (Acquire demand lack waker) found is written kept sent room = absurd (cc)
    grants_debt (Granted demand) found is written kept sent room = absurd (let waits = kept.waiting.0 in rw found at waits)
    grants_debt (Cut demand) found is written kept sent room = absurd (let waits = kept.waiting.0 in rw found at waits)
    grants_debt (Debt lack) found is written kept sent room = (
      (Owes, lack),
      record {
        queue = rw found (ap (λ es. (Owes, lack) ∷ es) (sym rest_is));
        granted = demands_updated grant_of refl mid.slots new.slots n updates.others (rw (updates.changed, written, found) refl);
        cut = demands_updated cut_demand refl mid.slots new.slots n updates.others (rw (updates.changed, written, found) refl);
        wakers = sent ∙ sym (append-nil box.wakers);
        kept = kept_after kept (rw found refl) (rw written tt);
        room = room;
        shorter = omega (arith, ap length order);
        paid = let sum = sum_by-updated paid_slot refl mid.slots new.slots n updates.others in
            let part = rw (found, updates.changed, written) at sum in
            omega (arith, part);
      },
    )
