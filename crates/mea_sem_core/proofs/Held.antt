-- what is paid, and how many wait, were granted or were cut, by the places and by the queue and the pairs
use Rattle.std.proofs.Common.{◌≡◌, ◌≢◌, ℕ, zero, suc, ◌+◌, ◌<◌, true, false, cond, eqb, List, [], ◌∷◌, length, get_or, set, Option, Some, None, is_some, Ordering, sum_by, refl, sym, ap, ◌∙◌, inl, inr, arith}
use Rattle.std.proofs.lemmas.Bool.{cases_eq}
use Rattle.std.proofs.lemmas.List.{get_or-set_same, get_or-set_other, nil_from_length}
use Rattle.std.proofs.lemmas.List.Sums.{sum_by-cons, sum-map}
use Rattle.std.specs.List.{list_any}
use Rattle.std.specs.Ordering.{nat_cmp, is_eq}
use Rattle.std.specs.Cmp.{nat_cmp_total}
use Rattle.std.specs.declared.cmp.Ordering.TheVariants.{Less, Equal, Greater}
use Rattle.std.specs.FinMap as fin
use Rattle.std.specs.FinMap.{find, put, entries, entries-insert, get-entries, get-from_entries, len-entries, len-empty}
use Rattle.mea_base.specs.WaitList.{IsDistinct}
use Rattle.mea_base.specs.WaitList as base
use Rattle.mea_base.proofs.Waits.{sum_by-updated}
use Rattle.mea_sem_core.specs.declared.wait_record.WaitRecord.{WaitRecord}
use Rattle.mea_sem_core.specs.declared.wait_record.WaitRecord.TheVariants.{Acquire, Debt, Granted, Cut}
use Rattle.mea_sem_core.specs.Core.{Waiter, paid_to, paid_waiting}
use Rattle.mea_sem_core.specs.Places as q
use Rattle.mea_sem_core.specs.Places.{entry, queue_of, granted_of, cut_of, grant_of, cut_demand, cons_pair, pairs_from, demands_by, IsWaiting, IsIdle, AllWaiting, IsQueue, paid_slot, paid_in}
use Rattle.mea_sem_core.proofs.Places.{entries-updated, AllWaiting-updated, find_before}
use Rattle.mea_sem_core.proofs.Grants.{unlinked_before}

-- a sum over the values of a map with one more pair
sum-put : (f : ℕ → ℕ) (k v : ℕ) (es : List (ℕ × ℕ)) → find nat_cmp k es ≡ None → sum_by (λ e. f e.1) (put nat_cmp k v es) ≡ sum_by (λ e. f e.1) es + f v
sum-put f k v [] none = omega arith
sum-put f k v (e ∷ es) none = by_order (nat_cmp k e.0) refl (sum-put f k v es)
  where
    by_order : (r : Ordering) → nat_cmp k e.0 ≡ r → (find nat_cmp k es ≡ None → sum_by (λ e. f e.1) (put nat_cmp k v es) ≡ sum_by (λ e. f e.1) es + f v)
        → sum_by (λ e. f e.1) (put nat_cmp k v (e ∷ es)) ≡ sum_by (λ e. f e.1) (e ∷ es) + f v
    by_order Less is more = rw is (omega (arith, sum_by-cons (λ (p : ℕ × ℕ). f p.1) (k, v) (e ∷ es)))
    by_order Equal is more = absurd (let tied : is_eq (nat_cmp k e.0) ≡ true = rw is refl in let found = rw tied at none in cc)
    by_order Greater is more =
        let untied : is_eq (nat_cmp k e.0) ≡ false = rw is refl in
        let rest = more (rw untied at none) in
        rw is (omega (arith, rest, sum_by-cons (λ (p : ℕ × ℕ). f p.1) e es, sum_by-cons (λ (p : ℕ × ℕ). f p.1) e (put nat_cmp k v es)))

-- what a slot adds to such a sum
abbrev of_demand : (ℕ → ℕ) → Option ℕ → ℕ
of_demand f None = 0
of_demand f (Some d) = f d

sum-ones : {X : Type 0} (xs : List X) → sum_by (λ _. 1) xs ≡ length xs
sum-ones [] = refl
sum-ones {X} (x ∷ xs) = omega (arith, sum_by-cons {X = X} (λ _. 1) x xs, sum-ones xs)

sum-both : {X : Type 0} (f g h : X → ℕ) (xs : List X) → ((x : X) → h x ≡ f x + g x) → sum_by h xs ≡ sum_by f xs + sum_by g xs
sum-both f g h [] both = refl
sum-both f g h (x ∷ xs) both =
    omega (arith, sum_by-cons f x xs, sum_by-cons g x xs, sum_by-cons h x xs, sum-both f g h xs both, both x)

module _ {W : Type 0} where
  sum-demands : (f : ℕ → ℕ) (demand : Option (WaitRecord W) → Option ℕ) → demand None ≡ None → (k : ℕ) (slots : List (Option (WaitRecord W)))
      → sum_by (λ e. f e.1) (entries (fin.from_entries {R = nat_cmp} (pairs_from demand k slots))) ≡ sum_by (λ s. of_demand f (demand s)) slots
  sum-demands f demand nothing k [] =
      ap (sum_by (λ e. f e.1)) (nil_from_length _ (sym (len-entries (fin.empty {X = ℕ} {R = nat_cmp})) ∙ len-empty nat_cmp ℕ))
  sum-demands f demand nothing k (slot ∷ rest) =
      by_demand (demand slot) (sum-demands f demand nothing (k + 1) rest) ∙ sym (sum_by-cons (λ (s : Option (WaitRecord W)). of_demand f (demand s)) slot rest)
    where
      by_demand : (o : Option ℕ)
          → sum_by (λ e. f e.1) (entries (fin.from_entries {R = nat_cmp} (pairs_from demand (k + 1) rest))) ≡ sum_by (λ s. of_demand f (demand s)) rest
          → sum_by (λ e. f e.1) (entries (fin.from_entries {R = nat_cmp} (cons_pair k o (pairs_from demand (k + 1) rest))))
          ≡ of_demand f o + sum_by (λ s. of_demand f (demand s)) rest
      by_demand None so = omega (arith, so)
      by_demand (Some d) so =
          let m = fin.from_entries {R = nat_cmp} (pairs_from demand (k + 1) rest) in
          let fresh : find nat_cmp k (entries m) ≡ None = sym (get-entries m k) ∙ get-from_entries nat_cmp_total (pairs_from demand (k + 1) rest) k
          ∙ find_before demand nothing k (k + 1) rest (omega arith) in
          ap (sum_by (λ e. f e.1)) (entries-insert nat_cmp_total m k d) ∙ sum-put f k d (entries m) fresh ∙ omega (arith, so)

  -- how many pairs there are
  len-demands : (demand : Option (WaitRecord W) → Option ℕ) → demand None ≡ None → (slots : List (Option (WaitRecord W)))
      → fin.len (demands_by demand slots) ≡ sum_by (λ s. of_demand (λ _. 1) (demand s)) slots
  len-demands demand nothing slots =
      len-entries (demands_by demand slots) ∙ sym (sum-ones (entries (demands_by demand slots))) ∙ sum-demands (λ _. 1) demand nothing 0 slots

  within : (slots : List (Option (WaitRecord W))) (n : ℕ) → IsWaiting (get_or slots n None) → n < length slots
  within [] n waits = absurd waits
  within (s ∷ ss) zero waits = omega arith
  within (s ∷ ss) (suc n) waits = omega (arith, within ss n waits)

  -- a sum over all slots is one over the queue and one over the slots that are idle
  module _ (f g : Option (WaitRecord W) → ℕ) (e : Waiter W × ℕ → ℕ) (f_none : f None ≡ 0) (g_none : g None ≡ 0)
      (idle_slot : (s : Option (WaitRecord W)) → IsIdle s → f s ≡ g s)
      (waiting_slot : (n : ℕ) (s : Option (WaitRecord W)) → IsWaiting s → (g s ≡ 0) × (e (entry n s) ≡ f s)) where
    sum-idle : (slots : List (Option (WaitRecord W))) → ((n : ℕ) → IsIdle (get_or slots n None)) → sum_by f slots ≡ sum_by g slots
    sum-idle [] idle = refl
    sum-idle (s ∷ ss) idle = omega (arith, sum-idle ss (λ n. idle (suc n)), sum_by-cons f s ss, sum_by-cons g s ss, idle_slot s (idle 0))

    sum-order : (slots : List (Option (WaitRecord W))) (ns : List ℕ) → IsDistinct ns → AllWaiting slots ns
        → ((m : ℕ) → list_any (λ k. eqb k m) ns ≡ false → IsIdle (get_or slots m None))
        → sum_by f slots ≡ sum_by e (q.entries slots ns) + sum_by g slots
    sum-order slots [] distinct all idle = let same = sum-idle slots (λ n. idle n refl) in omega (arith, same)
    sum-order slots (n ∷ ns) distinct all idle =
        let gone = set slots n None in
        let here : get_or gone n None ≡ None = get_or-set_same slots n None None (within slots n all.0) in
        let others : (k : ℕ) → k ≢ n → get_or gone k None ≡ get_or slots k None = λ k differs. get_or-set_other slots n k None None differs in
        let rest = sum-order gone ns distinct.1 (AllWaiting-updated slots gone n ns others distinct.0 all.1) (λ m unlinked. elim (cases_eq m n) [
          | inl same ↦ rw (same, here) tt
          | inr differs ↦ rw (others m differs) (idle m (unlinked_before m n ns differs unlinked))
        ]) in
        let kept = entries-updated slots gone n ns others distinct.0 in
        let slot = waiting_slot n (get_or slots n None) all.0 in
        let all_part = sum_by-updated f f_none slots gone n others in
        let idle_part = sum_by-updated g g_none slots gone n others in
        let all_here = rw (here, f_none) at all_part in
        let idle_here = rw (here, g_none) at idle_part in
        let queue = rw kept at rest in
        omega (arith, queue, all_here, idle_here, slot.0, slot.1, sum_by-cons e (entry n (get_or slots n None)) (q.entries slots ns))

  -- ---- what is paid
  idle_paid : (s : Option (WaitRecord W)) → IsIdle s → paid_slot s ≡ of_demand (λ d. d) (grant_of s)
  idle_paid None idle = refl
  idle_paid (Some (Acquire d l w)) idle = absurd idle
  idle_paid (Some (Debt l)) idle = absurd idle
  idle_paid (Some (Granted d)) idle = refl
  idle_paid (Some (Cut d)) idle = refl

  waiting_paid : (n : ℕ) (s : Option (WaitRecord W)) → IsWaiting s
      → (of_demand (λ d. d) (grant_of s) ≡ 0) × (paid_to (entry n s).0 (entry n s).1 ≡ paid_slot s)
  waiting_paid n None waits = absurd waits
  waiting_paid n (Some (Acquire d l w)) waits = (refl, refl)
  waiting_paid n (Some (Debt l)) waits = (refl, refl)
  waiting_paid n (Some (Granted d)) waits = absurd waits
  waiting_paid n (Some (Cut d)) waits = absurd waits

  -- what the model calls paid
  pub paid-view : (w : base.Waits (WaitRecord W)) → IsQueue w → paid_in w ≡ paid_waiting (queue_of w) + sum_by (λ d. d) (fin.values (granted_of w))
  paid-view w kept =
      sum-order paid_slot (λ s. of_demand (λ d. d) (grant_of s)) (λ e. paid_to e.0 e.1) refl refl idle_paid waiting_paid w.slots w.order
      kept.distinct kept.waiting kept.idle
      ∙ ap (λ g. paid_waiting (queue_of w) + g)
      (sym (sum-demands (λ d. d) grant_of refl 0 w.slots) ∙ sym (sum-map (λ e. e.1) (entries (granted_of w))))

  -- ---- how many values there are
  abbrev slot_count : Option (WaitRecord W) → ℕ
  slot_count s = cond (is_some s) 1 0

  abbrev idle_count : Option (WaitRecord W) → ℕ
  idle_count s = of_demand (λ _. 1) (grant_of s) + of_demand (λ _. 1) (cut_demand s)

  idle_counted : (s : Option (WaitRecord W)) → IsIdle s → slot_count s ≡ idle_count s
  idle_counted None idle = refl
  idle_counted (Some (Acquire d l w)) idle = absurd idle
  idle_counted (Some (Debt l)) idle = absurd idle
  idle_counted (Some (Granted d)) idle = refl
  idle_counted (Some (Cut d)) idle = refl

  waiting_counted : (n : ℕ) (s : Option (WaitRecord W)) → IsWaiting s → (idle_count s ≡ 0) × (slot_count s ≡ 1)
  waiting_counted n None waits = absurd waits
  waiting_counted n (Some (Acquire d l w)) waits = (refl, refl)
  waiting_counted n (Some (Debt l)) waits = (refl, refl)
  waiting_counted n (Some (Granted d)) waits = absurd waits
  waiting_counted n (Some (Cut d)) waits = absurd waits

  -- those that wait, were granted or were cut are the values of the list
  pub count-view : (w : base.Waits (WaitRecord W)) → IsQueue w → length (queue_of w) + fin.len (granted_of w) + fin.len (cut_of w) ≡ base.value_count w
  count-view w kept =
      let all = sum-order slot_count idle_count (λ _. 1) refl refl idle_counted (λ n s waits. ((waiting_counted n s waits).0, sym (waiting_counted n s waits).1)) w.slots w.order
      kept.distinct kept.waiting kept.idle in
      let both = sum-both (λ s. of_demand (λ _. 1) (grant_of s)) (λ s. of_demand (λ _. 1) (cut_demand s)) idle_count w.slots (λ _. refl) in
      omega (arith, all, both, len-demands grant_of refl w.slots, len-demands cut_demand refl w.slots, sum-ones (queue_of w))
