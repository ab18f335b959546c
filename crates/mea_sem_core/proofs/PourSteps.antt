-- the loop of a pour: what is still to be poured gives what the whole pour gives
use Rattle.std.proofs.Common.{◌≡◌, ℕ, ◌+◌, ◌-◌, ◌*◌, ◌<◌, ◌≤◌, min, true, false, eqb, List, [], ◌∷◌, ◌++◌, length, Some, refl, sym, ap, subst, ◌∙◌, inl, inr, arith, append_assoc}
use Rattle.std.proofs.lemmas.Bool.{cases_eq}
use Rattle.std.proofs.lemmas.Bool.Decides.{nat_tests}
use Rattle.std.specs.List.{list_any}
use Rattle.std.proofs.lemmas.List.{append-nil}
use Rattle.mea_base.specs.WaitList.{Waits, get, with_value}
use Rattle.mea_base.specs.Outbox.{Wakes}
use Rattle.mea_base.specs.Queue.{lacks, waiting_after, granted_in}
use Rattle.mea_base.proofs.Waits.{sum_by-updated}
use Rattle.mea_sem_core.specs.declared.wait_record.WaitRecord.{WaitRecord}
use Rattle.mea_sem_core.specs.declared.wait_record.WaitRecord.TheVariants.{Acquire, Debt, Granted, Cut}
use Rattle.mea_sem_core.specs.Core.{Waiter, Acquires, Owes, debt_of, paid_to_debts, granting, wakers_of, HasDebtsFirst}
use Rattle.mea_sem_core.specs.Places.{entry, entries, queue_of, granted_of, cut_of, grant_of, cut_demand, IsWaiting, IsQueue, GrantsFirst, Pours, after_payment, lack_of, debt_in, paid_slot, paid_in}
use Rattle.mea_sem_core.proofs.Debts.{debts_first_part}
use Rattle.mea_sem_core.proofs.Pours.{waiting_whole, granted_whole, waiting_part, granted_part, debts_whole, debts_part, lacks-cons, granting-append, wakers-append}
use Rattle.mea_sem_core.proofs.Places.{entries-updated, AllWaiting-updated, AllLack-entries, demands_updated, count_updated}
use Rattle.mea_sem_core.proofs.Grants.{Updates-with_value}

-- the first number is found
pub linked_first : (n : ℕ) (ns : List ℕ) → list_any (λ k. eqb k n) (n ∷ ns) ≡ false → ⊥
linked_first n ns none =
    let same : eqb n n ≡ true = grind (arith, nat_tests) in
    let found = rw same at none in
    absurd (cc)

module _ {W : Type 0} where
  -- from `now` on, the rest pours to what the whole amount pours to from `start`
  pub record Continues (start now : Waits (WaitRecord W)) (start_box now_box : Wakes W) (amount rest to_debts : ℕ) : Type 0 where
    pub queue : waiting_after (queue_of now) rest ≡ waiting_after (queue_of start) amount
    pub granted : granting (granted_of now) (granted_in (queue_of now) rest) ≡ granting (granted_of start) (granted_in (queue_of start) amount)
    pub cut : cut_of now ≡ cut_of start
    pub wakers : now_box.wakers ++ wakers_of (granted_in (queue_of now) rest) ≡ start_box.wakers ++ wakers_of (granted_in (queue_of start) amount)
    pub left : rest - lacks (queue_of now) ≡ amount - lacks (queue_of start)
    pub debts : to_debts + paid_to_debts (queue_of now) rest ≡ paid_to_debts (queue_of start) amount
    pub bound : to_debts + rest ≤ amount
    pub kept : IsQueue now
    pub room : length now.order ≤ now_box.spare
    pub paid : paid_in now + rest + to_debts ≡ paid_in start + amount

  -- six steps for each waiter that has left, at the most
  abbrev pub Counts : Waits (WaitRecord W) → Waits (WaitRecord W) → ℕ → ℕ → Type 0
  Counts start now started steps = steps + 6 * length now.order ≤ started + 6 * length start.order

  -- a grant of the first waiter is a step of the pour
  Continues-grant : (start now next : Waits (WaitRecord W)) (start_box now_box next_box : Wakes W) (amount rest to_debts : ℕ) (e : Waiter W × ℕ)
      → Continues start now start_box now_box amount rest to_debts → GrantsFirst now next now_box next_box e → e.1 ≤ rest → debt_of e.0 e.1 ≤ e.1
      → Continues start next start_box next_box amount (rest - e.1) (to_debts + debt_of e.0 e.1)
  Continues-grant start now next start_box now_box next_box amount rest to_debts e so grants enough part =
      let paid = granted_whole e (queue_of next) rest enough in
      let queue = rw grants.queue at so.queue in
      let granted = rw (grants.queue, paid) at so.granted in
      let wakers = rw (grants.queue, paid) at so.wakers in
      let left = rw grants.queue at so.left in
      let debts = rw (grants.queue, debts_whole e (queue_of next) rest enough) at so.debts in
      record {
        queue = sym (waiting_whole e (queue_of next) rest enough) ∙ queue;
        granted = rw grants.granted (sym (granting-append (granted_of now) (e.0 ∷ []) _) ∙ granted);
        cut = grants.cut ∙ so.cut;
        wakers = rw grants.wakers (append_assoc now_box.wakers (wakers_of (e.0 ∷ [])) _
            ∙ ap (λ ws. now_box.wakers ++ ws) (sym (wakers-append (e.0 ∷ []) _)) ∙ wakers);
        left = omega (arith, left, lacks-cons e (queue_of next));
        debts = omega (arith, debts);
        bound = omega (arith, so.bound);
        kept = grants.kept;
        room = grants.room;
        paid = omega (arith, grants.paid, so.paid);
      }

  lack_of-entry : (n : ℕ) (x : WaitRecord W) → (entry n (Some x)).1 ≡ lack_of x
  lack_of-entry n (Acquire _ _ _) = refl
  lack_of-entry n (Debt _) = refl
  lack_of-entry n (Granted _) = refl
  lack_of-entry n (Cut _) = refl

  -- the entry of a waiter that was paid a part
  paid_entry : (n : ℕ) (x : WaitRecord W) (rest : ℕ) → rest < lack_of x → entry n (Some (after_payment x rest)) ≡ ((entry n (Some x)).0, (entry n (Some x)).1 - rest)
  paid_entry n (Acquire demand lack waker) rest short = refl
  paid_entry n (Debt lack) rest short = refl
  paid_entry n (Granted demand) rest short = absurd (omega arith)
  paid_entry n (Cut demand) rest short = absurd (omega arith)

  waits_after : (x : WaitRecord W) (rest : ℕ) → rest < lack_of x → IsWaiting (Some x) → IsWaiting (Some (after_payment x rest))
  waits_after (Acquire demand lack waker) rest short waits = (omega arith, omega (arith, waits.1))
  waits_after (Debt lack) rest short waits = omega arith
  waits_after (Granted demand) rest short waits = waits
  waits_after (Cut demand) rest short waits = waits

  -- a part payment goes to the acquire or to the debt
  paid_part_of : (n : ℕ) (x : WaitRecord W) (rest : ℕ) → rest < lack_of x → IsWaiting (Some x)
      → paid_slot (Some (after_payment x rest)) + debt_of (entry n (Some x)).0 rest ≡ paid_slot (Some x) + rest
  paid_part_of n (Acquire demand lack waker) rest short waits = omega (arith, waits.1)
  paid_part_of n (Debt lack) rest short waits = omega arith
  paid_part_of n (Granted demand) rest short waits = absurd waits
  paid_part_of n (Cut demand) rest short waits = absurd waits

  no_grant : (x : WaitRecord W) (rest : ℕ) → IsWaiting (Some x) → grant_of (Some (after_payment x rest)) ≡ grant_of (Some x)
  no_grant (Acquire demand lack waker) rest waits = refl
  no_grant (Debt lack) rest waits = refl
  no_grant (Granted demand) rest waits = absurd waits
  no_grant (Cut demand) rest waits = refl

  no_cut : (x : WaitRecord W) (rest : ℕ) → cut_demand (Some (after_payment x rest)) ≡ cut_demand (Some x)
  no_cut (Acquire demand lack waker) rest = refl
  no_cut (Debt lack) rest = refl
  no_cut (Granted demand) rest = refl
  no_cut (Cut demand) rest = refl

  -- a part payment of the first waiter is the end of the pour
  Pours-part : (start now : Waits (WaitRecord W)) (start_box now_box : Wakes W) (amount rest to_debts n : ℕ) (ns : List ℕ) (x : WaitRecord W)
      → Continues start now start_box now_box amount rest to_debts → now.order ≡ n ∷ ns → get now n ≡ Some x → rest < lack_of x
      → Pours start (with_value now n (after_payment x rest)) start_box now_box amount × (0 ≡ amount - lacks (queue_of start))
      × (to_debts + debt_of (entry n (Some x)).0 rest ≡ paid_to_debts (queue_of start) amount)
  Pours-part start now start_box now_box amount rest to_debts n ns x so order found short =
      let new = with_value now n (after_payment x rest) in
      let e = entry n (Some x) in
      let es = entries now.slots ns in
      let kept = so.kept in
      let all_waiting = rw order at kept.waiting in
      let waits = rw found at all_waiting.0 in
      let distinct = rw order at kept.distinct in
      let updates = Updates-with_value now n (after_payment x rest) (rw found refl) in
      let was : queue_of now ≡ e ∷ es = rw (order, found) refl in
      let is : queue_of new ≡ (e.0, e.1 - rest) ∷ es = rw (order, updates.changed, entries-updated now.slots new.slots n ns updates.others distinct.0)
      (ap (λ first. first ∷ es) (paid_entry n x rest short)) in
      let less : rest < e.1 = rw (lack_of-entry n x) short in
      let lacking = AllLack-entries now.slots ns all_waiting.1 in
      let queue = rw was at so.queue in
      let none = rw (was, granted_part e es rest less lacking) at so.granted in
      let wakers = rw (was, granted_part e es rest less lacking) at so.wakers in
      let debts = rw (was, debts_part e es rest less lacking) at so.debts in
      let left = rw was at so.left in
      let first = rw was at kept.debts_first in (
        record {
          queue = is ∙ sym (waiting_part e es rest less lacking) ∙ queue;
          granted = demands_updated grant_of refl now.slots new.slots n updates.others (rw (updates.changed, found) (no_grant x rest waits)) ∙ none;
          cut = demands_updated cut_demand refl now.slots new.slots n updates.others (rw (updates.changed, found) (no_cut x rest)) ∙ so.cut;
          wakers = sym (append-nil now_box.wakers) ∙ wakers;
          kept = record {
            distinct = kept.distinct;
            waiting = rw order (
              rw updates.changed
                  (waits_after x rest short waits),
              AllWaiting-updated now.slots new.slots n ns updates.others distinct.0 all_waiting.1,
            );
            idle = λ m unlinked. elim (cases_eq m n) [
              | inl same ↦ absurd (linked_first n ns (rw (same, order) at unlinked))
              | inr differs ↦ rw (updates.others m differs) (kept.idle m unlinked)
            ];
            debts_first = subst HasDebtsFirst (sym is) (debts_first_part e es (e.1 - rest) first);
            few = let count = count_updated now.slots new.slots n updates.others in
                let counted = rw (found, updates.changed) at count in
                omega (arith, counted, kept.few);
          };
          room = so.room;
          paid =
              let sum = sum_by-updated paid_slot refl now.slots new.slots n updates.others in
              let part = rw (found, updates.changed) at sum in
              omega (arith, part, paid_part_of n x rest short waits, so.paid, left, debts, lacks-cons e es, less);
        },
        omega (arith, left, lacks-cons e es, less),
        debts,
      )

  debt_of-entry : (n : ℕ) (x : WaitRecord W) (rest : ℕ) → debt_of (entry n (Some x)).0 (min (lack_of x) rest) ≡ min (debt_in x) rest
  debt_of-entry n (Acquire _ _ _) rest = omega arith
  debt_of-entry n (Debt lack) rest = refl
  debt_of-entry n (Granted _) rest = omega arith
  debt_of-entry n (Cut _) rest = omega arith

  debt_of-within : (x : Waiter W) (n : ℕ) → debt_of x n ≤ n
  debt_of-within (Acquires _ _ _) n = omega arith
  debt_of-within Owes n = omega arith

  -- one turn of the loop that grants
  pub Continues-turn : (start now next : Waits (WaitRecord W)) (start_box now_box next_box : Wakes W) (amount rest to_debts n : ℕ) (ns : List ℕ)
      (x : WaitRecord W) → Continues start now start_box now_box amount rest to_debts → now.order ≡ n ∷ ns → get now n ≡ Some x → lack_of x ≤ rest
      → (e : Waiter W × ℕ) × GrantsFirst now next now_box next_box e
      → Continues start next start_box next_box amount (rest - lack_of x) (to_debts + min (debt_in x) rest)
  Continues-turn start now next start_box now_box next_box amount rest to_debts n ns x so order found enough grants =
      let first = grants.0 in
      let was : queue_of now ≡ entry n (Some x) ∷ entries now.slots ns = rw (order, found) refl in
      let split = grants.1.queue in
      let same : first ≡ entry n (Some x) = cc in
      let lack : first.1 ≡ lack_of x = rw same (lack_of-entry n x) in
      let whole : min (lack_of x) rest ≡ lack_of x = omega arith in
      let debt : debt_of first.0 first.1 ≡ min (debt_in x) rest = rw (lack, same, ← debt_of-entry n x rest, whole) refl in
      let turn = Continues-grant start now next start_box now_box next_box amount rest to_debts first so grants.1 (rw lack enough)
      (debt_of-within first.0 first.1) in
      rw (← lack, ← debt) turn

  -- and the turn that pays a part
  pub Pours-turn : (start now : Waits (WaitRecord W)) (start_box now_box : Wakes W) (amount rest to_debts n : ℕ) (ns : List ℕ) (x y : WaitRecord W)
      → Continues start now start_box now_box amount rest to_debts → now.order ≡ n ∷ ns → get now n ≡ Some x → y ≡ after_payment x rest
      → rest < lack_of x → Pours start (with_value now n y) start_box now_box amount × (0 ≡ amount - lacks (queue_of start))
      × (to_debts + min (debt_in x) rest ≡ paid_to_debts (queue_of start) amount)
  Pours-turn start now start_box now_box amount rest to_debts n ns x y so order found paid short =
      let part = Pours-part start now start_box now_box amount rest to_debts n ns x so order found short in
      let short_rest : min (lack_of x) rest ≡ rest = omega arith in
      let debt : debt_of (entry n (Some x)).0 rest ≡ min (debt_in x) rest = rw (← debt_of-entry n x rest, short_rest) refl in
      (rw paid part.0, part.1, rw (← debt) part.2)
