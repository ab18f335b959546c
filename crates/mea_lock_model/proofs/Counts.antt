-- how many wakers are registered after an event
use Rattle.std.proofs.Common.{◌≡◌, ℕ, ◌+◌, ◌≤◌, Bool, true, false, cond, [], length, nat_lt, Some, None, refl, ap, arith}
use Rattle.std.proofs.lemmas.Bool.{eq-eqb}
use Rattle.std.proofs.lemmas.List.{length-append}
use Rattle.std.specs.FinMap.{get, insert}
use Rattle.mea_family.specs.declared.answer.Answer.TheVariants as answers
use Rattle.mea_family.specs.Family.{Outcome, quietly, is_pending}
use Rattle.mea_base.proofs.Maps.{get-there}
use Rattle.mea_by_name.specs.NamedQueue.{Waiting, waits}
use Rattle.mea_by_name.proofs.Cases.{by_found, by_if}
use Rattle.mea_by_name.proofs.LackingQueues.{local_rewoken, local_poured}
use Rattle.mea_by_name.proofs.OneObject.{Counted, counted_put, goes_counted}
use Rattle.mea_events.specs.declared.lock_event.LockEvent.{LockEvent}
use Rattle.mea_lock_model.specs.Locks as locks
use Rattle.mea_lock_model.specs.Locks.{Lock, LockFuture, Locks, Until, goes_on, was_polled, waiting_at, taken_from, size}
use Rattle.mea_lock_model.specs.Condvars as condvars
use Rattle.mea_lock_model.specs.Condvars.{Condvars, CondWait, until_of, queue_of}
use Rattle.mea_lock_model.specs.Actions.{Action, Hand, PollUntil, EndWait, act_in, registers_in}
use Rattle.mea_lock_model.specs.CondActions.{CondAction, Make, Wait, Poll, One, All, End, Drop, act_on, on_condvars, on_both, told_by, poll_wait, polled_on, ends_on, registers_on}
use Rattle.mea_lock_model.specs.LockHall.{LockHall, Mutexes, RwLocks, registered}
use Rattle.mea_lock_model.specs.Meaning.{Meaning, OnLocks, OnCondvars, meaning_of, step_by, step, registers_by, registers}
use Rattle.mea_lock_model.proofs.Acting.{goes, owner}
use Rattle.mea_lock_model.proofs.CondActing as acting
use Rattle.mea_lock_model.proofs.CondActing.{CondGoes, keys}

abbrev LocksCount : Locks → Outcome Locks → ℕ → Type 0
LocksCount h o extra = Counted waiting_at h.locks o.hall.locks o.wakes extra

abbrev CondvarsCount : Condvars → Outcome Condvars → ℕ → Type 0
CondvarsCount h p extra = Counted queue_of h.condvars p.hall.condvars p.wakes extra

locks_count : (h : Locks) (i : ℕ) (a : Action) → LocksCount h (act_in h i a) (cond (registers_in a) 1 0)
locks_count h i a = goes_counted _ owner h.locks h.futures _ _ _ i _ _ _ _ (goes h i a).goes

-- a wait that is to be listed has not queued at its mutex
listed_count : (h : Locks) (i f w : ℕ) (until : Until) → is_pending (act_in h i (PollUntil f w until)).reply ≡ true → was_polled (get (act_in h i (PollUntil f w until)).hall.futures f) ≡ false
    → LocksCount h (act_in h i (PollUntil f w until)) 0
listed_count h i f w until = by_found P (get h.futures f) h _ (λ is. absurd (cc)) (λ x future. by_found P (get h.locks x.lock) h _ (λ is. absurd (cc)) (λ r there.
    by_if P (waits (waiting_at r) f) _ _ (λ waiting pending listed. counted_put waiting_at h.locks x.lock r _ [] f 0 0 there (local_rewoken r.queue f w) (omega arith))
    (λ apart. by_if P x.polled _ _ (λ granted. decided x r r there refl)
    (λ new. by_if P (nat_lt r.free (size r x.writes)) _ _
    (λ few pending listed. absurd (let yes : was_polled (get (insert h.futures f (record x { polled = true })) f) ≡ true = ap was_polled (get-there h.futures f (record x { polled = true })) in cc))
    (λ enough. decided x r (taken_from r (size r x.writes)) there refl)))))
  where
    P : Outcome Locks → Type 0
    P o = is_pending o.reply ≡ true → was_polled (get o.hall.futures f) ≡ false → LocksCount h o 0

    decided : (x : LockFuture) (r r' : Lock) → get h.locks x.lock ≡ Some r → r'.queue ≡ r.queue → P (locks.decides h i f until x r')
    decided x r r' there same = by_if P (goes_on until r'.value) _ _
        (λ on pending listed. counted_put waiting_at h.locks x.lock r _ _ f 0 0 there (rw same (local_poured r.queue (size r' x.writes) f)) (omega arith))
        (λ over is. absurd (cc))

-- what an event does to all that are registered
pub record Counts (h : LockHall) (o : Outcome LockHall) (extra : ℕ) : Type 0 where
  pub most : length o.wakes ≤ registered h
  pub grows : registered o.hall + length o.wakes ≤ registered h + extra

module _ (h : LockHall) (i : ℕ) where
  unchanged : (extra : ℕ) → Counts h (quietly h answers.Done) extra
  unchanged extra = record { most = omega arith; grows = omega arith }

  alone : (p : Outcome Condvars) (extra : ℕ) → CondvarsCount h.condvars p extra → Counts h (on_condvars h p) extra
  alone p extra counts = record { most = omega (arith, counts.most); grows = omega (arith, counts.grows) }

  both : (o : Outcome Locks) (p : Outcome Condvars) (m n extra : ℕ) → LocksCount h.mutexes o m → CondvarsCount h.condvars p n → m + n ≤ extra → Counts h (on_both h o p) extra
  both o p m n extra first second few = record {
    most = omega (arith, first.most, second.most, length-append o.wakes p.wakes);
    grows = omega (arith, first.grows, second.grows, few, length-append o.wakes p.wakes);
  }

  -- of condition variables, where nothing has to be allowed
  of_condvars : (a : CondAction) (extra : ℕ) (p : Outcome Condvars) → CondGoes h.condvars i ⊥ (polled_on a) (ends_on a) extra p → CondvarsCount h.condvars p extra
  of_condvars a extra p goes = goes_counted queue_of acting.owner h.condvars.condvars (keys h.condvars.waits) _ _ _ i _ _ _ _ goes

  polls : (f w : ℕ) (x : CondWait) (q : Waiting) → get h.condvars.waits f ≡ Some x → get h.condvars.condvars x.condvar ≡ Some q → Counts h (poll_wait h i f w x q) 1
  polls f w x q wait there = by_if (λ o. Counts h o 1) (waits q f) _ _
      (λ waiting. alone (condvars.waits_on h.condvars f w x q) 1 (of_condvars (Poll f w) 1 (condvars.waits_on h.condvars f w x q) (acting.waits_on h.condvars i ⊥ _ _ nobody f w x q is_polled wait there)))
      (λ apart. told (act_in h.mutexes i (PollUntil f w (until_of x))) (locks_count h.mutexes i (PollUntil f w (until_of x))) (listed_count h.mutexes i f w (until_of x)))
    where
      nobody : (g : ℕ) → ends_on (Poll f w) g ≡ true → ⊥
      nobody g is = absurd (cc)

      is_polled : polled_on (Poll f w) f ≡ Some w
      is_polled = ap (λ b. cond b (Some w) None) (eq-eqb f f refl)

      told : (o : Outcome Locks) → LocksCount h.mutexes o 1 → (is_pending o.reply ≡ true → was_polled (get o.hall.futures f) ≡ false → LocksCount h.mutexes o 0) → Counts h (on_both h o (told_by o h.condvars f w x q)) 1
      told o counts listed = by_if (λ p. Counts h (on_both h o p) 1) (is_pending o.reply) _ _
          (λ pending. by_if (λ p. Counts h (on_both h o p) 1) (was_polled (get o.hall.futures f)) _ _
          (λ asks. both o (condvars.asks h.condvars f x) 1 0 1 counts (of_condvars (Poll f w) 0 (condvars.asks h.condvars f x) (acting.asks h.condvars i ⊥ _ _ nobody f w x q is_polled wait there)) (omega arith))
          (λ lists. both o (condvars.lists h.condvars f w x q) 0 1 1 (listed pending lists) (of_condvars (Poll f w) 1 (condvars.lists h.condvars f w x q) (acting.lists h.condvars i ⊥ _ _ nobody f w x q is_polled wait there)) (omega arith)))
          (λ over. both o (condvars.is_over h.condvars f) 1 0 1 counts (of_condvars (Poll f w) 0 (condvars.is_over h.condvars f) (acting.is_over h.condvars i ⊥ _ _ nobody f w x q is_polled wait there)) (omega arith))

  counts_on : (a : CondAction) → Counts h (act_on h i a) (cond (registers_on a) 1 0)
  counts_on Make = alone (condvars.make h.condvars i) 0 (of_condvars Make 0 (condvars.make h.condvars i) (acting.makes h.condvars i ⊥ _ _ (λ f is. absurd (cc))))
  counts_on (Wait c g bound) = both (act_in h.mutexes i (Hand g)) (condvars.begin h.condvars i c bound) 0 0 0 (locks_count h.mutexes i (Hand g))
      (of_condvars (Wait c g bound) 0 (condvars.begin h.condvars i c bound) (acting.begins h.condvars i ⊥ _ _ (λ f is. absurd (cc)) c bound (λ none. absurd none))) (omega arith)
  counts_on (Poll f w) = by_found (λ o. Counts h o 1) (get h.condvars.waits f) h _ (unchanged 1) (λ x wait. by_found (λ o. Counts h o 1) (get h.condvars.condvars x.condvar) h _ (unchanged 1) (λ q there. polls f w x q wait there))
  counts_on (One c) = by_found (λ o. Counts h o 0) (get h.condvars.condvars c) h _ (unchanged 0)
      (λ q there. alone (condvars.notify_one h.condvars c q) 0 (of_condvars (One c) 0 (condvars.notify_one h.condvars c q) (acting.notifies h.condvars i ⊥ _ _ (λ f is. absurd (cc)) c q there)))
  counts_on (All c) = by_found (λ o. Counts h o 0) (get h.condvars.condvars c) h _ (unchanged 0)
      (λ q there. alone (condvars.notify_all h.condvars c q) 0 (of_condvars (All c) 0 (condvars.notify_all h.condvars c q) (acting.notifies_all h.condvars i ⊥ _ _ (λ f is. absurd (cc)) c q there)))
  counts_on (End f) = by_found (λ o. Counts h o 0) (get h.condvars.waits f) h _ (unchanged 0) (λ x wait. by_found (λ o. Counts h o 0) (get h.condvars.condvars x.condvar) h _ (unchanged 0)
      (λ q there. both (act_in h.mutexes i (EndWait f)) (condvars.end_wait h.condvars f x q) 0 0 0 (locks_count h.mutexes i (EndWait f))
      (of_condvars (End f) 0 (condvars.end_wait h.condvars f x q) (acting.ends_wait h.condvars i ⊥ _ f x q there)) (omega arith)))
  counts_on (Drop c) = by_found (λ o. Counts h o 0) (get h.condvars.condvars c) h _ (unchanged 0)
      (λ q there. alone (condvars.drop h.condvars c) 0 (of_condvars (Drop c) 0 (condvars.drop h.condvars c) (acting.drops h.condvars i ⊥ _ _ (λ f is. absurd (cc)) c q there (λ none. absurd none))))

  counts : (d : Meaning) → Counts h (step_by h i d) (cond (registers_by d) 1 0)
  counts (OnLocks Mutexes a) = let c = locks_count h.mutexes i a in record { most = omega (arith, c.most); grows = omega (arith, c.grows) }
  counts (OnLocks RwLocks a) = let c = locks_count h.rw_locks i a in record { most = omega (arith, c.most); grows = omega (arith, c.grows) }
  counts (OnCondvars a) = counts_on a

pub counted : (h : LockHall) (i : ℕ) (e : LockEvent) → Counts h (step h i e) (cond (registers e) 1 0)
counted h i e = counts h i (meaning_of e)

pub extra-least : (b : Bool) → cond b 1 0 ≤ 1
extra-least true = omega arith
extra-least false = omega arith
