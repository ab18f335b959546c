-- how an event changes the number of futures and permits
use Rattle.std.proofs.Common.{◌≡◌, ℕ, ◌+◌, ◌-◌, ◌≤◌, ◌==◌, Bool, true, false, not, ◌&&◌, List, [], ◌∷◌, Option, Some, None, refl, ap, sym, ◌∙◌, arith, nat_le, if◌then◌else◌, is_some}
use Rattle.std.specs.Ordering.{nat_cmp}
use Rattle.std.specs.FinMap.{FinMap, get, insert, remove}
use Rattle.mea_base.specs.Queue.{granted_in}
use Rattle.mea_base.specs.Totals.{weight}
use Rattle.mea_base.proofs.Tests.{at_apart}
use Rattle.mea_family.proofs.Causes.{known}
use Rattle.mea_base.proofs.Totals.{total-insert, total-remove, get_removed}
use Rattle.std.proofs.lemmas.Bool.{eqb-false}
use Rattle.mea_events.specs.declared.sem_event.SemEvent.{SemEvent}
use Rattle.mea_events.specs.declared.sem_event.SemEvent.TheVariants as events
use Rattle.mea_sem_model.specs.Hall.{Hall, Future, Permit, FutureStage, New, Waiting, Granted, Cut, Who, Waiter, Debt, semaphore_at, queue_at, lack_of, paid_in, is_closed, free, staged, stage_if, stage_who, stage_all, with_semaphore, pour, everyone, cutting, closing}
use Rattle.mea_sem_model.specs.Cause.{cause_of, are_of_one_kind}
use Rattle.mea_sem_model.specs.Step.{Outcome, without_permit, without_future, offers, try_of, try_and_forget, taking, made_ready, queueing, open_poll, poll_at, poll_of, leaving, end_future, end_permit, end_of, lose_of, merge_of, split_of, released_to, close_of, step}
use Rattle.mea_recorded.specs.Things.{size, things, makes, ends}

module _ {X : Type 0} (m : FinMap nat_cmp X) (k : ℕ) where
  inserted : (v : X) → size (insert m k v) ≤ size m + 1
  inserted v = omega (arith, total-insert (λ q x. 1) m k v)

  replaced : (x v : X) → get m k ≡ Some x → size (insert m k v) ≡ size m
  replaced x v is =
      let one : weight (λ q y. 1) k (get m k) ≡ 1 = ap (weight {X = X} (λ q y. 1) k) is in
      omega (arith, total-insert (λ q y. 1) m k v, one)

  removed : (x : X) → get m k ≡ Some x → size (remove m k) + 1 ≡ size m
  removed x is =
      let one : weight (λ q y. 1) k (get m k) ≡ 1 = ap (weight {X = X} (λ q y. 1) k) is in
      omega (arith, total-remove (λ q y. 1) m k, one)

  moved : (j : ℕ) (x v : X) → get m k ≡ Some x → size (insert (remove m k) j v) ≤ size m
  moved j x v is = omega (arith, total-insert (λ q y. 1) (remove m k) j v, removed x is)

-- who comes to a stage lives on
staged_who : (t : FutureStage) (m : FinMap nat_cmp Future) (w : Who) → size (stage_who t m w) ≡ size m
staged_who t m (Waiter f) = at (get m f) refl
  where
    at : (o : Option Future) → get m f ≡ o → size (stage_if t m f o) ≡ size m
    at None is = refl
    at (Some x) is = replaced m f x (staged t x) is
staged_who t m Debt = refl

staged_all : (t : FutureStage) (ws : List Who) (m : FinMap nat_cmp Future) → size (stage_all t ws m) ≡ size m
staged_all t [] m = refl
staged_all t (w ∷ ws) m = staged_all t ws (stage_who t m w) ∙ staged_who t m w

-- a pour ends nothing
pub poured : (h : Hall) (s n : ℕ) → things (pour h s n) ≡ things h
poured h s n = ap (λ (k : ℕ). k + size h.permits) (staged_all Granted (granted_in (queue_at h s) n) h.futures)

closed : (h : Hall) (s : ℕ) → things (closing h s) ≡ things h
closed h s = poured (cutting h s) s (paid_in h.futures (queue_at h s)) ∙ ap (λ (k : ℕ). k + size h.permits) (staged_all Cut (everyone (queue_at h s)) h.futures)

-- at most this many live after the outcome
abbrev AtMost : Outcome → ℕ → Type 0
AtMost o n = things o.hall ≤ n

either_most : (b : Bool) (x y : Outcome) (n : ℕ) → AtMost x n → AtMost y n → AtMost (if b then x else y) n
either_most true x y n hx hy = hx
either_most false x y n hx hy = hy

either_hall : (b : Bool) (x y : Hall) (n : ℕ) → things x ≤ n → things y ≤ n → things (if b then x else y) ≤ n
either_hall true x y n hx hy = hx
either_hall false x y n hx hy = hy

module _ (h : Hall) (i : ℕ) where
  try_grows : (s n : ℕ) (plain : Bool) → AtMost (try_of h i s n plain) (things h + 1)
  try_grows s n plain = either_most (offers h s n) _ _ (things h + 1) (omega (arith, inserted h.permits i (record { semaphore = s; size = n; plain = plain }))) (omega arith)

  forget_stays : (s n : ℕ) → AtMost (try_and_forget h s n) (things h)
  forget_stays s n = either_most (offers h s n) _ _ (things h) (omega arith) (omega arith)

  -- a future that is ready is gone, and at most a permit comes for it
  ready_stays : (g : Hall) (f : ℕ) (x : Future) → get g.futures f ≡ Some x → things (made_ready g i f x) ≤ things g
  ready_stays g f x is = either_hall x.forgets _ _ (things g) (omega (arith, removed g.futures f x is))
      (omega (arith, removed g.futures f x is, inserted g.permits i (record { semaphore = x.semaphore; size = x.demand; plain = x.plain })))

  queueing_stays : (f w : ℕ) (x : Future) → get h.futures f ≡ Some x → things (queueing h f w x) ≤ things h
  queueing_stays f w x is = omega (arith, replaced h.futures f x (record x { stage = Waiting w }) is)

  gone_stays : (f : ℕ) (x : Future) → get h.futures f ≡ Some x → things (without_future h f) ≤ things h
  gone_stays f x is = omega (arith, removed h.futures f x is)

  open_stays : (f w : ℕ) (x : Future) → get h.futures f ≡ Some x → AtMost (open_poll h i f w x) (things h)
  open_stays f w x is = either_most (nat_le x.demand (free h x.semaphore)) _ _ (things h)
      (ready_stays (with_semaphore h x.semaphore (taking (semaphore_at h x.semaphore) x.demand)) f x is) (queueing_stays f w x is)

  poll_stays : (f w : ℕ) (x : Future) (t : FutureStage) → get h.futures f ≡ Some x → AtMost (poll_at h i f w x t) (things h)
  poll_stays f w x New is = either_most (is_closed h x.semaphore) _ _ (things h) (gone_stays f x is) (open_stays f w x is)
  poll_stays f w x (Waiting v) is = omega (arith, replaced h.futures f x (record x { stage = Waiting w }) is)
  poll_stays f w x Granted is = ready_stays h f x is
  poll_stays f w x Cut is = gone_stays f x is

  polls : (f w : ℕ) (o : Option Future) → get h.futures f ≡ o → AtMost (poll_of h i f w o) (things h)
  polls f w None is = omega arith
  polls f w (Some x) is = poll_stays f w x x.stage is

  future_falls : (f : ℕ) (x : Future) (t : FutureStage) → get h.futures f ≡ Some x → things (end_future h f x t).hall + 1 ≤ things h
  future_falls f x New is = omega (arith, removed h.futures f x is)
  future_falls f x (Waiting w) is = omega (arith, poured (leaving h f x) x.semaphore (x.demand - lack_of (queue_at h x.semaphore) f), removed h.futures f x is)
  future_falls f x Granted is = omega (arith, poured (without_future h f) x.semaphore x.demand, removed h.futures f x is)
  future_falls f x Cut is = omega (arith, removed h.futures f x is)

  permit_falls : (p : ℕ) (x : Permit) → get h.permits p ≡ Some x → things (end_permit h p (Some x)).hall + 1 ≤ things h
  permit_falls p x is = omega (arith, poured (without_permit h p) x.semaphore x.size, removed h.permits p x is)

  lose_falls : (p : ℕ) (x : Permit) → get h.permits p ≡ Some x → things (lose_of h p (Some x)).hall + 1 ≤ things h
  lose_falls p x is = omega (arith, removed h.permits p x is)

  merge_falls : (p q : ℕ) (x y : Permit) → get h.permits p ≡ Some x → get h.permits q ≡ Some y → (p == q) ≡ false
      → things (merge_of h p q (Some x) (Some y)) + 1 ≤ things h
  merge_falls p q x y at_p at_q apart =
      let there : get (remove h.permits q) p ≡ Some x = get_removed h.permits q p ∙ at_apart q p None (get h.permits p) (λ e. eqb-false p q apart (sym e)) ∙ at_p in
      omega (arith, removed h.permits q y at_q, replaced (remove h.permits q) p x (record x { size = x.size + y.size }) there)

  splits : (p n : ℕ) (o : Option Permit) → get h.permits p ≡ o → AtMost (split_of h i p n o) (things h + 1)
  splits p n None is = omega arith
  splits p n (Some x) is = either_most (nat_le n x.size) _ _ (things h + 1)
      (omega (arith, replaced h.permits p x (record x { size = x.size - n }) is, inserted (insert h.permits p (record x { size = x.size - n })) i (record x { size = n })))
      (omega arith)

  closes : (s : ℕ) → AtMost (close_of h s) (things h)
  closes s = either_most (is_closed h s) _ _ (things h) (omega arith) (omega (arith, closed h s))

  -- who ends lives
  ends_one : (x : ℕ) (f : Option Future) (p : Option Permit) → get h.futures x ≡ f → get h.permits x ≡ p
      → (if is_some f then true else is_some p) ≡ true → things (end_of h x f).hall + 1 ≤ things h
  ends_one x (Some f) p at_f at_p lives = future_falls x f f.stage at_f
  ends_one x None (Some p) at_f at_p lives = omega (arith, permit_falls x p at_p, ap (λ o. things (end_permit h x o).hall) at_p)
  ends_one x None None at_f at_p lives = absurd (cc)

  loses_one : (p : ℕ) (x : Option Permit) → get h.permits p ≡ x → is_some x ≡ true → things (lose_of h p x).hall + 1 ≤ things h
  loses_one p (Some x) at_p lives = lose_falls p x at_p
  loses_one p None at_p lives = absurd (cc)

  merges_one : (p q : ℕ) (b : Bool) (x y : Option Permit) → (p == q) ≡ b → get h.permits p ≡ x → get h.permits q ≡ y
      → (not b && are_of_one_kind x y) ≡ true → things (merge_of h p q x y) + 1 ≤ things h
  merges_one p q false (Some x) (Some y) apart at_p at_q one = merge_falls p q x y at_p at_q apart
  merges_one p q false (Some x) None apart at_p at_q one = absurd (cc)
  merges_one p q false None y apart at_p at_q one = absurd (cc)
  merges_one p q true x y apart at_p at_q one = absurd (cc)

  merge_stays : (p q : ℕ) (x y : Option Permit) → get h.permits p ≡ x → get h.permits q ≡ y → things (merge_of h p q x y) ≤ things h
  merge_stays p q None y at_p at_q = omega arith
  merge_stays p q (Some x) None at_p at_q = omega arith
  merge_stays p q (Some x) (Some y) at_p at_q = omega (arith, moved h.permits q p y (record x { size = x.size + y.size }) at_q)

  ends_most : (x : ℕ) (f : Option Future) (p : Option Permit) → get h.futures x ≡ f → get h.permits x ≡ p → things (end_of h x f).hall ≤ things h
  ends_most x (Some f) p at_f at_p = omega (arith, future_falls x f f.stage at_f)
  ends_most x None (Some p) at_f at_p = omega (arith, permit_falls x p at_p, ap (λ o. things (end_permit h x o).hall) at_p)
  ends_most x None None at_f at_p = omega (arith, ap (λ o. things (end_permit h x o).hall) at_p)

  loses_most : (p : ℕ) (x : Option Permit) → get h.permits p ≡ x → things (lose_of h p x).hall ≤ things h
  loses_most p (Some x) at_p = omega (arith, lose_falls p x at_p)
  loses_most p None at_p = omega arith

-- an event leaves at most one thing more, and that only where it makes one
pub grows : (h : Hall) (i : ℕ) (e : SemEvent) → things (step h i e).hall ≤ things h + (if makes e then 1 else 0)
grows h i (events.New n) = omega arith
grows h i (events.Free s) = omega arith
grows h i (events.Forget s n) = omega arith
grows h i (events.Forgetx s n) = omega arith
grows h i (events.Release s n) = omega (arith, poured (released_to h s n) s n)
grows h i (events.Try s n) = try_grows h i s n true
grows h i (events.Tryo s n) = try_grows h i s n false
grows h i (events.Tryf s n) = omega (arith, forget_stays h i s n)
grows h i (events.Tryof s n) = omega (arith, forget_stays h i s n)
grows h i (events.Acq s n) = omega (arith, inserted h.futures i (record { semaphore = s; demand = n; plain = true; forgets = false; stage = New }))
grows h i (events.Acqo s n) = omega (arith, inserted h.futures i (record { semaphore = s; demand = n; plain = false; forgets = false; stage = New }))
grows h i (events.Acqf s n) = omega (arith, inserted h.futures i (record { semaphore = s; demand = n; plain = true; forgets = true; stage = New }))
grows h i (events.Acqof s n) = omega (arith, inserted h.futures i (record { semaphore = s; demand = n; plain = false; forgets = true; stage = New }))
grows h i (events.Poll f w) = omega (arith, polls h i f w (get h.futures f) refl)
grows h i (events.End x) = omega (arith, ends_most h i x (get h.futures x) (get h.permits x) refl refl)
grows h i (events.Lose p) = omega (arith, loses_most h i p (get h.permits p) refl)
grows h i (events.Merge p q) = omega (arith, merge_stays h i p q (get h.permits p) (get h.permits q) refl refl)
grows h i (events.Split p n) = splits h i p n (get h.permits p) refl
grows h i (events.Size p) = omega arith
grows h i (events.Endsem s) = omega arith
grows h i (events.Ledger s) = omega arith
grows h i (events.Close s) = omega (arith, closes h i s)
grows h i (events.Closed s) = omega arith

-- an event that ends a thing leaves one fewer
pub falls : (h : Hall) (i : ℕ) (e : SemEvent) → cause_of h e ≡ None → ends e ≡ true → things (step h i e).hall + 1 ≤ things h
falls h i (events.End x) allowed one = ends_one h i x (get h.futures x) (get h.permits x) refl refl (known _ allowed)
falls h i (events.Lose p) allowed one = loses_one h i p (get h.permits p) refl (known _ allowed)
falls h i (events.Merge p q) allowed one = merges_one h i p q (p == q) (get h.permits p) (get h.permits q) refl refl refl (known _ allowed)
falls h i (events.New n) allowed one = absurd (cc)
falls h i (events.Free s) allowed one = absurd (cc)
falls h i (events.Forget s n) allowed one = absurd (cc)
falls h i (events.Forgetx s n) allowed one = absurd (cc)
falls h i (events.Release s n) allowed one = absurd (cc)
falls h i (events.Try s n) allowed one = absurd (cc)
falls h i (events.Tryo s n) allowed one = absurd (cc)
falls h i (events.Tryf s n) allowed one = absurd (cc)
falls h i (events.Tryof s n) allowed one = absurd (cc)
falls h i (events.Acq s n) allowed one = absurd (cc)
falls h i (events.Acqo s n) allowed one = absurd (cc)
falls h i (events.Acqf s n) allowed one = absurd (cc)
falls h i (events.Acqof s n) allowed one = absurd (cc)
falls h i (events.Poll f w) allowed one = absurd (cc)
falls h i (events.Split p n) allowed one = absurd (cc)
falls h i (events.Size p) allowed one = absurd (cc)
falls h i (events.Endsem s) allowed one = absurd (cc)
falls h i (events.Ledger s) allowed one = absurd (cc)
falls h i (events.Close s) allowed one = absurd (cc)
falls h i (events.Closed s) allowed one = absurd (cc)
