-- how many futures wait, and how many of them an event wakes
use Rattle.std.proofs.Common.{◌≡◌, ℕ, ◌+◌, ◌-◌, ◌≤◌, ◌==◌, Bool, true, false, cond, not, length, filter, List, [], ◌∷◌, ◌++◌, Option, Some, None, unwrap_or, refl, ap, ◌∙◌, arith, nat_lt, nat_le, min, if◌then◌else◌}
use Rattle.std.specs.List.{flat_map}
use Rattle.std.specs.Ordering.{nat_cmp}
use Rattle.std.specs.FinMap.{FinMap, get}
use Rattle.std.proofs.lemmas.Bool.Decides.{nat_tests}
use Rattle.std.proofs.lemmas.List.{length-append}
use Rattle.std.proofs.lemmas.List.Sums.{sum_by-cons}
use Rattle.mea_base.specs.Queue.{lacks_after, waiting_after, granted_in}
use Rattle.mea_base.specs.Totals.{weight}
use Rattle.mea_family.specs.declared.answer.Answer.{Answer}
use Rattle.mea_family.specs.declared.answer.Answer.TheVariants as answers
use Rattle.mea_base.proofs.Totals.{total-insert}
use Rattle.mea_base.proofs.Tests.{on_true, on_false}
use Rattle.mea_events.specs.declared.sem_event.SemEvent.{SemEvent}
use Rattle.mea_events.specs.declared.sem_event.SemEvent.TheVariants as events
use Rattle.mea_sem_model.specs.Hall.{Hall, Semaphore, Future, Permit, FutureStage, New, Waiting, Granted, Cut, Who, Waiter, Debt, names, made_with, semaphore_at, queue_at, is_closed, free, lack_of, poured, pour, waker_of, waker_of_future, waker_of_who, wakes_of, with_semaphore, debts_in, paid_in, everyone, cutting, closing, wakes_waiting}
use Rattle.mea_sem_model.specs.Step.{Outcome, quietly, pouring, without_permit, with_permit, without_future, with_debt, forgetting, forgetting_exactly, taking, offers, try_of, try_and_forget, made_ready, queueing, open_poll, refusing, poll_at, poll_of, without, leaving, end_future, end_permit, end_of, lose_of, merge_of, split_of, released_to, step}
use Rattle.mea_sem_model.specs.Valid.{count}
use Rattle.mea_sem_model.specs.Waiters.{waiters_in, waiters, registers}

-- how many of these are futures
abbrev pub waiters_among : List Who → ℕ
waiters_among [] = 0
waiters_among (Waiter f ∷ ws) = waiters_among ws + 1
waiters_among (Debt ∷ ws) = waiters_among ws

-- ---- one queue
waiters-after : (q : List (Who × ℕ)) (before n : ℕ) → waiters_in (lacks_after before q n) ≡ waiters_in q
waiters-after [] before n = refl
waiters-after ((Waiter f, k) ∷ q) before n = ap (λ m. m + 1) (waiters-after q (before + k) n)
waiters-after ((Debt, k) ∷ q) before n = waiters-after q (before + k) n

abbrev still : List (Who × ℕ) → List (Who × ℕ)
still q = filter {X = Who × ℕ} (λ e. nat_lt 0 e.1) q

abbrev full : List (Who × ℕ) → List (Who × ℕ)
full q = filter {X = Who × ℕ} (λ e. e.1 == 0) q

waiters-who : (q : List (Who × ℕ)) → waiters_among (everyone q) ≡ waiters_in q
waiters-who [] = refl
waiters-who ((Waiter f, k) ∷ q) = ap (λ m. m + 1) (waiters-who q)
waiters-who ((Debt, k) ∷ q) = waiters-who q

-- something is lacked where not nothing is
either : (k : ℕ) → (nat_lt 0 k) ≡ not (k == 0)
either k = grind (arith, nat_tests)

waiters-parts : (q : List (Who × ℕ)) → waiters_in (still q) + waiters_in (full q) ≡ waiters_in q
waiters-parts [] = refl
waiters-parts ((Waiter f, k) ∷ q) = ap
    (λ b. waiters_in (cond b ((Waiter f, k) ∷ still q) (still q)) + waiters_in (cond (k == 0) ((Waiter f, k) ∷ full q) (full q))) (either k)
    ∙ elim (k == 0) as (λ b. waiters_in (cond (not b) ((Waiter f, k) ∷ still q) (still q)) + waiters_in
    (cond b ((Waiter f, k) ∷ full q) (full q)) ≡ waiters_in q + 1) [
      | true ↦ omega (arith, waiters-parts q)
      | false ↦ omega (arith, waiters-parts q)
    ]
waiters-parts ((Debt, k) ∷ q) = ap
    (λ b. waiters_in (cond b ((Debt, k) ∷ still q) (still q)) + waiters_in (cond (k == 0) ((Debt, k) ∷ full q) (full q))) (either k)
    ∙ elim (k == 0) as (λ b. waiters_in (cond (not b) ((Debt, k) ∷ still q) (still q)) + waiters_in (cond b ((Debt, k) ∷ full q) (full q)) ≡ waiters_in q) [
      | true ↦ waiters-parts q
      | false ↦ waiters-parts q
    ]

-- who waited waits on or is granted
waiters-pour : (q : List (Who × ℕ)) (n : ℕ) → waiters_in (waiting_after q n) + waiters_among (granted_in q n) ≡ waiters_in q
waiters-pour q n = omega (arith, waiters-parts (lacks_after 0 q n), waiters-after q 0 n, waiters-who (full (lacks_after 0 q n)))

waiters-append : (q : List (Who × ℕ)) (f n : ℕ) → waiters_in (q ++ (Waiter f, n) ∷ []) ≡ waiters_in q + 1
waiters-append [] f n = refl
waiters-append ((Waiter g, k) ∷ q) f n = ap (λ m. m + 1) (waiters-append q f n)
waiters-append ((Debt, k) ∷ q) f n = waiters-append q f n

waiters-debt : (q : List (Who × ℕ)) (n : ℕ) → waiters_in (with_debt q n) ≡ waiters_in q
waiters-debt q n = elim (n == 0) as (λ b. waiters_in (cond b q ((Debt, n) ∷ q)) ≡ waiters_in q) [ true ↦ refl | false ↦ refl ]

waiters-debts_in : (q : List (Who × ℕ)) → waiters_in (debts_in q) ≡ 0
waiters-debts_in [] = refl
waiters-debts_in ((Waiter f, n) ∷ q) = waiters-debts_in q
waiters-debts_in ((Debt, n) ∷ q) = waiters-debts_in q

-- a future that leaves is no waiter any more
waiters-without : (q : List (Who × ℕ)) (f : ℕ) → waiters_in (without q f) + count q f ≡ waiters_in q
waiters-without [] f = refl
waiters-without ((Waiter g, k) ∷ q) f =
    let counts = sum_by-cons {X = Who × ℕ} (λ e. cond (names e.0 f) 1 0) (Waiter g, k) q in
    elim (g == f) as (λ b. (g == f) ≡ b → waiters_in (cond (not b) ((Waiter g, k) ∷ without q f) (without q f)) + count ((Waiter g, k) ∷ q)
    f ≡ waiters_in q + 1) [
      | true ↦ λ e. let one = on_true (g == f) 1 e in omega (arith, counts, one, waiters-without q f)
      | false ↦ λ e. let none = on_false (g == f) 1 e in omega (arith, counts, none, waiters-without q f)
    ] refl
waiters-without ((Debt, k) ∷ q) f = omega (arith, waiters-without q f, sum_by-cons {X = Who × ℕ} (λ e. cond (names e.0 f) 1 0) (Debt, k) q)

-- ---- all queues of a hall
weighs : (s : ℕ) (o : Option Semaphore) → weight (λ k (r : Semaphore). waiters_in r.queue) s o ≡ waiters_in (unwrap_or o (made_with 0)).queue
weighs s None = refl
weighs s (Some r) = refl

waiters-put : (h : Hall) (s : ℕ) (r : Semaphore) → waiters (with_semaphore h s r) + waiters_in (queue_at h s) ≡ waiters h + waiters_in r.queue
waiters-put h s r = omega (arith, weighs s (get h.semaphores s), total-insert {X = Semaphore} (λ k r. waiters_in r.queue) h.semaphores s r)

-- who waited in a hall before a pour waits on or is granted
waiters-poured : (h : Hall) (s n : ℕ) → waiters (pour h s n) + waiters_among (granted_in (queue_at h s) n) ≡ waiters h
waiters-poured h s n = omega (arith, waiters-put h s (poured (semaphore_at h s) n), waiters-pour (queue_at h s) n)

-- ---- wakes
one_waker : (o : Option Future) → length (waker_of_future o) ≤ 1
one_waker None = omega arith
one_waker (Some x) = by_stage x.stage
  where
    by_stage : (t : FutureStage) → length (waker_of t) ≤ 1
    by_stage New = omega arith
    by_stage (Waiting w) = omega arith
    by_stage Granted = omega arith
    by_stage Cut = omega arith

wakers : (m : FinMap nat_cmp Future) (ws : List Who) → length (flat_map (waker_of_who m) ws) ≤ waiters_among ws
wakers m [] = omega arith
wakers m (Waiter f ∷ ws) = omega (arith, one_waker (get m f), wakers m ws, length-append (waker_of_who m (Waiter f)) (flat_map (waker_of_who m) ws))
wakers m (Debt ∷ ws) = wakers m ws

-- a pour wakes those at most that it grants
wakes-granted : (h : Hall) (s n : ℕ) → length (wakes_of h s n) ≤ waiters_among (granted_in (queue_at h s) n)
wakes-granted h s n = wakers h.futures (granted_in (queue_at h s) n)

-- ---- each event
-- after this outcome at most as many futures wait or are woken as waited before; or one more, where the
-- event may register
pub record Settles (h : Hall) (o : Outcome) (registering : Bool) : Type 0 where
  pub most : length o.wakes ≤ waiters h
  pub grows : waiters o.hall + length o.wakes ≤ waiters h + 1
  pub falls : registering ≡ false → waiters o.hall + length o.wakes ≤ waiters h

settled : (h : Hall) (o : Outcome) (b : Bool) → waiters o.hall + length o.wakes ≤ waiters h → Settles h o b
settled h o b few = record { most = omega (arith, few); grows = omega (arith, few); falls = λ not_one. few }

quiet : (h k : Hall) (reply : Answer) (b : Bool) → waiters k ≤ waiters h → Settles h (quietly k reply) b
quiet h k reply b few = settled h (quietly k reply) b (omega (arith, few))

one_more : (h k : Hall) (reply : Answer) → waiters k ≤ waiters h + 1 → Settles h (quietly k reply) true
one_more h k reply few = record { most = omega arith; grows = omega (arith, few); falls = λ not_one. absurd (cc) }

pours : (h g : Hall) (s n : ℕ) (b : Bool) → waiters g ≤ waiters h → Settles h (pouring g s n) b
pours h g s n b few = settled h (pouring g s n) b (omega (arith, few, wakes-granted g s n, waiters-poured g s n))

-- a test between two that wake nobody
quiet_if : (h : Hall) (c : Bool) (k l : Hall) (x y : Answer) (b : Bool) → waiters k ≤ waiters h → waiters l ≤ waiters h
    → Settles h (if c then quietly k x else quietly l y) b
quiet_if h true k l x y b few _ = quiet h k x b few
quiet_if h false k l x y b _ few = quiet h l y b few

-- a semaphore is put in whose queue has no more futures than the one there
put_few : (h : Hall) (s : ℕ) (r : Semaphore) → waiters_in r.queue ≤ waiters_in (queue_at h s) → waiters (with_semaphore h s r) ≤ waiters h
put_few h s r fewer = omega (arith, fewer, waiters-put h s r)

ready_few : (h : Hall) (i f : ℕ) (x : Future) → waiters (made_ready h i f x) ≤ waiters h
ready_few h i f x = elim x.forgets as (λ b. waiters
    (if b then with_semaphore (without_future h f) x.semaphore
    (record (semaphore_at h x.semaphore) { forgotten = (semaphore_at h x.semaphore).forgotten + x.demand })
    else with_permit (without_future h f) i (record { semaphore = x.semaphore; size = x.demand; plain = x.plain })) ≤ waiters h) [
      | true ↦ put_few (without_future h f) x.semaphore
          (record (semaphore_at h x.semaphore) { forgotten = (semaphore_at h x.semaphore).forgotten + x.demand }) (omega arith)
      | false ↦ omega arith
    ]

module _ (h : Hall) (i : ℕ) where
  as_many : waiters h ≤ waiters h
  as_many = omega arith

  settles-open_poll : (f w : ℕ) (x : Future) → Settles h (open_poll h i f w x) true
  settles-open_poll f w x = elim (nat_le x.demand (free h x.semaphore))
      as (λ b. Settles h (if b then quietly (made_ready taken i f x) answers.Ready else quietly (queueing h f w x) answers.Pending) true) [
        | true ↦ quiet h (made_ready taken i f x) answers.Ready true (omega (arith, ready_few taken i f x, put_few h x.semaphore (taking r x.demand) (omega arith)))
        | false ↦ one_more h (queueing h f w x) answers.Pending
            (omega (
              arith,
              waiters-put h x.semaphore
                  (record r { free = 0; queue = r.queue ++ (Waiter f, x.demand - r.free) ∷ [] }),
              waiters-append r.queue f (x.demand - r.free),
            ))
      ]
    where
      r : Semaphore
      r = semaphore_at h x.semaphore

      taken : Hall
      taken = with_semaphore h x.semaphore (taking r x.demand)

  settles-first_poll : (f w : ℕ) (x : Future) (b : Bool) → Settles h (if b then refusing h f else open_poll h i f w x) true
  settles-first_poll f w x true = quiet h (without_future h f) answers.Gone true as_many
  settles-first_poll f w x false = settles-open_poll f w x

  settles-poll_at : (f w : ℕ) (x : Future) (t : FutureStage) → Settles h (poll_at h i f w x t) true
  settles-poll_at f w x New = settles-first_poll f w x (is_closed h x.semaphore)
  settles-poll_at f w x Cut = quiet h (without_future h f) answers.Gone true as_many
  settles-poll_at f w x (Waiting v) = quiet h _ answers.Pending true as_many
  settles-poll_at f w x Granted = quiet h (made_ready h i f x) answers.Ready true (ready_few h i f x)

  settles-poll : (f w : ℕ) (o : Option Future) → Settles h (poll_of h i f w o) true
  settles-poll f w None = quiet h h answers.Done true as_many
  settles-poll f w (Some x) = settles-poll_at f w x x.stage

  settles-end_permit : (p : ℕ) (o : Option Permit) → Settles h (end_permit h p o) false
  settles-end_permit p None = quiet h h answers.Done false as_many
  settles-end_permit p (Some x) = pours h (without_permit h p) x.semaphore x.size false as_many

  settles-end_future : (f : ℕ) (x : Future) (t : FutureStage) → Settles h (end_future h f x t) false
  settles-end_future f x New = quiet h _ answers.Done false as_many
  settles-end_future f x (Waiting w) =
      let fewer = put_few h x.semaphore (record (semaphore_at h x.semaphore) { queue = without (queue_at h x.semaphore) f })
      (omega (arith, waiters-without (queue_at h x.semaphore) f)) in
      pours h (leaving h f x) x.semaphore (x.demand - lack_of (queue_at h x.semaphore) f) false fewer
  settles-end_future f x Cut = quiet h _ answers.Done false as_many
  settles-end_future f x Granted = pours h (without_future h f) x.semaphore x.demand false as_many

  settles-end : (k : ℕ) (o : Option Future) → Settles h (end_of h k o) false
  settles-end k None = settles-end_permit k (get h.permits k)
  settles-end k (Some x) = settles-end_future k x x.stage

  settles-lose : (p : ℕ) (o : Option Permit) → Settles h (lose_of h p o) false
  settles-lose p None = quiet h h answers.Done false as_many
  settles-lose p (Some x) = quiet h _ (answers.Forgot x.size) false
      (put_few (without_permit h p) x.semaphore (record (semaphore_at h x.semaphore) { forgotten = (semaphore_at h x.semaphore).forgotten + x.size })
      (omega arith))

  settles-merge : (p q : ℕ) (o u : Option Permit) → Settles h (quietly (merge_of h p q o u) answers.Done) false
  settles-merge p q None u = quiet h h answers.Done false as_many
  settles-merge p q (Some x) None = quiet h h answers.Done false as_many
  settles-merge p q (Some x) (Some y) = quiet h _ answers.Done false as_many

  settles-split : (p n : ℕ) (o : Option Permit) → Settles h (split_of h i p n o) false
  settles-split p n None = quiet h h answers.Lacking false as_many
  settles-split p n (Some x) = quiet_if h (nat_le n x.size) _ h answers.Held answers.Lacking false as_many as_many

  settles-try : (s n : ℕ) (plain : Bool) → Settles h (try_of h i s n plain) false
  settles-try s n plain = quiet_if h (offers h s n) _ h answers.Held answers.Lacking false
      (put_few h s (taking (semaphore_at h s) n) (omega arith)) as_many

  settles-try_and_forget : (s n : ℕ) → Settles h (try_and_forget h s n) false
  settles-try_and_forget s n = quiet_if h (offers h s n) _ h answers.Yes answers.No false
      (put_few h s (record (semaphore_at h s) { free = free h s - n; forgotten = (semaphore_at h s).forgotten + n }) (omega arith)) as_many

  settles-close : (s : ℕ) (b : Bool)
      → Settles h (if b then quietly h answers.Done else record { hall = closing h s; reply = answers.Done; wakes = wakes_waiting h s }) false
  settles-close s true = quiet h h answers.Done false as_many
  settles-close s false =
      let r : Semaphore = record (semaphore_at h s) { queue = debts_in (queue_at h s); closed = true } in
      settled h (record { hall = closing h s; reply = answers.Done; wakes = wakes_waiting h s }) false (omega (
        arith,
        wakers h.futures (everyone (queue_at h s)),
        waiters-who (queue_at h s),
        waiters-put h s r,
        waiters-debts_in (queue_at h s),
        waiters-poured (cutting h s) s (paid_in h.futures (queue_at h s)),
      ))

  pub settles : (e : SemEvent) → Settles h (step h i e) (registers e)
  settles (events.New n) = quiet h _ answers.Made false (put_few h i (made_with n) (omega arith))
  settles (events.Free s) = quiet h h (answers.Free (free h s)) false as_many
  settles (events.Forget s n) = quiet h _ (answers.Forgot (min n (free h s))) false (put_few h s (forgetting (semaphore_at h s) n) (omega arith))
  settles (events.Forgetx s n) = quiet h _ answers.Done false
      (put_few h s (forgetting_exactly (semaphore_at h s) n) (let same = waiters-debt (queue_at h s) (n - min n (free h s)) in omega (arith, same)))
  settles (events.Release s n) = pours h (released_to h s n) s n false
      (put_few h s (record (semaphore_at h s) { released = (semaphore_at h s).released + n }) (omega arith))
  settles (events.Try s n) = settles-try s n true
  settles (events.Tryo s n) = settles-try s n false
  settles (events.Tryf s n) = settles-try_and_forget s n
  settles (events.Tryof s n) = settles-try_and_forget s n
  settles (events.Acq s n) = quiet h _ answers.Made false as_many
  settles (events.Acqo s n) = quiet h _ answers.Made false as_many
  settles (events.Acqf s n) = quiet h _ answers.Made false as_many
  settles (events.Acqof s n) = quiet h _ answers.Made false as_many
  settles (events.Poll f w) = settles-poll f w (get h.futures f)
  settles (events.End x) = settles-end x (get h.futures x)
  settles (events.Lose p) = settles-lose p (get h.permits p)
  settles (events.Merge p q) = settles-merge p q (get h.permits p) (get h.permits q)
  settles (events.Split p n) = settles-split p n (get h.permits p)
  settles (events.Size p) = quiet h h _ false as_many
  settles (events.Endsem s) = quiet h _ answers.Done false (put_few h s (record (semaphore_at h s) { named = false }) (omega arith))
  settles (events.Ledger s) = quiet h h _ false as_many
  settles (events.Close s) = settles-close s (is_closed h s)
  settles (events.Closed s) = quiet h h _ false as_many
