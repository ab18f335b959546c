-- how each event changes the tallies of a semaphore, and that no debt grows but by what is forgotten
use Rattle.std.proofs.Common.{◌≡◌, ℕ, ◌+◌, ◌-◌, ◌≤◌, ◌==◌, ◌&&◌, Bool, true, false, cond, [], ◌∷◌, ◌++◌, not, min, nat_le, refl, ap, sym, subst, arith, Option, Some, None, unwrap_or, if◌then◌else◌}
use Rattle.std.specs.FinMap.{get}
use Rattle.std.proofs.lemmas.Bool.{eqb-true}
use Rattle.std.proofs.lemmas.List.Sums.{sum_by-append}
use Rattle.mea_family.specs.declared.answer.Answer.TheVariants as answers
use Rattle.mea_events.specs.declared.sem_event.SemEvent.{SemEvent}
use Rattle.mea_events.specs.declared.sem_event.SemEvent.TheVariants as events
use Rattle.mea_sem_model.specs.Hall.{Hall, Semaphore, Future, Permit, FutureStage, New, Waiting, Granted, Cut, Who, Waiter, made_with, semaphore_at, queue_at, is_closed, poured, pour, names, free, debt_of, debts, with_semaphore, is_debt, debts_in, paid_in, cutting, closing, wakes_waiting}
use Rattle.mea_sem_model.specs.Step.{quietly, with_permit, without_permit, without_future, forgetting_exactly, taking, offers, try_of, try_and_forget, queueing, made_ready, open_poll, refusing, poll_at, poll_of, end_future, end_permit, end_of, lose_of, merge_of, split_of, released_to, step, without, leaving}
use Rattle.mea_sem_model.specs.Valid.{IsBelow}
use Rattle.mea_sem_model.specs.Runs.{if_same, made_by, released_by, number_forgot, if_yes, if_ready, if_permit_of, forgetting_demand, forgotten_by}
use Rattle.mea_sem_model.proofs.HallLemmas.{semaphore_put, poured-owed, filtered-owed}
use Rattle.mea_sem_model.proofs.Pours.{owed-debt}
use Rattle.mea_sem_model.proofs.Changes.{no_semaphore_yet}
use Rattle.mea_sem_model.proofs.Events.{line}

-- a was made, b released and c forgotten, and what was closed is closed
pub record Tallied (y z : Semaphore) (a b c : ℕ) : Type 0 where
  pub made : z.made ≡ y.made + a
  pub released : z.released ≡ y.released + b
  pub forgotten : z.forgotten ≡ y.forgotten + c
  pub owes : debts z.queue ≤ debts y.queue + c
  pub closed : y.closed ≡ true → z.closed ≡ true

same : (y : Semaphore) → Tallied y y 0 0 0
same y = record { made = omega arith; released = omega arith; forgotten = omega arith; owes = omega arith; closed = λ c. c }

both : (x y z : Semaphore) (a b c d e f : ℕ) → Tallied x y a b c → Tallied y z d e f → Tallied x z (a + d) (b + e) (c + f)
both x y z a b c d e f p q = record {
  made = omega (arith, p.made, q.made);
  released = omega (arith, p.released, q.released);
  forgotten = omega (arith, p.forgotten, q.forgotten);
  owes = omega (arith, p.owes, q.owes);
  closed = λ c. q.closed (p.closed c);
}

-- the first change tells nothing
quiet_first : (x y z : Semaphore) (a b c : ℕ) → Tallied x y 0 0 0 → Tallied y z a b c → Tallied x z a b c
quiet_first x y z a b c p q = record {
  made = omega (arith, p.made, q.made);
  released = omega (arith, p.released, q.released);
  forgotten = omega (arith, p.forgotten, q.forgotten);
  owes = omega (arith, p.owes, q.owes);
  closed = λ c. q.closed (p.closed c);
}

-- the same tallies, counted otherwise
recount : (y z : Semaphore) (a b c d e f : ℕ) → a ≡ d → b ≡ e → c ≡ f → Tallied y z a b c → Tallied y z d e f
recount y z a b c d e f i j k t =
    record {
      made = omega (arith, t.made);
      released = omega (arith, t.released);
      forgotten = omega (arith, t.forgotten);
      owes = omega (arith, t.owes);
      closed = t.closed;
    }

put : (h : Hall) (q a b c : ℕ) (r : Semaphore) → Tallied (semaphore_at h q) r a b c → (s : ℕ)
    → Tallied (semaphore_at h s) (semaphore_at (with_semaphore h q r) s) (if_same q s a) (if_same q s b) (if_same q s c)
put h q a b c r t s = subst (λ y. Tallied (semaphore_at h s) y (if_same q s a) (if_same q s b) (if_same q s c)) (sym (semaphore_put h q s r))
    (at_test (q == s) refl)
  where
    at_test : (t : Bool) → (q == s) ≡ t → Tallied (semaphore_at h s) (cond t r (semaphore_at h s)) (cond t a 0) (cond t b 0) (cond t c 0)
    at_test true e = subst (λ k. Tallied (semaphore_at h k) r a b c) (eqb-true q s e) t
    at_test false e = same (semaphore_at h s)

never : (b : Bool) → ◌≡◌ {A = ℕ} (cond b 0 0) 0
never true = refl
never false = refl

-- a semaphore is put whose tallies are as they were
put_same : (h : Hall) (q : ℕ) (r : Semaphore) → Tallied (semaphore_at h q) r 0 0 0 → (s : ℕ)
    → Tallied (semaphore_at h s) (semaphore_at (with_semaphore h q r) s) 0 0 0
put_same h q r t s = recount _ _ _ _ _ _ _ _ (never (q == s)) (never (q == s)) (never (q == s)) (put h q 0 0 0 r t s)

put_forgotten : (h : Hall) (q c : ℕ) (r : Semaphore) → Tallied (semaphore_at h q) r 0 0 c → (s : ℕ)
    → Tallied (semaphore_at h s) (semaphore_at (with_semaphore h q r) s) 0 0 (if_same q s c)
put_forgotten h q c r t s = recount _ _ _ _ _ _ _ _ (never (q == s)) (never (q == s)) refl (put h q 0 0 c r t s)

pours : (h : Hall) (q n s : ℕ) → Tallied (semaphore_at h s) (semaphore_at (pour h q n) s) 0 0 0
pours h q n s = put_same h q (poured (semaphore_at h q) n)
    (record { made = omega arith; released = omega arith; forgotten = omega arith; owes = omega (arith, poured-owed (queue_at h q) n); closed = λ c. c }) s

takes : (h : Hall) (q n s : ℕ) → Tallied (semaphore_at h s) (semaphore_at (with_semaphore h q (taking (semaphore_at h q) n)) s) 0 0 0
takes h q n s = put_same h q (taking (semaphore_at h q) n)
    (record { made = omega arith; released = omega arith; forgotten = omega arith; owes = omega arith; closed = λ c. c }) s

-- n more are told to be forgotten
abbrev forgetful : Semaphore → ℕ → ℕ → Semaphore
forgetful r k n = record r { free = k; forgotten = r.forgotten + n }

forgets : (h : Hall) (q k n s : ℕ) → Tallied (semaphore_at h s) (semaphore_at (with_semaphore h q (forgetful (semaphore_at h q) k n)) s) 0 0 (if_same q s n)
forgets h q k n s = put_forgotten h q n (forgetful (semaphore_at h q) k n)
    (record { made = omega arith; released = omega arith; forgotten = refl; owes = omega arith; closed = λ c. c }) s

module _ (h : Hall) (i s : ℕ) where
  ends_permit : (k : ℕ) (o : Option Permit) → Tallied (semaphore_at h s) (semaphore_at (end_permit h k o).hall s) 0 0 0
  ends_permit k None = same (semaphore_at h s)
  ends_permit k (Some p) = pours (without_permit h k) p.semaphore p.size s

  leaves : (f : ℕ) (x : Future) → Tallied (semaphore_at h s) (semaphore_at (leaving h f x) s) 0 0 0
  leaves f x = put_same h x.semaphore (record (semaphore_at h x.semaphore) { queue = without (queue_at h x.semaphore) f })
      (record {
        made = omega arith;
        released = omega arith;
        forgotten = omega arith;
        owes = omega (arith, filtered-owed (λ e. not (names e.0 f)) (queue_at h x.semaphore));
        closed = λ c. c;
      }) s

  ends_future : (f : ℕ) (x : Future) (t : FutureStage) → Tallied (semaphore_at h s) (semaphore_at (end_future h f x t).hall s) 0 0 0
  ends_future f x New = same (semaphore_at h s)
  ends_future f x (Waiting u) = both _ _ _ _ _ _ _ _ _ (leaves f x) (pours (leaving h f x) x.semaphore _ s)
  ends_future f x Granted = pours (without_future h f) x.semaphore x.demand s
  ends_future f x Cut = same (semaphore_at h s)

  ends : (k : ℕ) (o : Option Future) → Tallied (semaphore_at h s) (semaphore_at (end_of h k o).hall s) 0 0 0
  ends k None = ends_permit k (get h.permits k)
  ends k (Some x) = ends_future k x x.stage

  loses : (p : ℕ) (o : Option Permit) → Tallied (semaphore_at h s) (semaphore_at (lose_of h p o).hall s) 0 0
      (if_permit_of s o (number_forgot (lose_of h p o).reply))
  loses p None = same (semaphore_at h s)
  loses p (Some x) = forgets (without_permit h p) x.semaphore (free h x.semaphore) x.size s

  merges : (p q : ℕ) (o r : Option Permit) → Tallied (semaphore_at h s) (semaphore_at (merge_of h p q o r) s) 0 0 0
  merges p q None r = same (semaphore_at h s)
  merges p q (Some x) None = same (semaphore_at h s)
  merges p q (Some x) (Some y) = same (semaphore_at h s)

  splits : (p n : ℕ) (o : Option Permit) → Tallied (semaphore_at h s) (semaphore_at (split_of h i p n o).hall s) 0 0 0
  splits p n None = same (semaphore_at h s)
  splits p n (Some x) = elim (nat_le n x.size)
      as (λ b. Tallied (semaphore_at h s)
      (semaphore_at (if b then quietly (with_permit (with_permit h p (record x { size = x.size - n })) i (record x { size = n })) answers.Held
      else quietly h answers.Lacking).hall s) 0 0 0) [
        | true ↦ same (semaphore_at h s)
        | false ↦ same (semaphore_at h s)
      ]

  tries : (q n : ℕ) (plain : Bool) → Tallied (semaphore_at h s) (semaphore_at (try_of h i q n plain).hall s) 0 0 0
  tries q n plain = elim (offers h q n)
      as (λ b. Tallied (semaphore_at h s)
      (semaphore_at (if b then quietly
      (with_permit (with_semaphore h q (taking (semaphore_at h q) n)) i (record { semaphore = q; size = n; plain = plain })) answers.Held
      else quietly h answers.Lacking).hall s) 0 0 0) [
        | true ↦ takes h q n s
        | false ↦ same (semaphore_at h s)
      ]

  tries_and_forgets : (q n : ℕ) → Tallied (semaphore_at h s) (semaphore_at (try_and_forget h q n).hall s) 0 0
      (if_same q s (if_yes n (try_and_forget h q n).reply))
  tries_and_forgets q n = elim (offers h q n)
      as (λ b. Tallied (semaphore_at h s)
      (semaphore_at (if b then quietly (with_semaphore h q (forgetful (semaphore_at h q) (free h q - n) n)) answers.Yes
      else quietly h answers.No).hall s) 0 0
      (if_same q s (if_yes n (if b then quietly (with_semaphore h q (forgetful (semaphore_at h q) (free h q - n) n)) answers.Yes
      else quietly h answers.No).reply))) [
        | true ↦ forgets h q (free h q - n) n s
        | false ↦ recount _ _ _ _ _ _ _ _ refl refl (sym (never (q == s))) (same (semaphore_at h s))
      ]

-- a future becomes ready
readies : (g : Hall) (i f s : ℕ) (x : Future) → Tallied (semaphore_at g s) (semaphore_at (made_ready g i f x) s) 0 0 (forgetting_demand s (Some x))
readies g i f s x = by_form x.forgets
  where
    with_true : (b : Bool) (n : ℕ) → cond b n 0 ≡ cond (b && true) n 0
    with_true true n = refl
    with_true false n = refl

    with_false : (b : Bool) (n : ℕ) → 0 ≡ cond (b && false) n 0
    with_false true n = refl
    with_false false n = refl

    by_form : (t : Bool) → Tallied (semaphore_at g s)
        (semaphore_at (if t then with_semaphore (without_future g f) x.semaphore
        (record (semaphore_at g x.semaphore) { forgotten = (semaphore_at g x.semaphore).forgotten + x.demand })
        else with_permit (without_future g f) i (record { semaphore = x.semaphore; size = x.demand; plain = x.plain })) s) 0 0
        (cond (x.semaphore == s && t) x.demand 0)
    by_form true = recount _ _ _ _ _ _ _ _ refl refl (with_true (x.semaphore == s) x.demand)
        (forgets (without_future g f) x.semaphore (free g x.semaphore) x.demand s)
    by_form false = recount _ _ _ _ _ _ _ _ refl refl (with_false (x.semaphore == s) x.demand) (same (semaphore_at g s))

-- a future goes to the tail
queues : (h : Hall) (f w s : ℕ) (x : Future) → Tallied (semaphore_at h s) (semaphore_at (queueing h f w x) s) 0 0 0
queues h f w s x = put_same h x.semaphore
    (record (semaphore_at h x.semaphore) { free = 0; queue = queue_at h x.semaphore ++ (Waiter f, x.demand - free h x.semaphore) ∷ [] })
    (record {
      made = omega arith;
      released = omega arith;
      forgotten = omega arith;
      owes = omega (arith, sum_by-append {X = Who × ℕ} (λ e. debt_of e.0 e.1) (queue_at h x.semaphore) ((Waiter f, x.demand - free h x.semaphore) ∷ []));
      closed = λ c. c;
    }) s

module _ (h : Hall) (i s : ℕ) where
  open_polls : (f w : ℕ) (x : Future) → Tallied (semaphore_at h s) (semaphore_at (open_poll h i f w x).hall s) 0 0
      (if_ready (forgetting_demand s (Some x)) (open_poll h i f w x).reply)
  open_polls f w x = elim (nat_le x.demand (free h x.semaphore))
      as (λ b. Tallied (semaphore_at h s)
      (semaphore_at (if b then quietly (made_ready (with_semaphore h x.semaphore (taking (semaphore_at h x.semaphore) x.demand)) i f x) answers.Ready
      else quietly (queueing h f w x) answers.Pending).hall s) 0 0
      (if_ready (forgetting_demand s (Some x))
      (if b then quietly (made_ready (with_semaphore h x.semaphore (taking (semaphore_at h x.semaphore) x.demand)) i f x) answers.Ready
      else quietly (queueing h f w x) answers.Pending).reply)) [
        | true ↦ quiet_first _ _ _ _ _ _ (takes h x.semaphore x.demand s)
            (readies (with_semaphore h x.semaphore (taking (semaphore_at h x.semaphore) x.demand)) i f s x)
        | false ↦ queues h f w s x
      ]

  first_polls : (f w : ℕ) (x : Future) (b : Bool) → Tallied (semaphore_at h s) (semaphore_at (if b then refusing h f else open_poll h i f w x).hall s) 0 0
      (if_ready (forgetting_demand s (Some x)) (if b then refusing h f else open_poll h i f w x).reply)
  first_polls f w x true = same (semaphore_at h s)
  first_polls f w x false = open_polls f w x

  polls_at : (f w : ℕ) (x : Future) (t : FutureStage) → Tallied (semaphore_at h s) (semaphore_at (poll_at h i f w x t).hall s) 0 0
      (if_ready (forgetting_demand s (Some x)) (poll_at h i f w x t).reply)
  polls_at f w x New = first_polls f w x (is_closed h x.semaphore)
  polls_at f w x Cut = same (semaphore_at h s)
  polls_at f w x (Waiting u) = same (semaphore_at h s)
  polls_at f w x Granted = readies h i f s x

  closes : (q : ℕ) (b : Bool) → Tallied (semaphore_at h s)
      (semaphore_at (if b then quietly h answers.Done else record { hall = closing h q; reply = answers.Done; wakes = wakes_waiting h q }).hall s) 0 0 0
  closes q true = same (semaphore_at h s)
  closes q false = both _ _ _ _ _ _ _ _ _
      (put_same h q (record (semaphore_at h q) { queue = debts_in (queue_at h q); closed = true })
      (record {
        made = omega arith;
        released = omega arith;
        forgotten = omega arith;
        owes = omega (arith, filtered-owed (λ e. is_debt e.0) (queue_at h q));
        closed = λ c. refl;
      }) s)
      (pours (cutting h q) q (paid_in h.futures (queue_at h q)) s)

  polls : (f w : ℕ) (o : Option Future) → Tallied (semaphore_at h s) (semaphore_at (poll_of h i f w o).hall s) 0 0
      (if_ready (forgetting_demand s o) (poll_of h i f w o).reply)
  polls f w None = same (semaphore_at h s)
  polls f w (Some x) = polls_at f w x x.stage

  news : IsBelow h i → (n : ℕ) → Tallied (semaphore_at h s) (semaphore_at (with_semaphore h i (made_with n)) s) (if_same i s n) 0 0
  news low n =
      let none : semaphore_at h i ≡ made_with 0 = ap (λ o. unwrap_or o (made_with 0)) (no_semaphore_yet h i low) in
      recount _ _ _ _ _ _ _ _ refl (never (i == s)) (never (i == s))
      (put h i n 0 0 (made_with n)
      (subst (λ y. Tallied y (made_with n) n 0 0) (sym none)
      (record { made = omega arith; released = refl; forgotten = refl; owes = omega arith; closed = λ c. absurd (cc) })) s)

  releases : (q n : ℕ) → Tallied (semaphore_at h s) (semaphore_at (pour (released_to h q n) q n) s) 0 (if_same q s n) 0
  releases q n = recount _ _ _ _ _ _ _ _ (omega (arith, never (q == s))) (omega arith) (omega (arith, never (q == s)))
      (both _ _ _ _ _ _ _ _ _ (put h q 0 n 0 (record (semaphore_at h q) { released = (semaphore_at h q).released + n })
      (record { made = omega arith; released = refl; forgotten = omega arith; owes = omega arith; closed = λ c. c }) s) (pours (released_to h q n) q n s))

  pub tallies : IsBelow h i → (e : SemEvent) → Tallied (semaphore_at h s) (semaphore_at (step h i e).hall s) (made_by s (line h i e) e)
      (released_by s e) (forgotten_by s (line h i e) e)
  tallies low (events.New n) = news low n
  tallies low (events.Free q) = same (semaphore_at h s)
  tallies low (events.Forget q n) = forgets h q (free h q - min n (free h q)) (min n (free h q)) s
  tallies low (events.Forgetx q n) = put_forgotten h q n (forgetting_exactly (semaphore_at h q) n)
      (record { made = omega arith; released = omega arith; forgotten = refl; owes = omega (arith, owed-debt (queue_at h q) (n - min n (free h q))); closed = λ c. c }) s
  tallies low (events.Release q n) = releases q n
  tallies low (events.Try q n) = tries h i s q n true
  tallies low (events.Tryo q n) = tries h i s q n false
  tallies low (events.Tryf q n) = tries_and_forgets h i s q n
  tallies low (events.Tryof q n) = tries_and_forgets h i s q n
  tallies low (events.Acq q n) = same (semaphore_at h s)
  tallies low (events.Acqo q n) = same (semaphore_at h s)
  tallies low (events.Acqf q n) = same (semaphore_at h s)
  tallies low (events.Acqof q n) = same (semaphore_at h s)
  tallies low (events.Poll f w) = polls f w (get h.futures f)
  tallies low (events.End k) = ends h i s k (get h.futures k)
  tallies low (events.Lose p) = loses h i s p (get h.permits p)
  tallies low (events.Merge p q) = merges h i s p q (get h.permits p) (get h.permits q)
  tallies low (events.Split p n) = splits h i s p n (get h.permits p)
  tallies low (events.Size p) = same (semaphore_at h s)
  tallies low (events.Endsem q) = put_same h q (record (semaphore_at h q) { named = false })
      (record { made = omega arith; released = omega arith; forgotten = omega arith; owes = omega arith; closed = λ c. c }) s
  tallies low (events.Ledger q) = same (semaphore_at h s)
  tallies low (events.Close q) = closes q (is_closed h q)
  tallies low (events.Closed q) = same (semaphore_at h s)
