-- what each change of a hall moves, where all lacks are counted and a polled future counts its whole demand
use Rattle.std.proofs.Common.{◌≡◌, ℕ, ◌+◌, ◌-◌, ◌<◌, ◌≤◌, ◌==◌, Bool, true, false, cond, List, [], refl, ap, sym, subst, ◌∙◌, arith, Option, Some, None}
use Rattle.std.specs.Option.{option_map, IsSome}
use Rattle.std.specs.Ordering.{nat_cmp}
use Rattle.std.specs.FinMap.{FinMap, get, insert}
use Rattle.std.proofs.lemmas.Bool.{eqb-true}
use Rattle.mea_base.specs.Totals.{total, weight}
use Rattle.mea_base.specs.Queue.{lacks, waiting_after, granted_in}
use Rattle.mea_base.proofs.Totals.{total-insert, total-remove, total-alike}
use Rattle.mea_base.proofs.Queues.{lacks-waiting_after}
use Rattle.mea_base.proofs.Maps.{by_put, by_gone, is_absent}
use Rattle.mea_sem_model.specs.Hall.{Hall, Semaphore, Future, Permit, FutureStage, New, Waiting, Granted, Cut, Who, semaphore_at, queue_at, is_closed, poured, stage_all, granted, pour, lack_of, free, plain_things, with_semaphore}
use Rattle.mea_sem_model.specs.Cause.{is_named}
use Rattle.mea_sem_model.specs.Step.{with_future, without_future, with_permit, without_permit}
use Rattle.mea_sem_model.specs.Valid.{count, one_if_waiting, waits_at, AllLack, HasDebtsFirst, IsBelow}
use Rattle.mea_sem_model.proofs.HallLemmas.{semaphore_put, among, get-grant_all, names_staged, semaphore_named}
use Rattle.mea_sem_model.proofs.Matched.{IsMatched, matched_semaphore, matched_no_future, is_waiting, granted_waited, pour_matched}
use Rattle.mea_sem_model.proofs.Orderly.{IsOrderly, orderly_semaphore, orderly_permit, orderly_no_permit, orderly_no_future, orderly_pour}

-- what a future has taken or is promised: its demand, once it was polled
abbrev pub taken : ℕ → FutureStage → ℕ
taken n New = 0
taken n (Waiting w) = n
taken n Granted = n
taken n Cut = 0

abbrev pub taken_by : ℕ → ℕ → Future → ℕ
taken_by s f x = cond (x.semaphore == s) (taken x.demand x.stage) 0

abbrev pub held_by : ℕ → ℕ → Permit → ℕ
held_by s k p = cond (p.semaphore == s) p.size 0

abbrev pub committed : FinMap nat_cmp Future → ℕ → ℕ
committed m s = total (taken_by s) m

abbrev pub held_in : FinMap nat_cmp Permit → ℕ → ℕ
held_in m s = total (held_by s) m

-- a came to s and b left it
abbrev pub Moves : Hall → Hall → ℕ → ℕ → ℕ → Type 0
Moves h g s a b = a + lacks (queue_at g s) + (free h s + held_in h.permits s + committed h.futures s) ≡ lacks
    (queue_at h s) + (free g s + held_in g.permits s + committed g.futures s) + b

pub moves_semaphore : (h : Hall) (q a b : ℕ) (r : Semaphore) → a + lacks r.queue + free h q ≡ lacks (queue_at h q) + r.free + b → (s : ℕ)
    → Moves h (with_semaphore h q r) s (cond (q == s) a 0) (cond (q == s) b 0)
moves_semaphore h q a b r change s = subst
    (λ (y : Semaphore). cond (q == s) a 0 + lacks y.queue + (free h s + held_in h.permits s + committed h.futures s) ≡ lacks
    (queue_at h s) + (y.free + held_in h.permits s + committed h.futures s) + cond (q == s) b 0) (sym (semaphore_put h q s r)) (at_test (q == s) refl)
  where
    at_test : (t : Bool) → (q == s) ≡ t → cond t a 0 + lacks
        (cond t r (semaphore_at h s)).queue + (free h s + held_in h.permits s + committed h.futures s) ≡ lacks
        (queue_at h s) + ((cond t r (semaphore_at h s)).free + held_in h.permits s + committed h.futures s) + cond t b 0
    at_test true e =
        let change_here : a + lacks r.queue + free h s ≡ lacks (queue_at h s) + r.free + b =
        subst (λ k. a + lacks r.queue + free h k ≡ lacks (queue_at h k) + r.free + b) (eqb-true q s e) change in
        omega (arith, change_here)
    at_test false e = omega arith

pub moves_permit : (h : Hall) (k s : ℕ) (p : Permit) → Moves h (with_permit h k p) s (held_by s k p) (weight (held_by s) k (get h.permits k))
moves_permit h k s p = omega (arith, total-insert (held_by s) h.permits k p)

pub moves_no_permit : (h : Hall) (k s : ℕ) → Moves h (without_permit h k) s 0 (weight (held_by s) k (get h.permits k))
moves_no_permit h k s = omega (arith, total-remove (held_by s) h.permits k)

pub moves_future : (h : Hall) (k s : ℕ) (x : Future) → Moves h (with_future h k x) s (taken_by s k x) (weight (taken_by s) k (get h.futures k))
moves_future h k s x = omega (arith, total-insert (taken_by s) h.futures k x)

pub moves_no_future : (h : Hall) (k s : ℕ) → Moves h (without_future h k) s 0 (weight (taken_by s) k (get h.futures k))
moves_no_future h k s = omega (arith, total-remove (taken_by s) h.futures k)

module _ (h : Hall) (q n : ℕ) (v : IsMatched h) where
  -- those who are granted have taken their demand before
  taken_kept : (s f : ℕ) (b : Bool) → among (granted_in (queue_at h q) n) f ≡ b → (o : Option Future) → get h.futures f ≡ o
      → weight (taken_by s) f (cond b (option_map granted o) o) ≡ weight (taken_by s) f o
  taken_kept s f false a o is = refl
  taken_kept s f true a None is = refl
  taken_kept s f true a (Some x) is = ap (λ k. cond (x.semaphore == s) k 0)
      (by_stage x.stage (is_waiting q x (subst (λ o. 0 < waits_at q o) is (granted_waited h q n v f a))).1)
    where
      by_stage : (t : FutureStage) → one_if_waiting t ≡ 1 → x.demand ≡ taken x.demand t
      by_stage New e = absurd (omega arith)
      by_stage (Waiting w) e = refl
      by_stage Granted e = refl
      by_stage Cut e = absurd (omega arith)

  pub pour_moves : (s : ℕ) → Moves h (pour h q n) s (cond (q == s) n 0) 0
  pour_moves s =
      let kept : committed (pour h q n).futures s ≡ committed h.futures s = total-alike (taken_by s) (taken_by s) _ h.futures
      (λ f. ap (weight (taken_by s) f) (get-grant_all (granted_in (queue_at h q) n) h.futures f)
      ∙ taken_kept s f (among (granted_in (queue_at h q) n) f) refl (get h.futures f) refl) in
      let change : n + lacks (waiting_after (queue_at h q) n) + free h q ≡ lacks (queue_at h q) + (free h q + (n - lacks (queue_at h q))) + 0 =
      omega (arith, lacks-waiting_after (queue_at h q) n) in
      let moved : Moves h (with_semaphore h q (poured (semaphore_at h q) n)) s (cond (q == s) n 0) (cond (q == s) 0 0) =
      moves_semaphore h q n 0 (poured (semaphore_at h q) n) change s in
      omega (arith, kept, moved, both_zero (q == s))
    where
      both_zero : (b : Bool) → ◌≡◌ {A = ℕ} (cond b 0 0) 0
      both_zero true = refl
      both_zero false = refl

-- ---- names stay below the next
pub below_semaphore : (h : Hall) (k n : ℕ) (r : Semaphore) → k < n → IsBelow h n → IsBelow (with_semaphore h k r) n
below_semaphore h k n r small b = record {
  semaphores = λ j there. by_put h.semaphores k r (λ i o. IsSome o → i < n) (λ e. small) (λ i apart e. b.semaphores i e) j there;
  futures = b.futures;
  permits = b.permits;
}

pub below_future : (h : Hall) (k n : ℕ) (x : Future) → k < n → IsBelow h n → IsBelow (with_future h k x) n
below_future h k n x small b = record {
  semaphores = b.semaphores;
  futures = λ j there. by_put h.futures k x (λ i o. IsSome o → i < n) (λ e. small) (λ i apart e. b.futures i e) j there;
  permits = b.permits;
}

pub below_no_future : (h : Hall) (k n : ℕ) → IsBelow h n → IsBelow (without_future h k) n
below_no_future h k n b = record {
  semaphores = b.semaphores;
  futures = λ j there. by_gone h.futures k (λ i o. IsSome o → i < n) (λ e. absurd (cc)) (λ i apart e. b.futures i e) j there;
  permits = b.permits;
}

below_permit : (h : Hall) (k n : ℕ) (x : Permit) → k < n → IsBelow h n → IsBelow (with_permit h k x) n
below_permit h k n x small b = record {
  semaphores = b.semaphores;
  futures = b.futures;
  permits = λ j there. by_put h.permits k x (λ i o. IsSome o → i < n) (λ e. small) (λ i apart e. b.permits i e) j there;
}

below_no_permit : (h : Hall) (k n : ℕ) → IsBelow h n → IsBelow (without_permit h k) n
below_no_permit h k n b = record {
  semaphores = b.semaphores;
  futures = b.futures;
  permits = λ j there. by_gone h.permits k (λ i o. IsSome o → i < n) (λ e. absurd (cc)) (λ i apart e. b.permits i e) j there;
}

-- some come to a stage
pub below_staged : (h : Hall) (q n : ℕ) (t : FutureStage) (ws : List Who) (r : Semaphore) → IsSome (get h.semaphores q) → IsBelow h n
    → IsBelow (record h { semaphores = insert h.semaphores q r; futures = stage_all t ws h.futures }) n
below_staged h q n t ws r there b = record {
  semaphores = (below_semaphore h q n r (b.semaphores q there) b).semaphores;
  futures = λ j has. b.futures j (sym (names_staged t ws h.futures j) ∙ has);
  permits = b.permits;
}

pub below_more : (h : Hall) (n : ℕ) → IsBelow h n → IsBelow h (n + 1)
below_more h n b = record {
  semaphores = λ k there. let small = b.semaphores k there in omega (arith, small);
  futures = λ k there. let small = b.futures k there in omega (arith, small);
  permits = λ k there. let small = b.permits k there in omega (arith, small);
}

-- a name that is not below
pub no_semaphore_yet : (h : Hall) (i : ℕ) → IsBelow h i → get h.semaphores i ≡ None
no_semaphore_yet h i b = is_absent (get h.semaphores i) (λ some. absurd (omega (arith, b.semaphores i some)))

pub no_future_yet : (h : Hall) (i : ℕ) → IsBelow h i → get h.futures i ≡ None
no_future_yet h i b = is_absent (get h.futures i) (λ some. absurd (omega (arith, b.futures i some)))

pub no_permit_yet : (h : Hall) (i : ℕ) → IsBelow h i → get h.permits i ≡ None
no_permit_yet h i b = is_absent (get h.permits i) (λ some. absurd (omega (arith, b.permits i some)))

-- ---- a change of a hall whose names are below n: a came to each semaphore, and b left it
pub record Changed (h g : Hall) (n : ℕ) (a b : ℕ → ℕ) : Type 0 where
  pub moves : (s : ℕ) → Moves h g s (a s) (b s)
  pub matched : IsMatched g
  pub orderly : IsOrderly g
  pub below : IsBelow g n

-- one change after another
pub after : (h g k : Hall) (n : ℕ) (a b c d : ℕ → ℕ) → Changed h g n a b → Changed g k n c d → Changed h k n (λ s. a s + c s) (λ s. b s + d s)
after h g k n a b c d p q = record { moves = λ s. omega (arith, p.moves s, q.moves s); matched = q.matched; orderly = q.orderly; below = q.below }

-- the same change, counted otherwise
pub retold : (h g : Hall) (n : ℕ) (a b c d : ℕ → ℕ) → ((s : ℕ) → a s + d s ≡ c s + b s) → Changed h g n a b → Changed h g n c d
retold h g n a b c d same p = record { moves = λ s. omega (arith, p.moves s, same s); matched = p.matched; orderly = p.orderly; below = p.below }

module _ (h : Hall) (n : ℕ) (m : IsMatched h) (v : IsOrderly h) (low : IsBelow h n) where
  pub nothing : Changed h h n (λ s. 0) (λ s. 0)
  nothing = record { moves = λ s. omega arith; matched = m; orderly = v; below = low }

  pub to_semaphore : (q a b : ℕ) (r : Semaphore) → q < n → (get h.futures q ≡ None) × (get h.permits q ≡ None)
      → a + lacks r.queue + free h q ≡ lacks (queue_at h q) + r.free + b
      → ((f : ℕ) → count r.queue f ≡ count (queue_at h q) f) → ((f : ℕ) → lack_of r.queue f ≤ lack_of (queue_at h q) f) → AllLack r.queue
      → HasDebtsFirst r.queue → (0 < r.free → r.queue ≡ []) → (0 < plain_things h q → r.named ≡ true) → r.closed ≡ is_closed h q
      → Changed h (with_semaphore h q r) n (λ s. cond (q == s) a 0) (λ s. cond (q == s) b 0)
  to_semaphore q a b r small apart change counts lack lacking first idle plain same = record {
    moves = moves_semaphore h q a b r change;
    matched = matched_semaphore h q r counts lack m;
    orderly = orderly_semaphore h q r apart lacking first idle plain same v;
    below = below_semaphore h q n r small low;
  }

  -- the free permits and the tallies alone
  pub to_numbers : (q a b k made released forgotten : ℕ) → IsSome (get h.semaphores q) → k ≤ free h q → a + free h q ≡ k + b
      → Changed h (with_semaphore h q
      (record { free = k; queue = queue_at h q; made = made; released = released; forgotten = forgotten; named = (semaphore_at h q).named; closed = is_closed h q })) n
      (λ s. cond (q == s) a 0) (λ s. cond (q == s) b 0)
  to_numbers q a b k made released forgotten there less change =
      to_semaphore q a b
      (record { free = k; queue = queue_at h q; made = made; released = released; forgotten = forgotten; named = (semaphore_at h q).named; closed = is_closed h q })
      (low.semaphores q there) (v.semaphores_apart q there) (omega (arith, change)) (λ f. refl) (λ f. omega arith) (v.lacking q) (v.debts_first q)
      (λ some. let more : 0 < free h q = omega arith in v.idle q more) (λ some. semaphore_named h q (v.named q some)) refl

  pub to_permit : (k : ℕ) (p : Permit) → k < n → (get h.semaphores k ≡ None) × (get h.futures k ≡ None) → IsSome (get h.semaphores p.semaphore)
      → (p.plain ≡ true → is_named h p.semaphore ≡ true)
      → Changed h (with_permit h k p) n (λ s. held_by s k p) (λ s. weight (held_by s) k (get h.permits k))
  to_permit k p small apart of plain = record {
    moves = λ s. moves_permit h k s p;
    matched = record { once = m.once; within = m.within };
    orderly = orderly_permit h k p apart of plain v;
    below = below_permit h k n p small low;
  }

  pub to_no_permit : (k : ℕ) → Changed h (without_permit h k) n (λ s. 0) (λ s. weight (held_by s) k (get h.permits k))
  to_no_permit k = record {
    moves = λ s. moves_no_permit h k s;
    matched = record { once = m.once; within = m.within };
    orderly = orderly_no_permit h k v;
    below = below_no_permit h k n low;
  }

  pub to_no_future : (k : ℕ) → ((s : ℕ) → waits_at s (get h.futures k) ≡ 0)
      → Changed h (without_future h k) n (λ s. 0) (λ s. weight (taken_by s) k (get h.futures k))
  to_no_future k none = record {
    moves = λ s. moves_no_future h k s;
    matched = matched_no_future h k none m;
    orderly = orderly_no_future h k v;
    below = below_no_future h k n low;
  }

  pub to_pour : (q k : ℕ) → IsSome (get h.semaphores q) → Changed h (pour h q k) n (λ s. cond (q == s) k 0) (λ s. 0)
  to_pour q k there = record {
    moves = pour_moves h q k m;
    matched = pour_matched h q k m;
    orderly = orderly_pour h q k there v;
    below = below_staged h q n Granted (granted_in (queue_at h q) k) (poured (semaphore_at h q) k) there low;
  }
