-- the queues and the waiting futures of a hall stay matched
use Rattle.std.proofs.Common.{◌≡◌, ℕ, ◌+◌, ◌-◌, ◌<◌, ◌≤◌, ◌==◌, Bool, true, false, cond, List, [], ◌∷◌, ◌++◌, refl, ap, sym, subst, ◌∙◌, arith, Option, Some, None}
use Rattle.std.specs.Option.{option_map}
use Rattle.std.specs.FinMap.{get, insert}
use Rattle.std.proofs.lemmas.List.Sums.{sum_by-append}
use Rattle.std.proofs.lemmas.Bool.{eqb-true, eq-eqb, ne_eqb}
use Rattle.mea_base.specs.Queue.{granted_in}
use Rattle.mea_base.proofs.Maps.{by_put, by_gone, inside}
use Rattle.mea_base.proofs.Tests.{on_true, on_false}
use Rattle.mea_sem_model.specs.Hall.{Hall, Semaphore, Future, FutureStage, New, Waiting, Granted, Cut, Who, Waiter, semaphore_at, queue_at, poured, staged, stage_all, pour, names, lack_of, free, with_semaphore, is_debt, debts_in, everyone, cutting}
use Rattle.mea_sem_model.specs.Step.{with_future, without_future, queueing, without, leaving}
use Rattle.mea_sem_model.specs.Valid.{count, one_if_waiting, waits_at, IsValid}
use Rattle.mea_sem_model.proofs.HallLemmas.{by_semaphore, among, get-stage_all, staged_was}
use Rattle.mea_sem_model.proofs.Pours.{mentions, among_mentions, among_none, mentions-everyone, count-pour, count-debts_in, lack-filter, lack-pour, lack-without, count-without, none_counted}

-- what validity says of queues and futures together
pub record IsMatched (h : Hall) : Type 0 where
  pub once : (s f : ℕ) → count (queue_at h s) f ≡ waits_at s (get h.futures f)
  pub within : (s f : ℕ) (x : Future) → get h.futures f ≡ Some x → lack_of (queue_at h s) f ≤ x.demand

pub matched : (h : Hall) → IsValid h → IsMatched h
matched h v = record { once = v.once; within = v.within }

pub matched_semaphore : (h : Hall) (q : ℕ) (r : Semaphore) → ((f : ℕ) → count r.queue f ≡ count (queue_at h q) f)
    → ((f : ℕ) → lack_of r.queue f ≤ lack_of (queue_at h q) f) → IsMatched h → IsMatched (with_semaphore h q r)
matched_semaphore h q r counts lack v = record {
  once = λ s f. by_semaphore h q r (λ k y. count y.queue f ≡ waits_at k (get h.futures f)) (counts f ∙ v.once q f) (λ k apart. v.once k f) s;
  within = λ s f x there. by_semaphore h q r (λ k y. lack_of y.queue f ≤ x.demand)
      (let old = v.within q f x there in let new = lack f in omega (arith, old, new)) (λ k apart. v.within k f x there) s;
}

pub matched_future : (h : Hall) (k : ℕ) (x : Future) → ((s : ℕ) → waits_at s (get h.futures k) ≡ waits_at s (Some x))
    → ((s : ℕ) → lack_of (queue_at h s) k ≤ x.demand) → IsMatched h → IsMatched (with_future h k x)
matched_future h k x same lack v = record {
  once = λ s f. by_put h.futures k x (λ j o. count (queue_at h s) j ≡ waits_at s o) (v.once s k ∙ same s) (λ j apart. v.once s j) f;
  within = λ s f y there. by_put h.futures k x (λ j o. o ≡ Some y → lack_of (queue_at h s) j ≤ y.demand)
      (λ is. subst (λ (z : Future). lack_of (queue_at h s) k ≤ z.demand) (inside is) (lack s)) (λ j apart is. v.within s j y is) f there;
}

pub matched_no_future : (h : Hall) (k : ℕ) → ((s : ℕ) → waits_at s (get h.futures k) ≡ 0) → IsMatched h → IsMatched (without_future h k)
matched_no_future h k none v = record {
  once = λ s f. by_gone h.futures k (λ j o. count (queue_at h s) j ≡ waits_at s o) (v.once s k ∙ none s) (λ j apart. v.once s j) f;
  within = λ s f y there. by_gone h.futures k (λ j o. o ≡ Some y → lack_of (queue_at h s) j ≤ y.demand) (λ is. absurd (cc))
      (λ j apart is. v.within s j y is) f there;
}

-- a future that isn't waiting lacks nothing
pub lacks_nothing : (h : Hall) (s f : ℕ) → waits_at s (get h.futures f) ≡ 0 → IsMatched h → lack_of (queue_at h s) f ≡ 0
lacks_nothing h s f none v = none_counted (queue_at h s) f (v.once s f ∙ none)

-- a future in a stage of one that does not wait
pub stage_waits : (x : Future) (s : ℕ) (t : FutureStage) → one_if_waiting t ≡ 0 → x.stage ≡ t → waits_at s (Some x) ≡ 0
stage_waits x s t idle is = ap (λ t. cond (x.semaphore == s) (one_if_waiting t) 0) is ∙ none (x.semaphore == s)
  where
    none : (b : Bool) → cond b (one_if_waiting t) 0 ≡ 0
    none true = idle
    none false = refl

pub new_waits : (x : Future) (s : ℕ) → x.stage ≡ New → waits_at s (Some x) ≡ 0
new_waits x s unpolled = stage_waits x s New refl unpolled

pub granted_waits : (x : Future) (s : ℕ) → x.stage ≡ Granted → waits_at s (Some x) ≡ 0
granted_waits x s whole = stage_waits x s Granted refl whole

pub cut_waits : (x : Future) (s : ℕ) → x.stage ≡ Cut → waits_at s (Some x) ≡ 0
cut_waits x s cut = stage_waits x s Cut refl cut

-- a new future goes to the tail
module _ (h : Hall) (f w : ℕ) (x : Future) (is : get h.futures f ≡ Some x) (unpolled : x.stage ≡ New) (v : IsMatched h) where
  waits_none : (s : ℕ) → waits_at s (get h.futures f) ≡ 0
  waits_none s = ap (waits_at s) is ∙ new_waits x s unpolled

  pub queued_once : (s g : ℕ) → count (queue_at (queueing h f w x) s) g ≡ waits_at s (get (queueing h f w x).futures g)
  queued_once s g = by_semaphore h x.semaphore
      (record (semaphore_at h x.semaphore) { free = 0; queue = queue_at h x.semaphore ++ (Waiter f, x.demand - free h x.semaphore) ∷ [] })
      (λ k y. count y.queue g ≡ waits_at k (get (queueing h f w x).futures g))
      (sum_by-append {X = Who × ℕ} (λ d. cond (names d.0 g) 1 0) (queue_at h x.semaphore) ((Waiter f, x.demand - free h x.semaphore) ∷ [])
      ∙ by_put h.futures f (record x { stage = Waiting w }) (λ j o. count (queue_at h x.semaphore) j + (0 + cond (f == j) 1 0) ≡ waits_at x.semaphore o)
      (omega (
        arith,
        on_true (f == f) 1 (eq-eqb f f refl),
        on_true (x.semaphore == x.semaphore) 1
            (eq-eqb x.semaphore x.semaphore refl),
        v.once x.semaphore f,
        waits_none x.semaphore,
      ))
      (λ j apart. omega (arith, on_false (f == j) 1 (ne_eqb f j apart), v.once x.semaphore j)) g)
      (λ k apart. by_put h.futures f (record x { stage = Waiting w }) (λ j o. count (queue_at h k) j ≡ waits_at k o)
      (v.once k f ∙ waits_none k ∙ sym (on_false (x.semaphore == k) 1 (ne_eqb x.semaphore k apart)))
      (λ j other. v.once k j) g) s

  pub queued_within : (s g : ℕ) (y : Future) → get (queueing h f w x).futures g ≡ Some y → lack_of (queue_at (queueing h f w x) s) g ≤ y.demand
  queued_within s g y there = by_semaphore h x.semaphore
      (record (semaphore_at h x.semaphore) { free = 0; queue = queue_at h x.semaphore ++ (Waiter f, x.demand - free h x.semaphore) ∷ [] })
      (λ k z. lack_of z.queue g ≤ y.demand)
      (by_put h.futures f (record x { stage = Waiting w })
      (λ j o. o ≡ Some y → lack_of (queue_at h x.semaphore ++ (Waiter f, x.demand - free h x.semaphore) ∷ []) j ≤ y.demand)
      (λ e. let same : x.demand ≡ y.demand = ap (λ (z : Future). z.demand) (inside e) in
      omega (
        arith,
        same,
        on_true (f == f) (x.demand - free h x.semaphore) (eq-eqb f f refl),
        lacks_nothing h x.semaphore f (waits_none x.semaphore) v,
        sum_by-append {X = Who × ℕ} (λ d. cond (names d.0 f) d.1 0) (queue_at h x.semaphore) ((Waiter f, x.demand - free h x.semaphore) ∷ []),
      ))
      (λ j apart e. omega (
        arith,
        v.within x.semaphore j y e,
        on_false (f == j) (x.demand - free h x.semaphore) (ne_eqb f j apart),
        sum_by-append {X = Who × ℕ} (λ d. cond (names d.0 j) d.1 0) (queue_at h x.semaphore) ((Waiter f, x.demand - free h x.semaphore) ∷ []),
      )) g there)
      (λ k apart. by_put h.futures f (record x { stage = Waiting w }) (λ j o. o ≡ Some y → lack_of (queue_at h k) j ≤ y.demand)
      (λ e. omega (arith, lacks_nothing h k f (waits_none k) v)) (λ j other e. v.within k j y e) g there) s

  pub queued_matched : IsMatched (queueing h f w x)
  queued_matched = record { once = queued_once; within = queued_within }

-- a waiting future leaves the queue and the hall
module _ (h : Hall) (f : ℕ) (x : Future) (is : get h.futures f ≡ Some x) (v : IsMatched h) where
  pub left_once : (s g : ℕ) → count (queue_at (leaving h f x) s) g ≡ waits_at s (get (leaving h f x).futures g)
  left_once s g = by_semaphore h x.semaphore (record (semaphore_at h x.semaphore) { queue = without (queue_at h x.semaphore) f })
      (λ k y. count y.queue g ≡ waits_at k (get (leaving h f x).futures g))
      (count-without (queue_at h x.semaphore) f g ∙ by_gone h.futures f (λ j o. cond (f == j) 0 (count (queue_at h x.semaphore) j) ≡ waits_at x.semaphore o)
      (ap (λ b. cond b 0 (count (queue_at h x.semaphore) f)) (eq-eqb f f refl))
      (λ j apart. ap (λ b. cond b 0 (count (queue_at h x.semaphore) j)) (ne_eqb f j apart) ∙ v.once x.semaphore j) g)
      (λ k apart. by_gone h.futures f (λ j o. count (queue_at h k) j ≡ waits_at k o)
      (v.once k f ∙ ap (waits_at k) is ∙ on_false (x.semaphore == k) (one_if_waiting x.stage) (ne_eqb x.semaphore k apart))
      (λ j other. v.once k j) g) s

  pub left_within : (s g : ℕ) (y : Future) → get (leaving h f x).futures g ≡ Some y → lack_of (queue_at (leaving h f x) s) g ≤ y.demand
  left_within s g y there = by_semaphore h x.semaphore (record (semaphore_at h x.semaphore) { queue = without (queue_at h x.semaphore) f })
      (λ k z. lack_of z.queue g ≤ y.demand)
      (by_gone h.futures f (λ j o. o ≡ Some y → lack_of (without (queue_at h x.semaphore) f) j ≤ y.demand) (λ e. absurd (cc))
      (λ j apart e. omega (arith, lack-without (queue_at h x.semaphore) f j, v.within x.semaphore j y e)) g there)
      (λ k apart. by_gone h.futures f (λ j o. o ≡ Some y → lack_of (queue_at h k) j ≤ y.demand) (λ e. absurd (cc)) (λ j other e. v.within k j y e) g there) s

  pub left_matched : IsMatched (leaving h f x)
  left_matched = record { once = left_once; within = left_within }

-- ---- who waits at most once
pub one_at_most : (s : ℕ) (o : Option Future) → waits_at s o ≤ 1
one_at_most s None = omega arith
one_at_most s (Some x) = by_test (x.semaphore == s) x.stage
  where
    by_test : (b : Bool) (t : FutureStage) → cond b (one_if_waiting t) 0 ≤ 1
    by_test true New = omega arith
    by_test true (Waiting w) = omega arith
    by_test true Granted = omega arith
    by_test true Cut = omega arith
    by_test false t = omega arith

-- one that waits in the queue of s is of s, and waits
pub is_waiting : (s : ℕ) (x : Future) → 0 < waits_at s (Some x) → (x.semaphore ≡ s) × (one_if_waiting x.stage ≡ 1)
is_waiting s x some = by_test (x.semaphore == s) refl x.stage some
  where
    by_test : (b : Bool) → (x.semaphore == s) ≡ b → (t : FutureStage) → 0 < cond b (one_if_waiting t) 0 → (x.semaphore ≡ s) × (one_if_waiting t ≡ 1)
    by_test true e New p = absurd (omega arith)
    by_test true e (Waiting w) p = (eqb-true _ _ e, refl)
    by_test true e Granted p = absurd (omega arith)
    by_test true e Cut p = absurd (omega arith)
    by_test false e t p = absurd (omega arith)

-- who came to a stage of one that does not wait
staged_none : (t : FutureStage) → one_if_waiting t ≡ 0 → (s : ℕ) (o : Option Future) → waits_at s (option_map (staged t) o) ≡ 0
staged_none t idle s None = refl
staged_none t idle s (Some x) = by_test (x.semaphore == s)
  where
    by_test : (b : Bool) → cond b (one_if_waiting t) 0 ≡ 0
    by_test true = idle
    by_test false = refl

-- some leave the queue of q, and come to a stage of one that does not wait
module _ (h : Hall) (q : ℕ) (t : FutureStage) (ws : List Who) (r : Semaphore) (idle : one_if_waiting t ≡ 0)
    (splits : (f : ℕ) → count r.queue f + mentions ws f ≡ count (queue_at h q) f) (lacks : (f : ℕ) → lack_of r.queue f ≤ lack_of (queue_at h q) f)
    (v : IsMatched h) where
  -- one who leaves did wait in this queue
  pub left_waited : (f : ℕ) → among ws f ≡ true → 0 < waits_at q (get h.futures f)
  left_waited f a = omega (arith, among_mentions ws f a, splits f, v.once q f)

  -- and in no other
  waited_here : (s f : ℕ) (o : Option Future) → get h.futures f ≡ o → 0 < waits_at q o → (q ≡ s → ⊥) → waits_at s o ≡ 0
  waited_here s f None is some apart = refl
  waited_here s f (Some x) is some apart = on_false (x.semaphore == s) (one_if_waiting x.stage)
      (ne_eqb x.semaphore s (λ e. apart (sym (is_waiting q x some).0 ∙ e)))

  left_here : (f : ℕ) (b : Bool) → among ws f ≡ b
      → count r.queue f ≡ waits_at q (cond b (option_map (staged t) (get h.futures f)) (get h.futures f))
  left_here f true a = omega (
    arith,
    among_mentions ws f a,
    splits f,
    v.once q f,
    one_at_most q (get h.futures f),
    staged_none t idle q (get h.futures f),
  )
  left_here f false a = omega (arith, among_none ws f a, splits f, v.once q f)

  left_there : (s f : ℕ) (b : Bool) → (q ≡ s → ⊥) → among ws f ≡ b
      → count (queue_at h s) f ≡ waits_at s (cond b (option_map (staged t) (get h.futures f)) (get h.futures f))
  left_there s f true apart a = v.once s f ∙ waited_here s f (get h.futures f) refl (left_waited f a) apart ∙ sym (staged_none t idle s (get h.futures f))
  left_there s f false apart a = v.once s f

  pub staged_matched : IsMatched (record h { semaphores = insert h.semaphores q r; futures = stage_all t ws h.futures })
  staged_matched = record {
    once = λ s f. subst (λ o. count (queue_at (with_semaphore h q r) s) f ≡ waits_at s o) (sym (get-stage_all t ws h.futures f))
        (by_semaphore h q r
        (λ k y. count y.queue f ≡ waits_at k (cond (among ws f) (option_map (staged t) (get h.futures f)) (get h.futures f)))
        (left_here f (among ws f) refl) (λ k apart. left_there k f (among ws f) apart refl) s);
    within = λ s f y there.
        let old = staged_was t (among ws f) (get h.futures f) y (sym (get-stage_all t ws h.futures f) ∙ there) in
        by_semaphore h q r (λ k z. lack_of z.queue f ≤ y.demand)
        (omega (arith, lacks f, v.within q f old.0 old.1, old.2)) (λ k apart. omega (arith, v.within k f old.0 old.1, old.2)) s;
  }

-- ---- a pour
module _ (h : Hall) (q n : ℕ) (v : IsMatched h) where
  -- one who is granted did wait in this queue
  pub granted_waited : (f : ℕ) → among (granted_in (queue_at h q) n) f ≡ true → 0 < waits_at q (get h.futures f)
  granted_waited f a = left_waited h q Granted (granted_in (queue_at h q) n) (poured (semaphore_at h q) n) refl (count-pour (queue_at h q) n)
      (lack-pour (queue_at h q) n) v f a

  pub pour_matched : IsMatched (pour h q n)
  pour_matched = staged_matched h q Granted (granted_in (queue_at h q) n) (poured (semaphore_at h q) n) refl (count-pour (queue_at h q) n)
      (lack-pour (queue_at h q) n) v

-- ---- a semaphore is closed
module _ (h : Hall) (q : ℕ) (v : IsMatched h) where
  abbrev closed : Semaphore
  closed = record (semaphore_at h q) { queue = debts_in (queue_at h q); closed = true }

  cut_splits : (f : ℕ) → count (debts_in (queue_at h q)) f + mentions (everyone (queue_at h q)) f ≡ count (queue_at h q) f
  cut_splits f = omega (arith, count-debts_in (queue_at h q) f, mentions-everyone (queue_at h q) f)

  cut_lacks : (f : ℕ) → lack_of (debts_in (queue_at h q)) f ≤ lack_of (queue_at h q) f
  cut_lacks f = lack-filter (λ e. is_debt e.0) (queue_at h q) f

  -- one who is cut did wait in this queue
  pub cut_waited : (f : ℕ) → among (everyone (queue_at h q)) f ≡ true → 0 < waits_at q (get h.futures f)
  cut_waited f a = left_waited h q Cut (everyone (queue_at h q)) closed refl cut_splits cut_lacks v f a

  pub cutting_matched : IsMatched (cutting h q)
  cutting_matched = staged_matched h q Cut (everyone (queue_at h q)) closed refl cut_splits cut_lacks v
