-- what changes of futures and permits do to the held permits and the plain things of each semaphore
use Rattle.std.proofs.Common.{◌≡◌, ℕ, ◌+◌, ◌==◌, ◌&&◌, Bool, true, false, cond, List, refl, ap, ◌∙◌, arith, Option, Some, None}
use Rattle.std.specs.Option.{option_map}
use Rattle.std.specs.FinMap.{get, insert}
use Rattle.mea_base.specs.Queue.{granted_in}
use Rattle.mea_base.specs.Totals.{weight}
use Rattle.mea_base.proofs.Totals.{total-insert, total-remove, total-alike}
use Rattle.mea_sem_model.specs.Hall.{Hall, Semaphore, Future, Permit, FutureStage, Granted, Who, semaphore_at, queue_at, held, staged, stage_all, poured, pour, with_semaphore}
use Rattle.mea_sem.specs.Kept.{things_by}
use Rattle.mea_sem_model.specs.Step.{with_future, without_future, with_permit, without_permit}
use Rattle.mea_sem_model.proofs.HallLemmas.{among, get-stage_all}
use Rattle.mea_sem_model.proofs.Events.{sum_if}

-- how many things leave or come, of those that a test of their form chooses
abbrev pub Things : Type 0
Things = (Bool → Bool) → ℕ

abbrev pub thing : Bool → Things
thing plain chosen = cond (chosen plain) 1 0

abbrev pub nothing : Things
nothing chosen = 0

-- the tests that choose plain things, and all things
abbrev pub if_plain : Bool → Bool
if_plain plain = plain

abbrev pub always : Bool → Bool
always plain = true

-- permits of a and the things p leave s, and permits of b and the things r come
pub record Weighs (h g : Hall) (s a b : ℕ) (p r : Things) : Type 0 where
  pub held : (q : ℕ) → held g q + cond (s == q) a 0 ≡ held h q + cond (s == q) b 0
  pub things : (chosen : Bool → Bool) (q : ℕ) → things_by chosen g q + cond (s == q) (p chosen) 0 ≡ things_by chosen h q + cond (s == q) (r chosen) 0

abbrev pub one : Bool → ℕ
one plain = cond plain 1 0

pub weighs_after : (h g k : Hall) (s a b : ℕ) (p r : Things) (c d : ℕ) (t u : Things) → Weighs h g s a b p r → Weighs g k s c d t u
    → Weighs h k s (a + c) (b + d) (λ chosen. p chosen + t chosen) (λ chosen. r chosen + u chosen)
weighs_after h g k s a b p r c d t u x y = record {
  held = λ q. omega (arith, x.held q, y.held q, sum_if (s == q) a c, sum_if (s == q) b d);
  things = λ chosen q. omega (arith, x.things chosen q, y.things chosen q, sum_if (s == q) (p chosen) (t chosen), sum_if (s == q) (r chosen) (u chosen));
}

-- what leaves and comes again is as if it stayed
pub weighs_as : (h g : Hall) (s a b : ℕ) (p r : Things) (c d : ℕ) (t u : Things) → Weighs h g s a b p r → a + d ≡ c + b
    → ((chosen : Bool → Bool) → p chosen + u chosen ≡ t chosen + r chosen) → Weighs h g s c d t u
weighs_as h g s a b p r c d t u x same same_things = record {
  held = λ q. (let w = x.held q in by_test (s == q) (held g q) (held h q) a b c d w same);
  things = λ chosen q. (let w = x.things chosen q in
      by_test (s == q) (things_by chosen g q) (things_by chosen h q) (p chosen) (r chosen) (t chosen) (u chosen) w (same_things chosen));
}
  where
    by_test : (z : Bool) (m n v w x y : ℕ) → m + cond z v 0 ≡ n + cond z w 0 → v + y ≡ x + w → m + cond z x 0 ≡ n + cond z y 0
    by_test true m n v w x y e f = omega arith
    by_test false m n v w x y e f = e

pub weighs_semaphore : (h : Hall) (q s : ℕ) (r : Semaphore) → Weighs h (with_semaphore h q r) s 0 0 nothing nothing
weighs_semaphore h q s r = record { held = λ k. refl; things = λ chosen k. refl }

nothing_if : (t : Bool) → ◌≡◌ {A = ℕ} (cond t 0 0) 0
nothing_if true = refl
nothing_if false = refl

thing_if : (t u : Bool) → cond (t && u) 1 0 ≡ cond t (one u) 0
thing_if true u = refl
thing_if false u = refl

-- ---- permits
module _ (h : Hall) (k : ℕ) where
  pub weighs_new_permit : (x : Permit) → get h.permits k ≡ None → Weighs h (with_permit h k x) x.semaphore 0 x.size nothing (thing x.plain)
  weighs_new_permit x none = record {
    held = λ q. (let w = total-insert (λ j (p : Permit). cond (p.semaphore == q) p.size 0) h.permits k x in
        let n : weight (λ j (p : Permit). cond (p.semaphore == q) p.size 0) k (get h.permits k) ≡ 0 =
        ap (weight (λ j (p : Permit). cond (p.semaphore == q) p.size 0) k) none in
        let z = nothing_if (x.semaphore == q) in omega (arith, w, n, z));
    things = λ chosen q. (let w = total-insert (λ j (p : Permit). cond (p.semaphore == q && chosen p.plain) 1 0) h.permits k x in
        let n : weight (λ j (p : Permit). cond (p.semaphore == q && chosen p.plain) 1 0) k (get h.permits k) ≡ 0 =
        ap (weight (λ j (p : Permit). cond (p.semaphore == q && chosen p.plain) 1 0) k) none in
        let z = nothing_if (x.semaphore == q) in omega (arith, w, n, z, thing_if (x.semaphore == q) (chosen x.plain)));
  }

  -- another size
  pub weighs_permit : (x y : Permit) → get h.permits k ≡ Some y → y.semaphore ≡ x.semaphore → y.plain ≡ x.plain
      → Weighs h (with_permit h k x) x.semaphore y.size x.size nothing nothing
  weighs_permit x y there mine form = record {
    held = λ q. (let w = total-insert (λ j (p : Permit). cond (p.semaphore == q) p.size 0) h.permits k x in
        let n : weight (λ j (p : Permit). cond (p.semaphore == q) p.size 0) k (get h.permits k) ≡ cond (x.semaphore == q) y.size 0 =
        ap (weight (λ j (p : Permit). cond (p.semaphore == q) p.size 0) k) there ∙ ap (λ s. cond (s == q) y.size 0) mine in
        omega (arith, w, n));
    things = λ chosen q. (let w = total-insert (λ j (p : Permit). cond (p.semaphore == q && chosen p.plain) 1 0) h.permits k x in
        let n : weight (λ j (p : Permit). cond (p.semaphore == q && chosen p.plain) 1 0) k (get h.permits k) ≡ cond (x.semaphore == q && chosen x.plain) 1 0 =
        ap (weight (λ j (p : Permit). cond (p.semaphore == q && chosen p.plain) 1 0) k) there ∙ ap (λ s. cond (s == q && chosen y.plain) 1 0) mine
        ∙ ap (λ t. cond (x.semaphore == q && chosen t) 1 0) form in
        omega (arith, w, n));
  }

  pub weighs_lost_permit : (y : Permit) → get h.permits k ≡ Some y → Weighs h (without_permit h k) y.semaphore y.size 0 (thing y.plain) nothing
  weighs_lost_permit y there = record {
    held = λ q. (let w = total-remove (λ j (p : Permit). cond (p.semaphore == q) p.size 0) h.permits k in
        let n : weight (λ j (p : Permit). cond (p.semaphore == q) p.size 0) k (get h.permits k) ≡ cond (y.semaphore == q) y.size 0 =
        ap (weight (λ j (p : Permit). cond (p.semaphore == q) p.size 0) k) there in
        let z = nothing_if (y.semaphore == q) in omega (arith, w, n, z));
    things = λ chosen q. (let w = total-remove (λ j (p : Permit). cond (p.semaphore == q && chosen p.plain) 1 0) h.permits k in
        let n : weight (λ j (p : Permit). cond (p.semaphore == q && chosen p.plain) 1 0) k (get h.permits k) ≡ cond (y.semaphore == q && chosen y.plain) 1 0 =
        ap (weight (λ j (p : Permit). cond (p.semaphore == q && chosen p.plain) 1 0) k) there in
        let z = nothing_if (y.semaphore == q) in omega (arith, w, n, z, thing_if (y.semaphore == q) (chosen y.plain)));
  }

  -- ---- futures
  pub weighs_new_future : (x : Future) → get h.futures k ≡ None → Weighs h (with_future h k x) x.semaphore 0 0 nothing (thing x.plain)
  weighs_new_future x none = record {
    held = λ q. refl;
    things = λ chosen q. (let w = total-insert (λ j (p : Future). cond (p.semaphore == q && chosen p.plain) 1 0) h.futures k x in
        let n : weight (λ j (p : Future). cond (p.semaphore == q && chosen p.plain) 1 0) k (get h.futures k) ≡ 0 =
        ap (weight (λ j (p : Future). cond (p.semaphore == q && chosen p.plain) 1 0) k) none in
        let z = nothing_if (x.semaphore == q) in omega (arith, w, n, z, thing_if (x.semaphore == q) (chosen x.plain)));
  }

  -- another stage
  pub weighs_future : (x y : Future) → get h.futures k ≡ Some y → y.semaphore ≡ x.semaphore → y.plain ≡ x.plain
      → Weighs h (with_future h k x) x.semaphore 0 0 nothing nothing
  weighs_future x y there mine form = record {
    held = λ q. refl;
    things = λ chosen q. (let w = total-insert (λ j (p : Future). cond (p.semaphore == q && chosen p.plain) 1 0) h.futures k x in
        let n : weight (λ j (p : Future). cond (p.semaphore == q && chosen p.plain) 1 0) k (get h.futures k) ≡ cond (x.semaphore == q && chosen x.plain) 1 0 =
        ap (weight (λ j (p : Future). cond (p.semaphore == q && chosen p.plain) 1 0) k) there ∙ ap (λ s. cond (s == q && chosen y.plain) 1 0) mine
        ∙ ap (λ t. cond (x.semaphore == q && chosen t) 1 0) form in
        omega (arith, w, n));
  }

  pub weighs_lost_future : (y : Future) → get h.futures k ≡ Some y → Weighs h (without_future h k) y.semaphore 0 0 (thing y.plain) nothing
  weighs_lost_future y there = record {
    held = λ q. refl;
    things = λ chosen q. (let w = total-remove (λ j (p : Future). cond (p.semaphore == q && chosen p.plain) 1 0) h.futures k in
        let n : weight (λ j (p : Future). cond (p.semaphore == q && chosen p.plain) 1 0) k (get h.futures k) ≡ cond (y.semaphore == q && chosen y.plain) 1 0 =
        ap (weight (λ j (p : Future). cond (p.semaphore == q && chosen p.plain) 1 0) k) there in
        let z = nothing_if (y.semaphore == q) in omega (arith, w, n, z, thing_if (y.semaphore == q) (chosen y.plain)));
  }

-- ---- pours
same_weight : (chosen : Bool → Bool) (z : FutureStage) (q k : ℕ) (t : Bool) (o : Option Future) → weight (λ j (p : Future). cond (p.semaphore == q && chosen p.plain) 1 0) k
    (cond t (option_map (staged z) o) o) ≡ weight (λ j (p : Future). cond (p.semaphore == q && chosen p.plain) 1 0) k o
same_weight chosen z q k true None = refl
same_weight chosen z q k true (Some x) = refl
same_weight chosen z q k false o = refl

-- a semaphore is put in, and some futures come to a stage
pub weighs_staged : (h : Hall) (s q : ℕ) (z : FutureStage) (ws : List Who) (r : Semaphore)
    → Weighs h (record h { semaphores = insert h.semaphores s r; futures = stage_all z ws h.futures }) q 0 0 nothing nothing
weighs_staged h s q z ws r = record {
  held = λ k. refl;
  things = λ chosen k. (let w = total-alike (λ j (p : Future). cond (p.semaphore == k && chosen p.plain) 1 0)
      (λ j (p : Future). cond (p.semaphore == k && chosen p.plain) 1 0) (stage_all z ws h.futures) h.futures
      (λ f. ap (weight (λ j (p : Future). cond (p.semaphore == k && chosen p.plain) 1 0) f) (get-stage_all z ws h.futures f)
      ∙ same_weight chosen z k f (among ws f) (get h.futures f)) in
      omega (arith, w));
}

pub weighs_pour : (h : Hall) (s q n : ℕ) → Weighs h (pour h s n) q 0 0 nothing nothing
weighs_pour h s q n = weighs_staged h s q Granted (granted_in (queue_at h s) n) (poured (semaphore_at h s) n)
