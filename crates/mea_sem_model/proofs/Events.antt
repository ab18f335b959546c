-- what each event moves: what it made and released came, and what it forgot left
use Rattle.std.proofs.Common.{◌≡◌, ℕ, ◌+◌, ◌-◌, ◌<◌, ◌≤◌, ◌==◌, ◌&&◌, Bool, true, false, cond, not, [], ◌∷◌, ◌++◌, min, nat_le, refl, ap, sym, subst, ◌∙◌, arith, Option, Some, None, unwrap_or, if◌then◌else◌}
use Rattle.std.specs.Option.{IsSome}
use Rattle.std.specs.FinMap.{get}
use Rattle.std.proofs.lemmas.List.Sums.{sum_by-append}
use Rattle.std.proofs.lemmas.Bool.{eqb-true, eq-eqb, leb-true, leb-false, ltb-false, and_parts, not-true}
use Rattle.mea_base.specs.Totals.{weight}
use Rattle.mea_base.specs.Queue.{lacks}
use Rattle.mea_family.specs.declared.answer.Answer.TheVariants as answers
use Rattle.mea_family.specs.declared.stop.Stop.TheVariants as stops
use Rattle.mea_base.proofs.Totals.{total-remove}
use Rattle.mea_base.proofs.Maps.{is_there, get-there, get-removed_other}
use Rattle.mea_base.proofs.Tests.{on_true}
use Rattle.mea_family.proofs.Causes.{known}
use Rattle.mea_events.specs.declared.sem_event.SemEvent.{SemEvent}
use Rattle.mea_events.specs.declared.sem_event.SemEvent.TheVariants as events
use Rattle.mea_sem_model.specs.Hall.{Hall, Semaphore, Future, Permit, FutureStage, New, Waiting, Granted, Cut, Who, Waiter, made_with, semaphore_at, queue_at, is_closed, pour, names, lack_of, free, plain_things, with_semaphore, closing, wakes_waiting}
use Rattle.mea_sem_model.specs.Cause.{is_named, is_named_semaphore, are_of_one_kind, can_merge, cause_of}
use Rattle.mea_sem_model.specs.Step.{quietly, with_future, without_future, with_permit, without_permit, forgetting, with_debt, forgetting_exactly, taking, made_ready, queueing, open_poll, refusing, poll_at, poll_of, without, leaving, end_future, end_permit, end_of, lose_of, merge_of, split_of, released_to, offers, step}
use Rattle.mea_sem_model.specs.Valid.{count, one_if_waiting, waits_at, SuitsClosed, IsBelow}
use Rattle.mea_sem_model.specs.Runs.{ToldSemEvent, if_same, made_by, released_by, number_forgot, if_yes, if_ready, if_permit_of, forgetting_demand, forgotten_by}
use Rattle.mea_sem_model.proofs.HallLemmas.{semaphore_named, closed_put}
use Rattle.mea_sem_model.proofs.Pours.{lacks-without, lacking-without, lacking-append, lacking-debt, first-filter, first-append, first-debt, lacks-debt, count-debt, lack-debt}
use Rattle.mea_sem_model.proofs.Matched.{IsMatched, matched_future, new_waits, granted_waits, stage_waits, lacks_nothing, queued_matched, left_matched}
use Rattle.mea_sem_model.proofs.Orderly.{IsOrderly, future_alone, permit_alone, still_there, orderly_semaphore, orderly_future, orderly_no_future}
use Rattle.mea_sem_model.proofs.Closings.{to_closing}
use Rattle.mea_sem_model.proofs.Changes.{taken, taken_by, held_by, moves_semaphore, moves_future, moves_no_future, below_semaphore, below_future, below_no_future, below_more, no_semaphore_yet, no_future_yet, no_permit_yet, Changed, after, retold, nothing, to_semaphore, to_numbers, to_permit, to_no_permit, to_no_future, to_pour}

-- ---- numbers by a test
-- a sum is chosen by its parts
pub sum_if : (b : Bool) (m n : ℕ) → cond b (m + n) 0 ≡ cond b m 0 + cond b n 0
sum_if true m n = refl
sum_if false m n = refl

only_same : (b : Bool) (m n : ℕ) → m ≡ n → cond b m 0 ≡ cond b n 0
only_same b m n e = ap (λ k. cond b k 0) e

never : (b : Bool) → ◌≡◌ {A = ℕ} (cond b 0 0) 0
never true = refl
never false = refl

-- what a forgetting one forgets, and another one's permit holds
kept_or_not : (s q n : ℕ) (forgets : Bool) → cond forgets 0 (cond (q == s) n 0) + cond ((q == s) && forgets) n 0 ≡ cond (q == s) n 0
kept_or_not s q n forgets = by_test (q == s) forgets
  where
    by_test : (b t : Bool) → cond t 0 (cond b n 0) + cond (b && t) n 0 ≡ cond b n 0
    by_test true true = omega arith
    by_test true false = omega arith
    by_test false true = omega arith
    by_test false false = omega arith

-- ---- what it means that there is no cause
pub release_known : (b c : Bool) → (if b then (if c then None else Some stops.Overflow) else Some stops.Unknown) ≡ None → (b ≡ true) × (c ≡ true)
release_known true true e = (refl, refl)
release_known true false e = absurd (cc)
release_known false c e = absurd (cc)

endsem_known : (b c : Bool) → (if b then (if c then Some stops.Borrowed else None) else Some stops.Unknown) ≡ None → (b ≡ true) × (c ≡ false)
endsem_known true false e = (refl, refl)
endsem_known true true e = absurd (cc)
endsem_known false c e = absurd (cc)

pub named_there : (h : Hall) (q : ℕ) → is_named h q ≡ true → IsSome (get h.semaphores q)
named_there h q = by_option (get h.semaphores q)
  where
    by_option : (o : Option Semaphore) → is_named_semaphore o ≡ true → IsSome o
    by_option None e = absurd (cc)
    by_option (Some r) e = refl

pub one_semaphore : (x y : Permit) → are_of_one_kind (Some x) (Some y) ≡ true → x.semaphore ≡ y.semaphore
one_semaphore x y e = eqb-true x.semaphore y.semaphore (and_parts (x.semaphore == y.semaphore) (if x.plain then y.plain else not y.plain) e).0

pub mergeable : (h : Hall) (p q : ℕ) → can_merge h p q ≡ true
    → (x : Permit) × (y : Permit) × (get h.permits p ≡ Some x) × (get h.permits q ≡ Some y) × (p ≡ q → ⊥) × (x.semaphore ≡ y.semaphore)
mergeable h p q e =
    let both = and_parts (not (p == q)) (are_of_one_kind (get h.permits p) (get h.permits q)) e in
    by_options (get h.permits p) (get h.permits q) refl refl (λ same. absurd (let a = not-true (p == q) both.0 in let b = eq-eqb p q same in cc)) both.1
  where
    by_options : (o r : Option Permit) → get h.permits p ≡ o → get h.permits q ≡ r → (p ≡ q → ⊥) → are_of_one_kind o r ≡ true
        → (x : Permit) × (y : Permit) × (get h.permits p ≡ Some x) × (get h.permits q ≡ Some y) × (p ≡ q → ⊥) × (x.semaphore ≡ y.semaphore)
    by_options None r is at apart kind = absurd (cc)
    by_options (Some x) None is at apart kind = absurd (cc)
    by_options (Some x) (Some y) is at apart kind = (x, y, is, at, apart, one_semaphore x y kind)

-- ---- plain things
one_if : (b : Bool) (q : ℕ) → b ≡ true → ◌≡◌ {A = ℕ} (cond (q == q && b) 1 0) 1
one_if b q e = on_true (q == q && b) 1 (ap (λ t. t && b) (eq-eqb q q refl) ∙ e)

pub plain_future_named : (h : Hall) (f : ℕ) (x : Future) → get h.futures f ≡ Some x → IsOrderly h → x.plain ≡ true → is_named h x.semaphore ≡ true
plain_future_named h f x is v e =
    let w : ℕ → Future → ℕ = λ k y. cond (y.semaphore == x.semaphore && y.plain) 1 0 in
    let here : weight w f (get h.futures f) ≡ 1 = ap (weight w f) is ∙ one_if x.plain x.semaphore e in
    v.named x.semaphore (omega (arith, here, total-remove w h.futures f))

pub plain_permit_named : (h : Hall) (f : ℕ) (x : Permit) → get h.permits f ≡ Some x → IsOrderly h → x.plain ≡ true → is_named h x.semaphore ≡ true
plain_permit_named h f x is v e =
    let w : ℕ → Permit → ℕ = λ k y. cond (y.semaphore == x.semaphore && y.plain) 1 0 in
    let here : weight w f (get h.permits f) ≡ 1 = ap (weight w f) is ∙ one_if x.plain x.semaphore e in
    v.named x.semaphore (omega (arith, here, total-remove w h.permits f))

named_put : (h : Hall) (q : ℕ) (r : Semaphore) → r.named ≡ true → is_named (with_semaphore h q r) q ≡ true
named_put h q r e = ap is_named_semaphore (get-there h.semaphores q r) ∙ e

-- the same change, where one name more may come
more : (h g : Hall) (i : ℕ) (a b : ℕ → ℕ) → Changed h g i a b → Changed h g (i + 1) a b
more h g i a b c = record { moves = c.moves; matched = c.matched; orderly = c.orderly; below = below_more g i c.below }

module _ (h : Hall) (i : ℕ) (m : IsMatched h) (v : IsOrderly h) (low : IsBelow h i) where
  wider : IsBelow h (i + 1)
  wider = below_more h i low

  -- ---- semaphores
  at_new : (n : ℕ) → Changed h (with_semaphore h i (made_with n)) (i + 1) (λ s. cond (i == s) n 0) (λ s. cond (i == s) 0 0)
  at_new n =
      let none : semaphore_at h i ≡ made_with 0 = ap (λ o. unwrap_or o (made_with 0)) (no_semaphore_yet h i low) in
      let frees : free h i ≡ 0 = ap (λ (r : Semaphore). r.free) none in
      let empties : queue_at h i ≡ [] = ap (λ (r : Semaphore). r.queue) none in
      let lacked : lacks (queue_at h i) ≡ 0 = ap (λ q. lacks q) empties in
      to_semaphore h (i + 1) m v wider i n 0 (made_with n) (omega arith) (no_future_yet h i low, no_permit_yet h i low) (omega (arith, lacked, frees))
      (λ f. sym (ap (λ q. count q f) empties)) (λ f. omega arith) tt tt (λ some. refl) (λ some. refl) (sym (ap (λ (r : Semaphore). r.closed) none))

  at_forget : (q n : ℕ) → IsSome (get h.semaphores q) → Changed h (with_semaphore h q (forgetting (semaphore_at h q) n)) (i + 1)
      (λ s. cond (q == s) 0 0) (λ s. cond (q == s) (min n (free h q)) 0)
  at_forget q n there = to_numbers h (i + 1) m v wider q 0 (min n (free h q)) (free h q - min n (free h q)) _ _ _ there (omega arith) (omega arith)

  at_forgetx : (q n : ℕ) → IsSome (get h.semaphores q) → Changed h (with_semaphore h q (forgetting_exactly (semaphore_at h q) n)) (i + 1)
      (λ s. cond (q == s) 0 0) (λ s. cond (q == s) n 0)
  at_forgetx q n there =
      let owing : ℕ = n - min n (free h q) in
      to_semaphore h (i + 1) m v wider q 0 n (forgetting_exactly (semaphore_at h q) n) (wider.semaphores q there) (v.semaphores_apart q there)
      (omega (arith, lacks-debt (queue_at h q) (n - min n (free h q)))) (count-debt (queue_at h q) owing) (lack-debt (queue_at h q) owing)
      (lacking-debt (queue_at h q) owing (v.lacking q)) (first-debt (queue_at h q) owing (v.debts_first q)) debt_idle
      (λ some. semaphore_named h q (v.named q some)) refl
    where
      debt_idle : 0 < free h q - min n (free h q) → with_debt (queue_at h q) (n - min n (free h q)) ≡ []
      debt_idle some =
          let enough : n - min n (free h q) ≡ 0 = omega arith in
          let more : 0 < free h q = omega arith in
          ap (with_debt (queue_at h q)) enough ∙ v.idle q more

  pub counted_released : (q n : ℕ) → IsSome (get h.semaphores q) → Changed h (released_to h q n) (i + 1) (λ s. cond (q == s) 0 0) (λ s. cond (q == s) 0 0)
  counted_released q n there = to_numbers h (i + 1) m v wider q 0 0 (free h q) (semaphore_at h q).made ((semaphore_at h q).released + n)
      (semaphore_at h q).forgotten there (omega arith) (omega arith)

  at_release : (q n : ℕ) → IsSome (get h.semaphores q) → Changed h (pour (released_to h q n) q n) (i + 1) (λ s. cond (q == s) n 0) (λ s. 0)
  at_release q n there =
      let first = counted_released q n there in
      retold h _ (i + 1) _ _ (λ s. cond (q == s) n 0) (λ s. 0) (λ s. omega (arith, never (q == s)))
      (after h (released_to h q n) _ (i + 1) _ _ _ _ first
      (to_pour (released_to h q n) (i + 1) first.matched first.orderly first.below q n (still_there h q q _ there)))

  took : (q n : ℕ) → IsSome (get h.semaphores q) → n ≤ free h q
      → Changed h (with_semaphore h q (taking (semaphore_at h q) n)) i (λ s. cond (q == s) 0 0) (λ s. cond (q == s) n 0)
  took q n there some = to_numbers h i m v low q 0 n (free h q - n) _ _ _ there (omega arith) (omega arith)

  at_try : (q n : ℕ) (plain : Bool) → is_named h q ≡ true → n ≤ free h q
      → Changed h (with_permit (with_semaphore h q (taking (semaphore_at h q) n)) i (record { semaphore = q; size = n; plain = plain })) (i + 1)
      (λ s. 0) (λ s. 0)
  at_try q n plain named some =
      let there = named_there h q named in
      let g : Hall = with_semaphore h q (taking (semaphore_at h q) n) in
      let first = took q n there some in
      let second = more h g i _ _ first in
      retold h _ (i + 1) _ _ (λ s. 0) (λ s. 0) (λ s. omega (arith, never (q == s), ap (weight (held_by s) i) (no_permit_yet h i low)))
      (after h g _ (i + 1) _ _ _ _ second
      (to_permit g (i + 1) first.matched first.orderly second.below i (record { semaphore = q; size = n; plain = plain }) (omega arith)
      (no_semaphore_yet g i first.below, no_future_yet g i first.below)
      (still_there h q q _ there) (λ e. named_put h q (taking (semaphore_at h q) n) (semaphore_named h q named))))

  at_try_and_forget : (q n : ℕ) → is_named h q ≡ true → n ≤ free h q
      → Changed h (with_semaphore h q (record (semaphore_at h q) { free = free h q - n; forgotten = (semaphore_at h q).forgotten + n })) (i + 1)
      (λ s. 0) (λ s. cond (q == s) n 0)
  at_try_and_forget q n named some = retold h _ (i + 1) _ _ (λ s. 0) (λ s. cond (q == s) n 0) (λ s. omega (arith, never (q == s)))
      (to_numbers h (i + 1) m v wider q 0 n (free h q - n) _ _ _ (named_there h q named) (omega arith) (omega arith))

  at_endsem : (q : ℕ) → IsSome (get h.semaphores q) → plain_things h q ≡ 0
      → Changed h (with_semaphore h q (record (semaphore_at h q) { named = false })) (i + 1) (λ s. 0) (λ s. 0)
  at_endsem q there none = retold h _ (i + 1) _ _ (λ s. 0) (λ s. 0) (λ s. omega (arith, never (q == s)))
      (to_semaphore h (i + 1) m v wider q 0 0 (record (semaphore_at h q) { named = false }) (wider.semaphores q there) (v.semaphores_apart q there)
      (omega arith) (λ f. refl) (λ f. omega arith) (v.lacking q) (v.debts_first q) (v.idle q) (λ some. absurd (omega arith)) refl)

  at_acq : (q n : ℕ) (plain forgets : Bool) → is_named h q ≡ true
      → Changed h (with_future h i (record { semaphore = q; demand = n; plain = plain; forgets = forgets; stage = New })) (i + 1) (λ s. 0) (λ s. 0)
  at_acq q n plain forgets named =
      let x : Future = record { semaphore = q; demand = n; plain = plain; forgets = forgets; stage = New } in
      let none : get h.futures i ≡ None = no_future_yet h i low in
      record {
        moves = λ s. omega (arith, never (q == s), moves_future h i s x, ap (weight (taken_by s) i) none);
        matched = matched_future h i x (λ s. ap (waits_at s) none ∙ sym (never (q == s))) (λ s. omega (arith, lacks_nothing h s i (ap (waits_at s) none) m)) m;
        orderly = orderly_future h i x (no_semaphore_yet h i low, no_permit_yet h i low) (named_there h q named) (λ e. named) tt v;
        below = below_future h i (i + 1) x (omega arith) wider;
      }

  -- ---- permits
  pub lost : (k : ℕ) (p : Permit) → get h.permits k ≡ Some p → Changed h (without_permit h k) (i + 1) (λ s. 0) (λ s. cond (p.semaphore == s) p.size 0)
  lost k p is = retold h _ (i + 1) _ _ (λ s. 0) (λ s. cond (p.semaphore == s) p.size 0) (λ s. omega (arith, ap (weight (held_by s) k) is))
      (to_no_permit h (i + 1) m v wider k)

  at_end_permit : (k : ℕ) (p : Permit) → get h.permits k ≡ Some p → Changed h (pour (without_permit h k) p.semaphore p.size) (i + 1) (λ s. 0) (λ s. 0)
  at_end_permit k p is =
      let first = lost k p is in
      retold h _ (i + 1) _ _ (λ s. 0) (λ s. 0) (λ s. omega arith)
      (after h (without_permit h k) _ (i + 1) _ _ _ _ first
      (to_pour (without_permit h k) (i + 1) first.matched first.orderly first.below p.semaphore p.size (v.permits_of k p is)))

  at_lose : (k : ℕ) (p : Permit) → get h.permits k ≡ Some p
      → Changed h (with_semaphore (without_permit h k) p.semaphore
      (record (semaphore_at h p.semaphore) { forgotten = (semaphore_at h p.semaphore).forgotten + p.size })) (i + 1) (λ s. 0)
      (λ s. cond (p.semaphore == s) p.size 0)
  at_lose k p is =
      let first = lost k p is in
      retold h _ (i + 1) _ _ (λ s. 0) (λ s. cond (p.semaphore == s) p.size 0) (λ s. omega (arith, never (p.semaphore == s)))
      (after h (without_permit h k) _ (i + 1) _ _ _ _ first
      (to_numbers (without_permit h k) (i + 1) first.matched first.orderly first.below p.semaphore 0 0 (free h p.semaphore) _ _ _
      (v.permits_of k p is) (omega arith) (omega arith)))

  at_merge : (p q : ℕ) (x y : Permit) → get h.permits p ≡ Some x → get h.permits q ≡ Some y → (q ≡ p → ⊥) → x.semaphore ≡ y.semaphore
      → Changed h (with_permit (without_permit h q) p (record x { size = x.size + y.size })) (i + 1) (λ s. 0) (λ s. 0)
  at_merge p q x y is at apart same =
      let first = lost q y at in
      let still : get (without_permit h q).permits p ≡ Some x = get-removed_other h.permits q p apart ∙ is in
      retold h _ (i + 1) _ _ (λ s. 0) (λ s. 0)
      (λ s. omega (arith, sum_if (x.semaphore == s) x.size y.size, ap (λ k. cond (k == s) y.size 0) same, ap (weight (held_by s) p) still))
      (after h (without_permit h q) _ (i + 1) _ _ _ _ first
      (to_permit (without_permit h q) (i + 1) first.matched first.orderly first.below p (record x { size = x.size + y.size })
      (wider.permits p (is_there (get h.permits p) x is))
      (permit_alone (without_permit h q) p (is_there (get (without_permit h q).permits p) x still) first.orderly) (v.permits_of p x is)
      (plain_permit_named (without_permit h q) p x still first.orderly)))

  at_split : (p n : ℕ) (x : Permit) → get h.permits p ≡ Some x → n ≤ x.size
      → Changed h (with_permit (with_permit h p (record x { size = x.size - n })) i (record x { size = n })) (i + 1) (λ s. 0) (λ s. 0)
  at_split p n x is some =
      let whole : (x.size - n) + n ≡ x.size = omega arith in
      let left : Permit = record x { size = x.size - n } in
      let g : Hall = with_permit h p left in
      let first = to_permit h i m v low p left (low.permits p (is_there (get h.permits p) x is))
      (permit_alone h p (is_there (get h.permits p) x is) v) (v.permits_of p x is) (plain_permit_named h p x is v) in
      let second = more h g i _ _ first in
      retold h _ (i + 1) _ _ (λ s. 0) (λ s. 0)
      (λ s. omega (
        arith,
        sum_if (x.semaphore == s) (x.size - n) n,
        only_same (x.semaphore == s) ((x.size - n) + n) x.size whole,
        ap (weight (held_by s) p) is,
        ap (weight (held_by s) i) (no_permit_yet g i first.below),
      ))
      (after h g _ (i + 1) _ _ _ _ second
      (to_permit g (i + 1) first.matched first.orderly second.below i (record x { size = n }) (omega arith)
      (no_semaphore_yet g i first.below, no_future_yet g i first.below) (v.permits_of p x is)
      (λ e. plain_permit_named h p x is v e)))

-- ---- futures
-- a future that waits no more becomes ready, in the hall g
at_ready : (g : Hall) (i f : ℕ) (x : Future) → get g.futures f ≡ Some x → ((s : ℕ) → waits_at s (get g.futures f) ≡ 0) → IsMatched g → IsOrderly g → IsBelow g i
    → Changed g (made_ready g i f x) (i + 1) (λ s. cond x.forgets 0 (cond (x.semaphore == s) x.demand 0)) (λ s. taken_by s f x)
at_ready g i f x is idle m v low = at_form x.forgets
  where
    gone : Changed g (without_future g f) i (λ s. 0) (λ s. weight (taken_by s) f (get g.futures f))
    gone = to_no_future g i m v low f idle

    wider : Changed g (without_future g f) (i + 1) (λ s. 0) (λ s. weight (taken_by s) f (get g.futures f))
    wider = more g (without_future g f) i _ _ gone

    kept : Permit
    kept = record { semaphore = x.semaphore; size = x.demand; plain = x.plain }

    forgot : Semaphore
    forgot = record (semaphore_at g x.semaphore) { forgotten = (semaphore_at g x.semaphore).forgotten + x.demand }

    at_form : (t : Bool) → Changed g
        (if t then with_semaphore (without_future g f) x.semaphore
        (record (semaphore_at g x.semaphore) { forgotten = (semaphore_at g x.semaphore).forgotten + x.demand })
        else with_permit (without_future g f) i (record { semaphore = x.semaphore; size = x.demand; plain = x.plain })) (i + 1)
        (λ s. cond t 0 (cond (x.semaphore == s) x.demand 0)) (λ s. taken_by s f x)
    at_form true = retold g _ (i + 1) _ _ (λ s. 0) (λ s. taken_by s f x) (λ s. omega (arith, never (x.semaphore == s), ap (weight (taken_by s) f) is))
        (after g (without_future g f) _ (i + 1) _ _ _ _ wider
        (to_numbers (without_future g f) (i + 1) wider.matched wider.orderly wider.below x.semaphore 0 0 (free g x.semaphore) _ _ _
        (v.futures_of f x is) (omega arith) (omega arith)))
    at_form false = retold g _ (i + 1) _ _ (λ s. cond (x.semaphore == s) x.demand 0) (λ s. taken_by s f x)
        (λ s. omega (arith, ap (weight (taken_by s) f) is, ap (weight (held_by s) i) (no_permit_yet g i low)))
        (after g (without_future g f) _ (i + 1) _ _ _ _ wider
        (to_permit (without_future g f) (i + 1) wider.matched wider.orderly wider.below i kept (omega arith)
        (no_semaphore_yet g i low, no_future_yet (without_future g f) i gone.below)
        (v.futures_of f x is) (λ e. plain_future_named g f x is v e)))

module _ (h : Hall) (i f : ℕ) (x : Future) (is : get h.futures f ≡ Some x) (m : IsMatched h) (v : IsOrderly h) (low : IsBelow h i) where
  there : IsSome (get h.semaphores x.semaphore)
  there = v.futures_of f x is

  f_below : f < i + 1
  f_below = (below_more h i low).futures f (is_there (get h.futures f) x is)

  pub idle_new : x.stage ≡ New → (s : ℕ) → waits_at s (get h.futures f) ≡ 0
  idle_new unpolled s = ap (waits_at s) is ∙ new_waits x s unpolled

  pub idle_granted : x.stage ≡ Granted → (s : ℕ) → waits_at s (get h.futures f) ≡ 0
  idle_granted done s = ap (waits_at s) is ∙ granted_waits x s done

  pub gone : ((s : ℕ) → waits_at s (get h.futures f) ≡ 0) → Changed h (without_future h f) (i + 1) (λ s. 0) (λ s. taken_by s f x)
  gone idle = retold h _ (i + 1) _ _ (λ s. 0) (λ s. taken_by s f x) (λ s. omega (arith, ap (weight (taken_by s) f) is))
      (to_no_future h (i + 1) m v (below_more h i low) f idle)

  -- one that was paid nothing is gone
  gone_with_nothing : {t : FutureStage} → x.stage ≡ t → taken x.demand t ≡ 0 → one_if_waiting t ≡ 0 → Changed h (without_future h f) (i + 1) (λ s. 0) (λ s. 0)
  gone_with_nothing {t} e nothing idle = retold h _ (i + 1) _ _ (λ s. 0) (λ s. 0)
      (λ s. omega (
        arith,
        never (x.semaphore == s),
        ap (λ k. cond (x.semaphore == s) k 0) nothing,
        ap (λ t. cond (x.semaphore == s) (taken x.demand t) 0) e,
      )) (gone (λ s. ap (waits_at s) is ∙ stage_waits x s t idle e))

  at_granted : x.stage ≡ Granted → Changed h (made_ready h i f x) (i + 1) (λ s. 0) (λ s. cond ((x.semaphore == s) && x.forgets) x.demand 0)
  at_granted done = retold h _ (i + 1) _ _ (λ s. 0) (λ s. cond ((x.semaphore == s) && x.forgets) x.demand 0)
      (λ s. omega (arith, kept_or_not s x.semaphore x.demand x.forgets, ap (λ t. cond (x.semaphore == s) (taken x.demand t) 0) done))
      (at_ready h i f x is (idle_granted done) m v low)

  at_first_ready : x.stage ≡ New → x.demand ≤ free h x.semaphore
      → Changed h (made_ready (with_semaphore h x.semaphore (taking (semaphore_at h x.semaphore) x.demand)) i f x) (i + 1) (λ s. 0)
      (λ s. cond ((x.semaphore == s) && x.forgets) x.demand 0)
  at_first_ready unpolled some =
      let g : Hall = with_semaphore h x.semaphore (taking (semaphore_at h x.semaphore) x.demand) in
      let first = took h i m v low x.semaphore x.demand there some in
      retold h _ (i + 1) _ _ (λ s. 0) (λ s. cond ((x.semaphore == s) && x.forgets) x.demand 0)
      (λ s. omega (
        arith,
        never (x.semaphore == s),
        kept_or_not s x.semaphore x.demand x.forgets,
        ap
            (λ t. cond (x.semaphore == s) (taken x.demand t) 0) unpolled,
      ))
      (after h g _ (i + 1) _ _ _ _ (more h g i _ _ first) (at_ready g i f x is (idle_new unpolled) first.matched first.orderly first.below))

  at_queueing : (w : ℕ) → x.stage ≡ New → is_closed h x.semaphore ≡ false → free h x.semaphore < x.demand → Changed h (queueing h f w x) (i + 1) (λ s. 0) (λ s. 0)
  at_queueing w unpolled open_still short =
      let r : Semaphore = record (semaphore_at h x.semaphore) { free = 0; queue = queue_at h x.semaphore ++ (Waiter f, x.demand - free h x.semaphore) ∷ [] } in
      let g : Hall = with_semaphore h x.semaphore r in
      let longer = sum_by-append {X = Who × ℕ} (λ d. d.1) (queue_at h x.semaphore) ((Waiter f, x.demand - free h x.semaphore) ∷ []) in
      let some : 1 ≤ x.demand - free h x.semaphore = omega arith in
      let put : IsOrderly g = orderly_semaphore h x.semaphore r (v.semaphores_apart x.semaphore there)
      (lacking-append (queue_at h x.semaphore) (Waiter f, x.demand - free h x.semaphore) (v.lacking x.semaphore) some)
      (first-append (queue_at h x.semaphore) f (x.demand - free h x.semaphore) (v.debts_first x.semaphore)) (λ no_free. absurd (omega arith))
      (λ plain. semaphore_named h x.semaphore (v.named x.semaphore plain)) refl v in
      record {
        moves = λ s. omega (
          arith,
          never (x.semaphore == s),
          moves_semaphore h x.semaphore 0 x.demand r (omega (arith, longer)) s,
          moves_future g f s (record x { stage = Waiting w }),
          ap (weight (taken_by s) f) is,
          ap (λ t. cond (x.semaphore == s) (taken x.demand t) 0) unpolled,
        );
        matched = queued_matched h f w x is unpolled m;
        orderly = orderly_future g f (record x { stage = Waiting w }) (future_alone g f (is_there (get h.futures f) x is) put)
            (still_there h x.semaphore x.semaphore r there) (plain_future_named g f x is put) (closed_put h x.semaphore r refl x.semaphore ∙ open_still) put;
        below = below_future g f (i + 1) (record x { stage = Waiting w }) f_below
            (below_semaphore h x.semaphore (i + 1) r ((below_more h i low).semaphores x.semaphore there) (below_more h i low));
      }

  at_waiting : (w u : ℕ) → x.stage ≡ Waiting u → Changed h (with_future h f (record x { stage = Waiting w })) (i + 1) (λ s. 0) (λ s. 0)
  at_waiting w u waits = record {
    moves = λ s. omega (
      arith,
      moves_future h f s (record x { stage = Waiting w }),
      ap (weight (taken_by s) f) is,
      ap
          (λ t. cond (x.semaphore == s) (taken x.demand t) 0) waits,
    );
    matched = matched_future h f (record x { stage = Waiting w })
        (λ s. ap (waits_at s) is ∙ ap (λ t. cond (x.semaphore == s) (one_if_waiting t) 0) waits) (λ s. m.within s f x is) m;
    orderly = orderly_future h f (record x { stage = Waiting w }) (future_alone h f (is_there (get h.futures f) x is) v) there
        (plain_future_named h f x is v) (subst (SuitsClosed (is_closed h x.semaphore)) waits (v.closed f x is)) v;
    below = below_future h f (i + 1) (record x { stage = Waiting w }) f_below (below_more h i low);
  }

  at_first : (w : ℕ) → x.stage ≡ New → is_closed h x.semaphore ≡ false → (b : Bool) → nat_le x.demand (free h x.semaphore) ≡ b
      → Changed h (if b then quietly (made_ready (with_semaphore h x.semaphore (taking (semaphore_at h x.semaphore) x.demand)) i f x) answers.Ready
      else quietly (queueing h f w x) answers.Pending).hall (i + 1) (λ s. 0)
      (λ s. if_ready (forgetting_demand s (Some x))
      (if b then quietly (made_ready (with_semaphore h x.semaphore (taking (semaphore_at h x.semaphore) x.demand)) i f x) answers.Ready
      else quietly (queueing h f w x) answers.Pending).reply)
  at_first w unpolled open_still true e = at_first_ready unpolled (leb-true x.demand (free h x.semaphore) e)
  at_first w unpolled open_still false e = at_queueing w unpolled open_still (leb-false x.demand (free h x.semaphore) e)

  at_first_poll : (w : ℕ) → x.stage ≡ New → (b : Bool) → is_closed h x.semaphore ≡ b
      → Changed h (if b then refusing h f else open_poll h i f w x).hall (i + 1) (λ s. 0)
      (λ s. if_ready (forgetting_demand s (Some x)) (if b then refusing h f else open_poll h i f w x).reply)
  at_first_poll w unpolled true e = gone_with_nothing unpolled refl refl
  at_first_poll w unpolled false e = at_first w unpolled e (nat_le x.demand (free h x.semaphore)) refl

  at_poll : (w : ℕ) (t : FutureStage) → x.stage ≡ t → Changed h (poll_at h i f w x t).hall (i + 1) (λ s. 0)
      (λ s. if_ready (forgetting_demand s (Some x)) (poll_at h i f w x t).reply)
  at_poll w New e = at_first_poll w e (is_closed h x.semaphore) refl
  at_poll w (Waiting u) e = at_waiting w u e
  at_poll w Granted e = at_granted e
  at_poll w Cut e = gone_with_nothing e refl refl

  pub at_leaving : Changed h (leaving h f x) (i + 1) (λ s. cond (x.semaphore == s) (lack_of (queue_at h x.semaphore) f) 0) (λ s. taken_by s f x)
  at_leaving =
      let r : Semaphore = record (semaphore_at h x.semaphore) { queue = without (queue_at h x.semaphore) f } in
      let g : Hall = with_semaphore h x.semaphore r in
      record {
        moves = λ s. omega (
          arith,
          never (x.semaphore == s),
          moves_semaphore h x.semaphore (lack_of (queue_at h x.semaphore) f) 0 r (omega (arith, lacks-without (queue_at h x.semaphore) f)) s,
          moves_no_future g f s,
          ap (weight (taken_by s) f) is,
        );
        matched = left_matched h f x is m;
        orderly = orderly_no_future g f
            (orderly_semaphore h x.semaphore r (v.semaphores_apart x.semaphore there) (lacking-without (queue_at h x.semaphore) f (v.lacking x.semaphore))
            (first-filter (λ e. not (names e.0 f)) (queue_at h x.semaphore) (v.debts_first x.semaphore))
            (λ some. ap (λ q. without q f) (v.idle x.semaphore some)) (λ plain. semaphore_named h x.semaphore (v.named x.semaphore plain)) refl v);
        below = below_no_future g f (i + 1) (below_semaphore h x.semaphore (i + 1) r ((below_more h i low).semaphores x.semaphore there) (below_more h i low));
      }

  at_end : (t : FutureStage) → x.stage ≡ t → Changed h (end_future h f x t).hall (i + 1) (λ s. 0) (λ s. 0)
  at_end New e = gone_with_nothing e refl refl
  at_end (Waiting u) e =
      let l : ℕ = lack_of (queue_at h x.semaphore) f in
      let within : l ≤ x.demand = m.within x.semaphore f x is in
      let whole : l + (x.demand - l) ≡ x.demand = omega arith in
      let first = at_leaving in
      retold h _ (i + 1) _ _ (λ s. 0) (λ s. 0)
      (λ s. omega (
        arith,
        sum_if (x.semaphore == s) l (x.demand - l),
        only_same (x.semaphore == s) (l + (x.demand - l)) x.demand whole,
        ap
            (λ t. cond (x.semaphore == s) (taken x.demand t) 0) e,
      ))
      (after h (leaving h f x) _ (i + 1) _ _ _ _ first
      (to_pour (leaving h f x) (i + 1) first.matched first.orderly first.below x.semaphore (x.demand - l) (still_there h x.semaphore x.semaphore _ there)))
  at_end Cut e = gone_with_nothing e refl refl
  at_end Granted e =
      let first = gone (idle_granted e) in
      retold h _ (i + 1) _ _ (λ s. 0) (λ s. 0) (λ s. omega (arith, ap (λ t. cond (x.semaphore == s) (taken x.demand t) 0) e))
      (after h (without_future h f) _ (i + 1) _ _ _ _ first
      (to_pour (without_future h f) (i + 1) first.matched first.orderly first.below x.semaphore x.demand there))

-- ---- each event
-- an event as it is told
abbrev pub line : Hall → ℕ → SemEvent → ToldSemEvent
line h i e = record { number = i; before = h; event = e; reply = (step h i e).reply; wakes = (step h i e).wakes }

module _ (h : Hall) (i : ℕ) (m : IsMatched h) (v : IsOrderly h) (low : IsBelow h i) where
  unchanged : Changed h h (i + 1) (λ s. 0) (λ s. 0)
  unchanged = nothing h (i + 1) m v (below_more h i low)

  ends_permit : (k : ℕ) (o : Option Permit) → get h.permits k ≡ o → Changed h (end_permit h k o).hall (i + 1) (λ s. 0) (λ s. 0)
  ends_permit k None is = unchanged
  ends_permit k (Some p) is = at_end_permit h i m v low k p is

  ends : (k : ℕ) (o : Option Future) → get h.futures k ≡ o → Changed h (end_of h k o).hall (i + 1) (λ s. 0) (λ s. 0)
  ends k None is = ends_permit k (get h.permits k) refl
  ends k (Some x) is = at_end h i k x is m v low x.stage refl

  polls : (f w : ℕ) (o : Option Future) → get h.futures f ≡ o
      → Changed h (poll_of h i f w o).hall (i + 1) (λ s. 0) (λ s. if_ready (forgetting_demand s o) (poll_of h i f w o).reply)
  polls f w None is = unchanged
  polls f w (Some x) is = at_poll h i f x is m v low w x.stage refl

  loses : (p : ℕ) (o : Option Permit) → get h.permits p ≡ o → Changed h (lose_of h p o).hall (i + 1) (λ s. 0)
      (λ s. if_permit_of s o (number_forgot (lose_of h p o).reply))
  loses p None is = unchanged
  loses p (Some x) is = at_lose h i m v low p x is

  -- what is offered is free
  enough : (q n : ℕ) → offers h q n ≡ true → n ≤ free h q
  enough q n e = leb-true n (free h q) (and_parts (not (is_closed h q)) (nat_le n (free h q)) e).1

  tries : (q n : ℕ) (plain b : Bool) → is_named h q ≡ true → offers h q n ≡ b
      → Changed h (if b then quietly (with_permit (with_semaphore h q (taking (semaphore_at h q) n)) i
      (record { semaphore = q; size = n; plain = plain })) answers.Held else quietly h answers.Lacking).hall (i + 1) (λ s. 0) (λ s. 0)
  tries q n plain true named e = at_try h i m v low q n plain named (enough q n e)
  tries q n plain false named e = unchanged

  splits : (p n : ℕ) (x : Permit) → get h.permits p ≡ Some x → (b : Bool) → nat_le n x.size ≡ b
      → Changed h (if b then quietly (with_permit (with_permit h p (record x { size = x.size - n })) i (record x { size = n })) answers.Held
      else quietly h answers.Lacking).hall (i + 1) (λ s. 0) (λ s. 0)
  splits p n x is true e = at_split h i m v low p n x is (leb-true n x.size e)
  splits p n x is false e = unchanged

  splits_of : (p n : ℕ) (o : Option Permit) → get h.permits p ≡ o → Changed h (split_of h i p n o).hall (i + 1) (λ s. 0) (λ s. 0)
  splits_of p n None is = unchanged
  splits_of p n (Some x) is = splits p n x is (nat_le n x.size) refl

  tries_and_forgets : (q n : ℕ) (b : Bool) → is_named h q ≡ true → offers h q n ≡ b
      → Changed h (if b then quietly (with_semaphore h q
      (record (semaphore_at h q) { free = free h q - n; forgotten = (semaphore_at h q).forgotten + n })) answers.Yes else quietly h answers.No).hall
      (i + 1) (λ s. 0)
      (λ s. if_same q s (if_yes n (if b then quietly
      (with_semaphore h q (record (semaphore_at h q) { free = free h q - n; forgotten = (semaphore_at h q).forgotten + n })) answers.Yes
      else quietly h answers.No).reply))
  tries_and_forgets q n true named e = at_try_and_forget h i m v low q n named (enough q n e)
  tries_and_forgets q n false named e = retold h _ (i + 1) _ _ (λ s. 0) (λ s. cond (q == s) 0 0) (λ s. omega (arith, never (q == s))) unchanged

  closes : (q : ℕ) (b : Bool) → is_named h q ≡ true
      → Changed h (if b then quietly h answers.Done else record { hall = closing h q; reply = answers.Done; wakes = wakes_waiting h q }).hall (i + 1)
      (λ s. 0) (λ s. 0)
  closes q true named = unchanged
  closes q false named = to_closing h q (i + 1) (named_there h q named) m v (below_more h i low)

  merges : (p q : ℕ) → can_merge h p q ≡ true → Changed h (merge_of h p q (get h.permits p) (get h.permits q)) (i + 1) (λ s. 0) (λ s. 0)
  merges p q can =
      let two = mergeable h p q can in
      subst (λ o. Changed h (merge_of h p q o (get h.permits q)) (i + 1) (λ s. 0) (λ s. 0)) (sym two.2)
      (subst (λ o. Changed h (merge_of h p q (Some two.0) o) (i + 1) (λ s. 0) (λ s. 0)) (sym two.3)
      (at_merge h i m v low p q two.0 two.1 two.2 two.3 (λ e. two.4 (sym e)) two.5))

  pub steps : (e : SemEvent) → cause_of h e ≡ None → Changed h (step h i e).hall (i + 1) (λ s. made_by s (line h i e) e + released_by s e)
      (λ s. forgotten_by s (line h i e) e)
  steps (events.New n) cause = retold h _ (i + 1) _ _ _ _ (λ s. omega (arith, never (i == s))) (at_new h i m v low n)
  steps (events.Free q) cause = unchanged
  steps (events.Forget q n) cause = retold h _ (i + 1) _ _ _ _ (λ s. omega (arith, never (q == s)))
      (at_forget h i m v low q n (named_there h q (known _ cause)))
  steps (events.Forgetx q n) cause = retold h _ (i + 1) _ _ _ _ (λ s. omega (arith, never (q == s)))
      (at_forgetx h i m v low q n (named_there h q (known _ cause)))
  steps (events.Release q n) cause = retold h _ (i + 1) _ _ _ _ (λ s. omega arith) (at_release h i m v low q n (named_there h q (release_known _ _ cause).0))
  steps (events.Try q n) cause = tries q n true (offers h q n) (known _ cause) refl
  steps (events.Tryo q n) cause = tries q n false (offers h q n) (known _ cause) refl
  steps (events.Tryf q n) cause = tries_and_forgets q n (offers h q n) (known _ cause) refl
  steps (events.Tryof q n) cause = tries_and_forgets q n (offers h q n) (known _ cause) refl
  steps (events.Acq q n) cause = at_acq h i m v low q n true false (known _ cause)
  steps (events.Acqo q n) cause = at_acq h i m v low q n false false (known _ cause)
  steps (events.Acqf q n) cause = at_acq h i m v low q n true true (known _ cause)
  steps (events.Acqof q n) cause = at_acq h i m v low q n false true (known _ cause)
  steps (events.Poll f w) cause = polls f w (get h.futures f) refl
  steps (events.End k) cause = ends k (get h.futures k) refl
  steps (events.Lose p) cause = loses p (get h.permits p) refl
  steps (events.Merge p q) cause = merges p q (known _ cause)
  steps (events.Split p n) cause = splits_of p n (get h.permits p) refl
  steps (events.Size p) cause = unchanged
  steps (events.Endsem q) cause = let k = endsem_known _ _ cause in let none = ltb-false 0 (plain_things h q) k.1 in
      at_endsem h i m v low q (named_there h q k.0) (omega arith)
  steps (events.Ledger q) cause = unchanged
  steps (events.Close q) cause = closes q (is_closed h q) (known _ cause)
  steps (events.Closed q) cause = unchanged
