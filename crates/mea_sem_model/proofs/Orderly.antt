-- all that validity says besides, but for the bound on the permits, stays so
use Rattle.std.proofs.Common.{◌≡◌, ℕ, ◌+◌, ◌<◌, ◌≤◌, ◌==◌, ◌&&◌, Bool, true, false, cond, List, [], refl, ap, sym, subst, ◌∙◌, arith, Option, Some, None, is_some, zero, suc}
use Rattle.std.specs.Option.{option_map, IsSome}
use Rattle.std.specs.FinMap.{get, insert}
use Rattle.std.proofs.lemmas.Bool.{eqb-true, eq-eqb, and_parts}
use Rattle.mea_base.specs.Totals.{total, weight}
use Rattle.mea_base.specs.Queue.{waiting_after, granted_in}
use Rattle.mea_base.proofs.Totals.{total-insert, total-remove, total-alike}
use Rattle.mea_base.proofs.Maps.{by_put, by_gone, inside, is_absent}
use Rattle.mea_base.proofs.Tests.{on_true, on_false}
use Rattle.mea_sem_model.specs.Hall.{Hall, Semaphore, Future, Permit, FutureStage, New, Waiting, Granted, Cut, Who, semaphore_at, queue_at, is_closed, poured, staged, stage_all, pour, free, plain_things, with_semaphore, is_debt, debts_in, everyone, cutting}
use Rattle.mea_sem_model.specs.Cause.{is_named, is_named_semaphore}
use Rattle.mea_sem_model.specs.Step.{with_future, without_future, with_permit, without_permit}
use Rattle.mea_sem_model.specs.Valid.{one_if_waiting, waits_at, AllLack, HasDebtsFirst, SuitsClosed, IsValid}
use Rattle.mea_sem_model.proofs.HallLemmas.{semaphore_put, by_semaphore, closed_put, among, get-stage_all, staged_was, names_staged, semaphore_named}
use Rattle.mea_sem_model.proofs.Pours.{among_none, mentions-everyone, lacking-filter, lacking-pour, first-filter, first-pour, idle-pour}
use Rattle.mea_sem_model.proofs.Matched.{IsMatched, is_waiting, cut_waited}

pub record IsOrderly (h : Hall) : Type 0 where
  pub lacking : (s : ℕ) → AllLack (queue_at h s)
  pub debts_first : (s : ℕ) → HasDebtsFirst (queue_at h s)
  pub idle : (s : ℕ) → 0 < free h s → queue_at h s ≡ []
  pub named : (s : ℕ) → 0 < plain_things h s → is_named h s ≡ true
  pub closed : (f : ℕ) (x : Future) → get h.futures f ≡ Some x → SuitsClosed (is_closed h x.semaphore) x.stage
  pub futures_of : (f : ℕ) (x : Future) → get h.futures f ≡ Some x → IsSome (get h.semaphores x.semaphore)
  pub permits_of : (p : ℕ) (x : Permit) → get h.permits p ≡ Some x → IsSome (get h.semaphores x.semaphore)
  pub semaphores_apart : (k : ℕ) → IsSome (get h.semaphores k) → (get h.futures k ≡ None) × (get h.permits k ≡ None)
  pub futures_apart : (k : ℕ) → IsSome (get h.futures k) → get h.permits k ≡ None

pub orderly : (h : Hall) → IsValid h → IsOrderly h
orderly h v = record {
  lacking = v.lacking;
  debts_first = v.debts_first;
  idle = v.idle;
  named = v.named;
  closed = v.closed;
  futures_of = v.futures_of;
  permits_of = v.permits_of;
  semaphores_apart = v.semaphores_apart;
  futures_apart = v.futures_apart;
}

-- a name of the other maps is no semaphore, and a name of the permits is no future
pub future_alone : (h : Hall) (k : ℕ) → IsSome (get h.futures k) → IsOrderly h → (get h.semaphores k ≡ None) × (get h.permits k ≡ None)
future_alone h k there v = (is_absent (get h.semaphores k) (λ some. absurd (let gone = (v.semaphores_apart k some).0 in cc)), v.futures_apart k there)

pub permit_alone : (h : Hall) (k : ℕ) → IsSome (get h.permits k) → IsOrderly h → (get h.semaphores k ≡ None) × (get h.futures k ≡ None)
permit_alone h k there v = (
  is_absent (get h.semaphores k) (λ some. absurd (let gone = (v.semaphores_apart k some).1 in cc)),
  is_absent
      (get h.futures k) (λ some. absurd (let gone = v.futures_apart k some in cc)),
)

-- ---- semaphores
-- no semaphore is lost where one is put
pub still_there : (h : Hall) (q s : ℕ) (r : Semaphore) → IsSome (get h.semaphores s) → IsSome (get (insert h.semaphores q r) s)
still_there h q s r = by_put h.semaphores q r (λ j o. IsSome (get h.semaphores j) → IsSome o) (λ _. refl) (λ j apart there. there) s

pub orderly_semaphore : (h : Hall) (q : ℕ) (r : Semaphore) → (get h.futures q ≡ None) × (get h.permits q ≡ None) → AllLack r.queue
    → HasDebtsFirst r.queue → (0 < r.free → r.queue ≡ [])
    → (0 < plain_things h q → r.named ≡ true) → r.closed ≡ is_closed h q → IsOrderly h → IsOrderly (with_semaphore h q r)
orderly_semaphore h q r apart lack first idle plain same v = record {
  lacking = λ s. by_semaphore h q r (λ k y. AllLack y.queue) lack (λ k other. v.lacking k) s;
  debts_first = λ s. by_semaphore h q r (λ k y. HasDebtsFirst y.queue) first (λ k other. v.debts_first k) s;
  idle = λ s. by_semaphore h q r (λ k y. 0 < y.free → y.queue ≡ []) idle (λ k other. v.idle k) s;
  named = λ s. by_put h.semaphores q r (λ k o. 0 < plain_things h k → is_named_semaphore o ≡ true) plain (λ k other. v.named k) s;
  closed = λ f x is. subst (λ b. SuitsClosed b x.stage) (sym (closed_put h q r same x.semaphore)) (v.closed f x is);
  futures_of = λ f x is. still_there h q x.semaphore r (v.futures_of f x is);
  permits_of = λ p x is. still_there h q x.semaphore r (v.permits_of p x is);
  semaphores_apart = λ k. by_put h.semaphores q r (λ j o. IsSome o → (get h.futures j ≡ None) × (get h.permits j ≡ None)) (λ _. apart)
      (λ j other. v.semaphores_apart j) k;
  futures_apart = v.futures_apart;
}

-- ---- futures
-- a semaphore with a plain thing is named, also where one more is put that is not plain or whose semaphore is named
named_with : (h : Hall) (q s after before : ℕ) (plain : Bool) → after ≤ before + cond (q == s && plain) 1 0 → (0 < before → is_named h s ≡ true)
    → (plain ≡ true → is_named h q ≡ true) → 0 < after → is_named h s ≡ true
named_with h q s after before plain sums old new some = by_test (q == s && plain) refl
  where
    by_test : (b : Bool) → (q == s && plain) ≡ b → is_named h s ≡ true
    by_test true e = let both = and_parts (q == s) plain e in subst (λ k. is_named h k ≡ true) (eqb-true q s both.0) (new both.1)
    by_test false e = old (omega (arith, on_false (q == s && plain) 1 e))

pub orderly_future : (h : Hall) (k : ℕ) (x : Future) → (get h.semaphores k ≡ None) × (get h.permits k ≡ None) → IsSome (get h.semaphores x.semaphore)
    → (x.plain ≡ true → is_named h x.semaphore ≡ true) → SuitsClosed (is_closed h x.semaphore) x.stage → IsOrderly h → IsOrderly (with_future h k x)
orderly_future h k x apart of plain suits v = record {
  lacking = v.lacking;
  debts_first = v.debts_first;
  idle = v.idle;
  named = λ s. named_with h x.semaphore s (plain_things (with_future h k x) s) (plain_things h s) x.plain
      (omega (arith, total-insert (λ f (y : Future). cond (y.semaphore == s && y.plain) 1 0) h.futures k x)) (v.named s) plain;
  closed = λ f y is. by_put h.futures k x (λ j o. o ≡ Some y → SuitsClosed (is_closed h y.semaphore) y.stage)
      (λ e. subst (λ (z : Future). SuitsClosed (is_closed h z.semaphore) z.stage) (inside e) suits) (λ j other e. v.closed j y e) f is;
  futures_of = λ f y is. by_put h.futures k x (λ j o. o ≡ Some y → IsSome (get h.semaphores y.semaphore))
      (λ e. subst (λ (z : Future). IsSome (get h.semaphores z.semaphore)) (inside e) of) (λ j other e. v.futures_of j y e) f is;
  permits_of = v.permits_of;
  semaphores_apart = λ s. by_put h.futures k x (λ j o. IsSome (get h.semaphores j) → (o ≡ None) × (get h.permits j ≡ None))
      (λ some. absurd (let gone = apart.0 in cc)) (λ j other. v.semaphores_apart j) s;
  futures_apart = λ f. by_put h.futures k x (λ j o. IsSome o → get h.permits j ≡ None) (λ _. apart.1) (λ j other. v.futures_apart j) f;
}

pub orderly_no_future : (h : Hall) (k : ℕ) → IsOrderly h → IsOrderly (without_future h k)
orderly_no_future h k v = record {
  lacking = v.lacking;
  debts_first = v.debts_first;
  idle = v.idle;
  named = λ s some. v.named s (omega (arith, total-remove (λ f (y : Future). cond (y.semaphore == s && y.plain) 1 0) h.futures k));
  closed = λ f y is. by_gone h.futures k (λ j o. o ≡ Some y → SuitsClosed (is_closed h y.semaphore) y.stage) (λ e. absurd (cc))
      (λ j other e. v.closed j y e) f is;
  futures_of = λ f y is. by_gone h.futures k (λ j o. o ≡ Some y → IsSome (get h.semaphores y.semaphore)) (λ e. absurd (cc))
      (λ j other e. v.futures_of j y e) f is;
  permits_of = v.permits_of;
  semaphores_apart = λ s. by_gone h.futures k (λ j o. IsSome (get h.semaphores j) → (o ≡ None) × (get h.permits j ≡ None))
      (λ some. (refl, (v.semaphores_apart k some).1)) (λ j other. v.semaphores_apart j) s;
  futures_apart = λ f. by_gone h.futures k (λ j o. IsSome o → get h.permits j ≡ None) (λ some. absurd (cc)) (λ j other. v.futures_apart j) f;
}

-- ---- permits
pub orderly_permit : (h : Hall) (k : ℕ) (x : Permit) → (get h.semaphores k ≡ None) × (get h.futures k ≡ None) → IsSome (get h.semaphores x.semaphore)
    → (x.plain ≡ true → is_named h x.semaphore ≡ true) → IsOrderly h → IsOrderly (with_permit h k x)
orderly_permit h k x apart of plain v = record {
  lacking = v.lacking;
  debts_first = v.debts_first;
  idle = v.idle;
  named = λ s. named_with h x.semaphore s (plain_things (with_permit h k x) s) (plain_things h s) x.plain
      (omega (arith, total-insert (λ f (y : Permit). cond (y.semaphore == s && y.plain) 1 0) h.permits k x)) (v.named s) plain;
  closed = v.closed;
  futures_of = v.futures_of;
  permits_of = λ f y is. by_put h.permits k x (λ j o. o ≡ Some y → IsSome (get h.semaphores y.semaphore))
      (λ e. subst (λ (z : Permit). IsSome (get h.semaphores z.semaphore)) (inside e) of) (λ j other e. v.permits_of j y e) f is;
  semaphores_apart = λ s. by_put h.permits k x (λ j o. IsSome (get h.semaphores j) → (get h.futures j ≡ None) × (o ≡ None))
      (λ some. absurd (let gone = apart.0 in cc)) (λ j other. v.semaphores_apart j) s;
  futures_apart = λ f. by_put h.permits k x (λ j o. IsSome (get h.futures j) → o ≡ None) (λ some. absurd (let gone = apart.1 in cc))
      (λ j other. v.futures_apart j) f;
}

pub orderly_no_permit : (h : Hall) (k : ℕ) → IsOrderly h → IsOrderly (without_permit h k)
orderly_no_permit h k v = record {
  lacking = v.lacking;
  debts_first = v.debts_first;
  idle = v.idle;
  named = λ s some. v.named s (omega (arith, total-remove (λ f (y : Permit). cond (y.semaphore == s && y.plain) 1 0) h.permits k));
  closed = v.closed;
  futures_of = v.futures_of;
  permits_of = λ f y is. by_gone h.permits k (λ j o. o ≡ Some y → IsSome (get h.semaphores y.semaphore)) (λ e. absurd (cc))
      (λ j other e. v.permits_of j y e) f is;
  semaphores_apart = λ s. by_gone h.permits k (λ j o. IsSome (get h.semaphores j) → (get h.futures j ≡ None) × (o ≡ None))
      (λ some. ((v.semaphores_apart k some).0, refl)) (λ j other. v.semaphores_apart j) s;
  futures_apart = λ f. by_gone h.permits k (λ j o. IsSome (get h.futures j) → o ≡ None) (λ some. refl) (λ j other. v.futures_apart j) f;
}

-- ---- some come to a stage
-- the semaphore q is put in, and some who are of it come to a stage
module _ (h : Hall) (q : ℕ) (t : FutureStage) (ws : List Who) (r : Semaphore) (there : IsSome (get h.semaphores q)) (lack : AllLack r.queue)
    (first : HasDebtsFirst r.queue) (idle : 0 < r.free → r.queue ≡ []) (plain : 0 < plain_things h q → r.named ≡ true) (v : IsOrderly h) where
  abbrev after : Hall
  after = record h { semaphores = insert h.semaphores q r; futures = stage_all t ws h.futures }

  gives : (f : ℕ) → get after.futures f ≡ cond (among ws f) (option_map (staged t) (get h.futures f)) (get h.futures f)
  gives f = get-stage_all t ws h.futures f

  -- a future before
  was : (f : ℕ) (y : Future) → get after.futures f ≡ Some y
      → (x : Future) × (get h.futures f ≡ Some x) × (x.demand ≡ y.demand) × (x.semaphore ≡ y.semaphore) × (x.plain ≡ y.plain) × (y ≡ cond (among ws f) (staged t x) x)
  was f y is = staged_was t (among ws f) (get h.futures f) y (sym (gives f) ∙ is)

  same_plain : (s : ℕ) → plain_things after s ≡ plain_things h s
  same_plain s = ap (λ k. k + total (λ k (p : Permit). cond (p.semaphore == s && p.plain) 1 0) h.permits)
      (total-alike (λ f (x : Future). cond (x.semaphore == s && x.plain) 1 0) (λ f (x : Future). cond (x.semaphore == s && x.plain) 1 0)
      after.futures h.futures
      (λ f. ap (weight (λ f (x : Future). cond (x.semaphore == s && x.plain) 1 0) f) (gives f)
      ∙ weighs f (among ws f) (get h.futures f)))
    where
      weighs : (f : ℕ) (b : Bool) (o : Option Future) → weight (λ f (x : Future). cond (x.semaphore == s && x.plain) 1 0) f
          (cond b (option_map (staged t) o) o) ≡ weight (λ f (x : Future). cond (x.semaphore == s && x.plain) 1 0) f o
      weighs f true None = refl
      weighs f true (Some x) = refl
      weighs f false o = refl

  pub orderly_staged : ((f : ℕ) (y : Future) → get after.futures f ≡ Some y → SuitsClosed (is_closed (with_semaphore h q r) y.semaphore) y.stage)
      → IsOrderly after
  orderly_staged suits = record {
    lacking = λ s. by_semaphore h q r (λ k y. AllLack y.queue) lack (λ k other. v.lacking k) s;
    debts_first = λ s. by_semaphore h q r (λ k y. HasDebtsFirst y.queue) first (λ k other. v.debts_first k) s;
    idle = λ s. by_semaphore h q r (λ k y. 0 < y.free → y.queue ≡ []) idle (λ k other. v.idle k) s;
    named = λ s some. by_put h.semaphores q r (λ k o. 0 < plain_things h k → is_named_semaphore o ≡ true) plain (λ k other. v.named k) s
        (subst (λ k. 0 < k) (same_plain s) some);
    closed = suits;
    futures_of = λ f y is.
        let old = was f y is in
        still_there h q y.semaphore r (subst (λ k. IsSome (get h.semaphores k)) old.3 (v.futures_of f old.0 old.1));
    permits_of = λ p x is. still_there h q x.semaphore r (v.permits_of p x is);
    semaphores_apart = λ s. by_put h.semaphores q r (λ j o. IsSome o → (get after.futures j ≡ None) × (get h.permits j ≡ None))
        (λ _. apart q (v.semaphores_apart q there)) (λ j other some. apart j (v.semaphores_apart j some)) s;
    futures_apart = λ f some. v.futures_apart f (sym (names_staged t ws h.futures f) ∙ some);
  }
    where
      apart : (k : ℕ) → (get h.futures k ≡ None) × (get h.permits k ≡ None) → (get after.futures k ≡ None) × (get h.permits k ≡ None)
      apart k none = (
        is_absent (get after.futures k)
            (λ has. absurd (let gone : get h.futures k ≡ None = none.0 in let has_old : is_some (get h.futures k) ≡ true = sym (names_staged t ws h.futures k) ∙ has in cc)),
        none.1,
      )

-- ---- a pour
module _ (h : Hall) (q n : ℕ) (there : IsSome (get h.semaphores q)) (v : IsOrderly h) where
  -- no one waits on where permits are left over
  left_over_idle : 0 < (poured (semaphore_at h q) n).free → waiting_after (queue_at h q) n ≡ []
  left_over_idle some = by_free (free h q) refl
    where
      by_free : (k : ℕ) → free h q ≡ k → waiting_after (queue_at h q) n ≡ []
      by_free zero e = idle-pour (queue_at h q) n (omega arith)
      by_free (suc k) e = ap (λ p. waiting_after p n) (v.idle q (omega arith))

  abbrev granted_who : List Who
  granted_who = granted_in (queue_at h q) n

  abbrev poured_to : Semaphore
  poured_to = poured (semaphore_at h q) n

  poured_suits : (f : ℕ) (y : Future) → get (pour h q n).futures f ≡ Some y → SuitsClosed (is_closed (with_semaphore h q poured_to) y.semaphore) y.stage
  poured_suits f y is =
      let old = staged_was Granted (among granted_who f) (get h.futures f) y (sym (get-stage_all Granted granted_who h.futures f) ∙ is) in
      subst (λ (z : Future). SuitsClosed (is_closed (with_semaphore h q poured_to) z.semaphore) z.stage) (sym old.5) (by_grant old.0 (among granted_who f) old.1)
    where
      by_grant : (x : Future) (b : Bool) → get h.futures f ≡ Some x
          → SuitsClosed (is_closed (with_semaphore h q poured_to) (cond b (staged Granted x) x).semaphore) (cond b (staged Granted x) x).stage
      by_grant x true at = tt
      by_grant x false at = subst (λ b. SuitsClosed b x.stage) (sym (closed_put h q poured_to refl x.semaphore)) (v.closed f x at)

  pub orderly_pour : IsOrderly (pour h q n)
  orderly_pour = orderly_staged h q Granted granted_who poured_to there (lacking-pour (queue_at h q) n) (first-pour (queue_at h q) n (v.debts_first q))
      left_over_idle (λ some. semaphore_named h q (v.named q some)) v poured_suits

-- ---- a semaphore is closed
module _ (h : Hall) (q : ℕ) (there : IsSome (get h.semaphores q)) (m : IsMatched h) (v : IsOrderly h) where
  abbrev closed_now : Semaphore
  closed_now = record (semaphore_at h q) { queue = debts_in (queue_at h q); closed = true }

  -- of a semaphore that is closed now no future waits, and each that is cut is of it
  cut_suits : (f : ℕ) (y : Future) → get (cutting h q).futures f ≡ Some y → SuitsClosed (is_closed (with_semaphore h q closed_now) y.semaphore) y.stage
  cut_suits f y is =
      let ws : List Who = everyone (queue_at h q) in
      let old = staged_was Cut (among ws f) (get h.futures f) y (sym (get-stage_all Cut ws h.futures f) ∙ is) in
      subst (λ (z : Future). SuitsClosed (is_closed (with_semaphore h q closed_now) z.semaphore) z.stage) (sym old.5)
      (by_cut old.0 (among ws f) refl old.1)
    where
      at_q : is_closed (with_semaphore h q closed_now) q ≡ true
      at_q = ap (λ (r : Semaphore). r.closed) (semaphore_put h q q closed_now ∙ ap (λ b. cond b closed_now (semaphore_at h q)) (eq-eqb q q refl))

      uncut : (x : Future) → among (everyone (queue_at h q)) f ≡ false → get h.futures f ≡ Some x → (t : FutureStage) → x.stage ≡ t
          → SuitsClosed (is_closed (with_semaphore h q closed_now) x.semaphore) t
      uncut x a at New e = tt
      uncut x a at Granted e = tt
      uncut x a at Cut e = by_semaphore h q closed_now (λ k r. x.semaphore ≡ k → r.closed ≡ true) (λ same. refl)
          (λ k apart same. ap (is_closed h) (sym same) ∙ subst (SuitsClosed (is_closed h x.semaphore)) e (v.closed f x at)) x.semaphore refl
      uncut x a at (Waiting w) e = by_semaphore h q closed_now (λ k r. x.semaphore ≡ k → r.closed ≡ false)
          (λ same. absurd (let none = among_none (everyone (queue_at h q)) f a in
          let here : waits_at q (get h.futures f) ≡ 1 = ap (waits_at q) at ∙ ap (λ t. cond (x.semaphore == q) (one_if_waiting t) 0) e
          ∙ on_true (x.semaphore == q) 1 (eq-eqb x.semaphore q same) in
          omega (arith, none, here, m.once q f, mentions-everyone (queue_at h q) f)))
          (λ k apart same. ap (is_closed h) (sym same) ∙ subst (SuitsClosed (is_closed h x.semaphore)) e (v.closed f x at)) x.semaphore refl

      by_cut : (x : Future) (b : Bool) → among (everyone (queue_at h q)) f ≡ b → get h.futures f ≡ Some x
          → SuitsClosed (is_closed (with_semaphore h q closed_now) (cond b (staged Cut x) x).semaphore) (cond b (staged Cut x) x).stage
      by_cut x true a at =
          let here = is_waiting q x (subst (λ o. 0 < waits_at q o) at (cut_waited h q m f a)) in
          ap (is_closed (with_semaphore h q closed_now)) here.0 ∙ at_q
      by_cut x false a at = uncut x a at x.stage refl

  pub orderly_cutting : IsOrderly (cutting h q)
  orderly_cutting = orderly_staged h q Cut (everyone (queue_at h q)) closed_now there (lacking-filter (λ e. is_debt e.0) (queue_at h q) (v.lacking q))
      (first-filter (λ e. is_debt e.0) (queue_at h q) (v.debts_first q)) (λ some. ap debts_in (v.idle q some))
      (λ some. semaphore_named h q (v.named q some)) v cut_suits
