-- what stands at each name of a hall after a change
use Rattle.std.proofs.Common.{◌≡◌, ℕ, ◌+◌, ◌-◌, ◌≤◌, ◌==◌, ◌||◌, Bool, true, false, cond, List, [], ◌∷◌, Option, Some, None, unwrap_or, refl, ap, sym, subst, ◌∙◌, arith, is_some, min, nat_lt, filter}
use Rattle.std.specs.Option.{option_map}
use Rattle.std.specs.Ordering.{nat_cmp}
use Rattle.std.specs.FinMap.{FinMap, get}
use Rattle.std.proofs.lemmas.Bool.{eqb-true, eqb-false}
use Rattle.std.proofs.lemmas.Bool.Decides.{nat_tests}
use Rattle.std.proofs.lemmas.List.Sums.{sum_by-cons}
use Rattle.mea_base.specs.Queue.{lacks_after, waiting_after}
use Rattle.mea_base.proofs.Totals.{get_inserted}
use Rattle.mea_base.proofs.Maps.{inside}
use Rattle.mea_sem_model.specs.Hall.{Hall, Semaphore, Future, FutureStage, Granted, Who, Waiter, Debt, names, made_with, semaphore_at, is_closed, staged, granted, stage_if, stage_who, stage_all, grant_all, with_semaphore, debt_of, debts}
use Rattle.mea_sem_model.specs.Cause.{is_named, is_named_semaphore}

-- ---- semaphores
pub semaphore_put : (h : Hall) (q s : ℕ) (r : Semaphore) → semaphore_at (with_semaphore h q r) s ≡ cond (q == s) r (semaphore_at h s)
semaphore_put h q s r = ap (λ o. unwrap_or o (made_with 0)) (get_inserted h.semaphores q s r) ∙ out (q == s)
  where
    out : (b : Bool) → unwrap_or (cond b (Some r) (get h.semaphores s)) (made_with 0) ≡ cond b r (semaphore_at h s)
    out true = refl
    out false = refl

-- what holds of the new semaphore there, and of each other as it was
pub by_semaphore : (h : Hall) (q : ℕ) (r : Semaphore) (P : ℕ → Semaphore → Type 0) → P q r → ((s : ℕ) → (q ≡ s → ⊥) → P s (semaphore_at h s))
    → (s : ℕ) → P s (semaphore_at (with_semaphore h q r) s)
by_semaphore h q r P here others s = subst (P s) (sym (semaphore_put h q s r)) (at_test (q == s) refl)
  where
    at_test : (b : Bool) → (q == s) ≡ b → P s (cond b r (semaphore_at h s))
    at_test true e = subst (λ k. P k r) (eqb-true q s e) here
    at_test false e = others s (eqb-false q s e)

-- a semaphore that is found to be named is named
pub semaphore_named : (h : Hall) (q : ℕ) → is_named h q ≡ true → (semaphore_at h q).named ≡ true
semaphore_named h q = by_option (get h.semaphores q)
  where
    by_option : (o : Option Semaphore) → is_named_semaphore o ≡ true → (unwrap_or o (made_with 0)).named ≡ true
    by_option None e = absurd (cc)
    by_option (Some r) e = e

-- a semaphore that is put in closes none and opens none, where it is closed as the one before
pub closed_put : (h : Hall) (q : ℕ) (r : Semaphore) → r.closed ≡ is_closed h q → (s : ℕ) → is_closed (with_semaphore h q r) s ≡ is_closed h s
closed_put h q r same s = by_semaphore h q r (λ k y. y.closed ≡ is_closed h k) same (λ k apart. refl) s

-- ---- who comes to a stage
-- whether a future is among those
abbrev pub among : List Who → ℕ → Bool
among [] f = false
among (w ∷ ws) f = names w f || among ws f

module _ (t : FutureStage) where
  get-stage_if : (m : FinMap nat_cmp Future) (f q : ℕ) (o : Option Future) → get m f ≡ o
      → get (stage_if t m f o) q ≡ cond (f == q) (option_map (staged t) (get m q)) (get m q)
  get-stage_if m f q None is = elim (f == q) as (λ b. (f == q) ≡ b → get m q ≡ cond b (option_map (staged t) (get m q)) (get m q)) [
    | true ↦ λ h. let gone : get m q ≡ None = ap (get m) (sym (eqb-true f q h)) ∙ is in rw gone
    | false ↦ λ h. refl
  ] refl
  get-stage_if m f q (Some x) is = get_inserted m f q (staged t x)
      ∙ elim (f == q) as (λ b. (f == q) ≡ b → cond b (Some (staged t x)) (get m q) ≡ cond b (option_map (staged t) (get m q)) (get m q)) [
        | true ↦ λ h. let there : get m q ≡ Some x = ap (get m) (sym (eqb-true f q h)) ∙ is in rw there
        | false ↦ λ h. refl
      ] refl

  get-stage_who : (m : FinMap nat_cmp Future) (w : Who) (q : ℕ) → get (stage_who t m w) q ≡ cond (names w q) (option_map (staged t) (get m q)) (get m q)
  get-stage_who m (Waiter f) q = get-stage_if m f q (get m f) refl
  get-stage_who m Debt q = refl

  twice : (a b : Bool) (o : Option Future) → cond b (option_map (staged t) (cond a (option_map (staged t) o) o)) (cond a (option_map (staged t) o) o) ≡ cond
      (a || b) (option_map (staged t) o) o
  twice true true None = refl
  twice true true (Some x) = refl
  twice true false o = refl
  twice false b o = refl

  -- what a future is after some come to a stage
  pub get-stage_all : (ws : List Who) (m : FinMap nat_cmp Future) (q : ℕ) → get (stage_all t ws m) q ≡ cond (among ws q)
      (option_map (staged t) (get m q)) (get m q)
  get-stage_all [] m q = refl
  get-stage_all (w ∷ ws) m q = get-stage_all ws (stage_who t m w) q
      ∙ ap (λ o. cond (among ws q) (option_map (staged t) o) o) (get-stage_who m w q) ∙ twice (names w q) (among ws q) (get m q)

  -- a future that came to the stage, or not, was there before, the same but for its stage
  pub staged_was : (b : Bool) (o : Option Future) (y : Future) → cond b (option_map (staged t) o) o ≡ Some y
      → (x : Future) × (o ≡ Some x) × (x.demand ≡ y.demand) × (x.semaphore ≡ y.semaphore) × (x.plain ≡ y.plain) × (y ≡ cond b (staged t x) x)
  staged_was true None y e = absurd (cc)
  staged_was false None y e = absurd (cc)
  staged_was true (Some x) y e = (
    x,
    refl,
    ap (λ (z : Future). z.demand) (inside e),
    ap (λ (z : Future). z.semaphore) (inside e),
    ap (λ (z : Future). z.plain) (inside e),
    sym (inside e),
  )
  staged_was false (Some x) y e = (
    x,
    refl,
    ap (λ (z : Future). z.demand) (inside e),
    ap (λ (z : Future). z.semaphore) (inside e),
    ap (λ (z : Future). z.plain) (inside e),
    sym (inside e),
  )

  -- coming to a stage makes no name and takes none away
  staged_there : (b : Bool) (o : Option Future) → is_some (cond b (option_map (staged t) o) o) ≡ is_some o
  staged_there true None = refl
  staged_there true (Some x) = refl
  staged_there false o = refl

  pub names_staged : (ws : List Who) (m : FinMap nat_cmp Future) (f : ℕ) → is_some (get (stage_all t ws m) f) ≡ is_some (get m f)
  names_staged ws m f = ap is_some (get-stage_all ws m f) ∙ staged_there (among ws f) (get m f)

-- what a future is after some are granted
pub get-grant_all : (ws : List Who) (m : FinMap nat_cmp Future) (q : ℕ) → get (grant_all ws m) q ≡ cond (among ws q) (option_map granted (get m q)) (get m q)
get-grant_all ws m q = get-stage_all Granted ws m q

-- ---- debts
debts-after : (q : List (Who × ℕ)) (before n : ℕ) → debts (lacks_after before q n) ≤ debts q
debts-after [] before n = omega arith
debts-after ((Waiter f, k) ∷ q) before n = omega (
  arith,
  debts-after q (before + k) n,
  sum_by-cons {X = Who × ℕ} (λ e. debt_of e.0 e.1) (Waiter f, k) q,
  sum_by-cons {X = Who × ℕ} (λ e. debt_of e.0 e.1) (Waiter f, min k (before + k - n)) (lacks_after (before + k) q n),
)
debts-after ((Debt, k) ∷ q) before n =
    let less : min k (before + k - n) ≤ k = grind (arith, nat_tests) in
    omega (
      arith,
      less,
      debts-after q (before + k) n,
      sum_by-cons {X = Who × ℕ} (λ e. debt_of e.0 e.1) (Debt, k) q,
      sum_by-cons {X = Who × ℕ} (λ e. debt_of e.0 e.1) (Debt, min k (before + k - n)) (lacks_after (before + k) q n),
    )

pub filtered-owed : (p : Who × ℕ → Bool) (q : List (Who × ℕ)) → debts (filter {X = Who × ℕ} p q) ≤ debts q
filtered-owed p [] = omega arith
filtered-owed p (e ∷ q) = elim (p e) as (λ b. debts (cond b (e ∷ filter {X = Who × ℕ} p q) (filter {X = Who × ℕ} p q)) ≤ debts (e ∷ q)) [
  | true ↦ omega (
    arith,
    filtered-owed p q,
    sum_by-cons {X = Who × ℕ} (λ d. debt_of d.0 d.1) e q,
    sum_by-cons {X = Who × ℕ} (λ d. debt_of d.0 d.1) e
        (filter {X = Who × ℕ} p q),
  )
  | false ↦ omega (arith, filtered-owed p q, sum_by-cons {X = Who × ℕ} (λ d. debt_of d.0 d.1) e q)
]

-- a pour makes no debt greater
pub poured-owed : (q : List (Who × ℕ)) (n : ℕ) → debts (waiting_after q n) ≤ debts q
poured-owed q n = omega (arith, filtered-owed (λ e. nat_lt 0 e.1) (lacks_after 0 q n), debts-after q 0 n)
