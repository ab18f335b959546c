-- what stands under each number of a core's queue, after each change of it
use Rattle.std.proofs.Common.{◌≡◌, ◌⊎◌, inl, inr, ℕ, ◌+◌, ◌-◌, ◌≤◌, ◌==◌, ◌||◌, ◌++◌, Bool, true, false, cond, List, [], ◌∷◌, map, filter, min, nat_lt, refl, ap, sym, subst, ◌∙◌, arith, Option, Some, None, if◌then◌else◌}
use Rattle.std.specs.List.{AllByRecursion}
use Rattle.std.specs.Ordering.{nat_cmp}
use Rattle.std.specs.FinMap.{FinMap, get, insert}
use Rattle.std.proofs.lemmas.Bool.{eqb-true, eqb-false}
use Rattle.std.proofs.lemmas.Bool.Decides.{nat_tests}
use Rattle.std.proofs.lemmas.List.Sums.{sum_by-cons}
use Rattle.mea_base.specs.Queue.{lacks_after, waiting_after, granted_in}
use Rattle.mea_base.proofs.Totals.{get_inserted}
use Rattle.mea_base.proofs.Tests.{at_same, at_apart}
use Rattle.mea_sem_core.specs.Core.{Waiter, Acquires, Owes, waiting, waker_under, AreApart, HasOnlyDebts, with_demands, waiters_of, only_debts, debts, debt_of}
use Rattle.mea_sem_core.specs.Calls.{with_waker, without_acquire, with_debt}

abbrev pub Queue : Type 0
Queue = List (Waiter ℕ × ℕ)

-- a choice by whether two numbers are one
pub by_same : {X : Type 0} (m n : ℕ) (x y z : X) → (m ≡ n → x ≡ z) → ((m ≡ n → ⊥) → y ≡ z) → cond (m == n) x y ≡ z
by_same m n x y z same apart = elim (m == n) as (λ b. (m == n) ≡ b → cond b x y ≡ z)
    [ true ↦ λ e. same (eqb-true m n e) | false ↦ λ e. apart (eqb-false m n e) ] refl

-- ---- who waits has a waker
pub waker-none : (q : Queue) (n : ℕ) → waiting q n ≡ None → waker_under q n ≡ None
waker-none [] n h = refl
waker-none ((Acquires m d w, l) ∷ q) n h = elim (m == n)
    as (λ b. cond b (Some (d, l)) (waiting q n) ≡ None → cond b (Some w) (waker_under q n) ≡ None) [ true ↦ λ t. absurd (cc) | false ↦ λ t. waker-none q n t ] h
waker-none ((Owes, l) ∷ q) n h = waker-none q n h

pub waker-some : (q : Queue) (n : ℕ) (p : ℕ × ℕ) → waiting q n ≡ Some p → (w : ℕ) × (waker_under q n ≡ Some w)
waker-some [] n p h = absurd (cc)
waker-some ((Acquires m d w, l) ∷ q) n p h = elim (m == n)
    as (λ b. cond b (Some (d, l)) (waiting q n) ≡ Some p → (v : ℕ) × (cond b (Some w) (waker_under q n) ≡ Some v))
    [ true ↦ λ t. (w, refl) | false ↦ λ t. waker-some q n p t ] h
waker-some ((Owes, l) ∷ q) n p h = waker-some q n p h

-- ---- each who waits is found under its number
abbrev pub IsAt : Queue → Waiter ℕ × ℕ → Type 0
IsAt q (Acquires m d w, l) = (waiting q m ≡ Some (d, l)) × (waker_under q m ≡ Some w)
IsAt q (Owes, l) = Unit {0}

-- what is found behind one of another number is found with it
at_later : (m d w l : ℕ) (q : Queue) (e : Waiter ℕ × ℕ) → waiting q m ≡ None → IsAt q e → IsAt ((Acquires m d w, l) ∷ q) e
at_later m d w l q (Acquires k f v, j) none h =
    let differ : m ≡ k → ⊥ = λ same. absurd (let gone : waiting q k ≡ None = ap (waiting q) (sym same) ∙ none in let here = h.0 in cc) in
    (at_apart m k (Some (d, l)) (waiting q k) differ ∙ h.0, at_apart m k (Some w) (waker_under q k) differ ∙ h.1)
at_later m d w l q (Owes, j) none h = h

behind : (m d w l : ℕ) (q r : Queue) → waiting q m ≡ None → AllByRecursion (IsAt q) r → AllByRecursion (IsAt ((Acquires m d w, l) ∷ q)) r
behind m d w l q [] none h = h
behind m d w l q (e ∷ r) none h = (at_later m d w l q e none h.0, behind m d w l q r none h.1)

at_debt : (l : ℕ) (q : Queue) (e : Waiter ℕ × ℕ) → IsAt q e → IsAt ((Owes, l) ∷ q) e
at_debt l q (Acquires k f v, j) h = h
at_debt l q (Owes, j) h = h

behind_debt : (l : ℕ) (q r : Queue) → AllByRecursion (IsAt q) r → AllByRecursion (IsAt ((Owes, l) ∷ q)) r
behind_debt l q [] h = h
behind_debt l q (e ∷ r) h = (at_debt l q e h.0, behind_debt l q r h.1)

pub all_at : (q : Queue) → AreApart q → AllByRecursion (IsAt q) q
all_at [] h = h
all_at ((Acquires m d w, l) ∷ q) h =
    ((at_same m m (Some (d, l)) (waiting q m) refl, at_same m m (Some w) (waker_under q m) refl), behind m d w l q q h.0 (all_at q h.1))
all_at ((Owes, l) ∷ q) h = (tt, behind_debt l q q (all_at q h))

-- what holds of each by a step holds of each
pub all_by : {X : Type 0} (P Q : X → Type 0) → ((x : X) → P x → Q x) → (xs : List X) → AllByRecursion P xs → AllByRecursion Q xs
all_by P Q f [] h = h
all_by P Q f (x ∷ xs) h = (f x h.0, all_by P Q f xs h.1)

-- ---- one more at the tail
pub waiting-push : (q : Queue) (m d w l n : ℕ) → waiting q m ≡ None → waiting (q ++ (Acquires m d w, l) ∷ []) n ≡ cond (m == n) (Some (d, l)) (waiting q n)
waiting-push [] m d w l n h = refl
waiting-push ((Acquires k e v, j) ∷ q) m d w l n h =
    let parts = parts_of (k == m) refl h in
    ap (λ o. cond (k == n) (Some (e, j)) o) (waiting-push q m d w l n parts.1)
    ∙ by_same k n (Some (e, j)) (cond (m == n) (Some (d, l)) (waiting q n)) (cond (m == n) (Some (d, l)) (cond (k == n) (Some (e, j)) (waiting q n)))
    (λ same. sym (at_apart m n (Some (d, l)) (cond (k == n) (Some (e, j)) (waiting q n)) (λ eq. parts.0 (same ∙ sym eq))
    ∙ at_same k n (Some (e, j)) (waiting q n) same))
    (λ apart. ap (λ o. cond (m == n) (Some (d, l)) o) (sym (at_apart k n (Some (e, j)) (waiting q n) apart)))
  where
    parts_of : (b : Bool) → (k == m) ≡ b → cond b (Some (e, j)) (waiting q m) ≡ None → (k ≡ m → ⊥) × (waiting q m ≡ None)
    parts_of true t h = absurd (cc)
    parts_of false t h = (eqb-false k m t, h)
waiting-push ((Owes, j) ∷ q) m d w l n h = waiting-push q m d w l n h

pub waker-push : (q : Queue) (m d w l n : ℕ) → waiting q m ≡ None → waker_under (q ++ (Acquires m d w, l) ∷ []) n ≡ cond (m == n) (Some w) (waker_under q n)
waker-push [] m d w l n h = refl
waker-push ((Acquires k e v, j) ∷ q) m d w l n h =
    let parts = parts_of (k == m) refl h in
    ap (λ o. cond (k == n) (Some v) o) (waker-push q m d w l n parts.1)
    ∙ by_same k n (Some v) (cond (m == n) (Some w) (waker_under q n)) (cond (m == n) (Some w) (cond (k == n) (Some v) (waker_under q n)))
    (λ same. sym (at_apart m n (Some w) (cond (k == n) (Some v) (waker_under q n)) (λ eq. parts.0 (same ∙ sym eq))
    ∙ at_same k n (Some v) (waker_under q n) same))
    (λ apart. ap (λ o. cond (m == n) (Some w) o) (sym (at_apart k n (Some v) (waker_under q n) apart)))
  where
    parts_of : (b : Bool) → (k == m) ≡ b → cond b (Some (e, j)) (waiting q m) ≡ None → (k ≡ m → ⊥) × (waiting q m ≡ None)
    parts_of true t h = absurd (cc)
    parts_of false t h = (eqb-false k m t, h)
waker-push ((Owes, j) ∷ q) m d w l n h = waker-push q m d w l n h

pub debts-push : (q : Queue) (m d w l : ℕ) → debts (q ++ (Acquires m d w, l) ∷ []) ≡ debts q
debts-push [] m d w l = sum_by-cons {X = Waiter ℕ × ℕ} (λ e. debt_of e.0 e.1) (Acquires m d w, l) []
debts-push (e ∷ q) m d w l =
    omega (
      arith,
      debts-push q m d w l,
      sum_by-cons {X = Waiter ℕ × ℕ} (λ x. debt_of x.0 x.1) e q,
      sum_by-cons {X = Waiter ℕ × ℕ}
          (λ x. debt_of x.0 x.1) e (q ++ (Acquires m d w, l) ∷ []),
    )

-- ---- another waker
pub waiting-with_waker : (q : Queue) (m w n : ℕ) → waiting (with_waker q m w) n ≡ waiting q n
waiting-with_waker [] m w n = refl
waiting-with_waker ((Acquires k d v, l) ∷ q) m w n = ap (λ o. cond (k == n) (Some (d, l)) o) (waiting-with_waker q m w n)
waiting-with_waker ((Owes, l) ∷ q) m w n = waiting-with_waker q m w n

pub waker-with_waker : (q : Queue) (m w n : ℕ) → (m ≡ n → ⊥) → waker_under (with_waker q m w) n ≡ waker_under q n
waker-with_waker [] m w n apart = refl
waker-with_waker ((Acquires k d v, l) ∷ q) m w n apart =
    ap (λ o. cond (k == n) (Some (if k == m then w else v)) o) (waker-with_waker q m w n apart)
    ∙ by_same k n (Some (if k == m then w else v)) (waker_under q n) (cond (k == n) (Some v) (waker_under q n))
    (λ same. ap (λ (x : ℕ). Some x) (at_apart k m w v (λ e. apart (sym e ∙ same))) ∙ sym (at_same k n (Some v) (waker_under q n) same))
    (λ differ. sym (at_apart k n (Some v) (waker_under q n) differ))
waker-with_waker ((Owes, l) ∷ q) m w n apart = waker-with_waker q m w n apart

pub waker-with_waker_same : (q : Queue) (m w : ℕ) (p : ℕ × ℕ) → waiting q m ≡ Some p → waker_under (with_waker q m w) m ≡ Some w
waker-with_waker_same [] m w p h = absurd (cc)
waker-with_waker_same ((Acquires k d v, l) ∷ q) m w p h = elim (k == m)
    as (λ b. cond b (Some (d, l)) (waiting q m) ≡ Some p → cond b (Some (if b then w else v)) (waker_under (with_waker q m w) m) ≡ Some w) [
      | true ↦ λ t. refl
      | false ↦ λ t. waker-with_waker_same q m w p t
    ] h
waker-with_waker_same ((Owes, l) ∷ q) m w p h = waker-with_waker_same q m w p h

pub AreApart-with_waker : (q : Queue) (m w : ℕ) → AreApart q → AreApart (with_waker q m w)
AreApart-with_waker [] m w h = h
AreApart-with_waker ((Acquires k d v, l) ∷ q) m w h = (waiting-with_waker q m w k ∙ h.0, AreApart-with_waker q m w h.1)
AreApart-with_waker ((Owes, l) ∷ q) m w h = AreApart-with_waker q m w h

pub only-with_waker : (q : Queue) (m w : ℕ) → HasOnlyDebts q → HasOnlyDebts (with_waker q m w)
only-with_waker [] m w h = h
only-with_waker ((Acquires k d v, l) ∷ q) m w h = absurd h
only-with_waker ((Owes, l) ∷ q) m w h = only-with_waker q m w h

pub debts-with_waker : (q : Queue) (m w : ℕ) → debts (with_waker q m w) ≡ debts q
debts-with_waker [] m w = refl
debts-with_waker ((Acquires k d v, l) ∷ q) m w =
    omega (
      arith,
      debts-with_waker q m w,
      sum_by-cons {X = Waiter ℕ × ℕ} (λ x. debt_of x.0 x.1) (Acquires k d v, l) q,
      sum_by-cons {X = Waiter ℕ × ℕ}
          (λ x. debt_of x.0 x.1) (Acquires k d (if k == m then w else v), l) (with_waker q m w),
    )
debts-with_waker ((Owes, l) ∷ q) m w =
    omega (
      arith,
      debts-with_waker q m w,
      sum_by-cons {X = Waiter ℕ × ℕ} (λ x. debt_of x.0 x.1) (Owes, l) q,
      sum_by-cons {X = Waiter ℕ × ℕ}
          (λ x. debt_of x.0 x.1) (Owes, l) (with_waker q m w),
    )

-- ---- one has left
pub swapped : {X : Type 0} (k m n : ℕ) (x y : Option X) → (k ≡ m → ⊥) → cond (k == n) x (cond (m == n) None y) ≡ cond (m == n) None (cond (k == n) x y)
swapped k m n x y apart = elim (m == n) as (λ b. (m == n) ≡ b → cond (k == n) x (cond b None y) ≡ cond b None (cond (k == n) x y)) [
  | true ↦ λ e. at_apart k n x None (λ same. apart (same ∙ sym (eqb-true m n e)))
  | false ↦ λ e. refl
] refl

-- the same number is gone, whatever stood under it
gone_twice : {X : Type 0} (k m n : ℕ) (x y : Option X) → k ≡ m → cond (m == n) None y ≡ cond (m == n) None (cond (k == n) x y)
gone_twice k m n x y same = elim (m == n) as (λ b. (m == n) ≡ b → cond b None y ≡ cond b None (cond (k == n) x y)) [
  | true ↦ λ e. refl
  | false ↦ λ e. sym (at_apart k n x y (λ t. eqb-false m n e (sym same ∙ t)))
] refl

pub waiting-without : (q : Queue) (m n : ℕ) → waiting (without_acquire q m) n ≡ cond (m == n) None (waiting q n)
waiting-without [] m n = elim (m == n) as (λ b. ◌≡◌ {A = Option (ℕ × ℕ)} None (cond b None None)) [ true ↦ refl | false ↦ refl ]
waiting-without ((Acquires k d v, l) ∷ q) m n = elim (k == m)
    as (λ b. (k == m) ≡ b → waiting (cond b (without_acquire q m) ((Acquires k d v, l) ∷ without_acquire q m)) n ≡ cond (m == n) None
    (cond (k == n) (Some (d, l)) (waiting q n))) [
      | true ↦ λ t. waiting-without q m n ∙ gone_twice k m n (Some (d, l)) (waiting q n) (eqb-true k m t)
      | false ↦ λ t. ap (λ o. cond (k == n) (Some (d, l)) o) (waiting-without q m n) ∙ swapped k m n (Some (d, l)) (waiting q n) (eqb-false k m t)
    ] refl
waiting-without ((Owes, l) ∷ q) m n = waiting-without q m n

pub waker-without : (q : Queue) (m n : ℕ) → waker_under (without_acquire q m) n ≡ cond (m == n) None (waker_under q n)
waker-without [] m n = elim (m == n) as (λ b. ◌≡◌ {A = Option ℕ} None (cond b None None)) [ true ↦ refl | false ↦ refl ]
waker-without ((Acquires k d v, l) ∷ q) m n = elim (k == m)
    as (λ b. (k == m) ≡ b → waker_under (cond b (without_acquire q m) ((Acquires k d v, l) ∷ without_acquire q m)) n ≡ cond (m == n) None
    (cond (k == n) (Some v) (waker_under q n))) [
      | true ↦ λ t. waker-without q m n ∙ gone_twice k m n (Some v) (waker_under q n) (eqb-true k m t)
      | false ↦ λ t. ap (λ o. cond (k == n) (Some v) o) (waker-without q m n) ∙ swapped k m n (Some v) (waker_under q n) (eqb-false k m t)
    ] refl
waker-without ((Owes, l) ∷ q) m n = waker-without q m n

-- nobody waits where debts alone do
pub only-waiting : (q : Queue) (n : ℕ) → HasOnlyDebts q → waiting q n ≡ None
only-waiting [] n h = refl
only-waiting ((Acquires k d v, l) ∷ q) n h = absurd h
only-waiting ((Owes, l) ∷ q) n h = only-waiting q n h

pub AreApart-push : (q : Queue) (m d w l : ℕ) → waiting q m ≡ None → AreApart q → AreApart (q ++ (Acquires m d w, l) ∷ [])
AreApart-push [] m d w l none h = (none, tt)
AreApart-push ((Acquires k e v, j) ∷ q) m d w l none h =
    let parts = parts_of (k == m) refl none in
    (waiting-push q m d w l k parts.1 ∙ at_apart m k (Some (d, l)) (waiting q k) (λ same. parts.0 (sym same)) ∙ h.0, AreApart-push q m d w l parts.1 h.1)
  where
    parts_of : (b : Bool) → (k == m) ≡ b → cond b (Some (e, j)) (waiting q m) ≡ None → (k ≡ m → ⊥) × (waiting q m ≡ None)
    parts_of true t h = absurd (cc)
    parts_of false t h = (eqb-false k m t, h)
AreApart-push ((Owes, j) ∷ q) m d w l none h = AreApart-push q m d w l none h

-- ---- a debt at the head
pub waiting-debt : (q : Queue) (n m : ℕ) → waiting (with_debt q n) m ≡ waiting q m
waiting-debt q n m = elim (n == 0) as (λ b. waiting (cond b q ((Owes, n) ∷ q)) m ≡ waiting q m) [ true ↦ refl | false ↦ refl ]

pub waker-debt : (q : Queue) (n m : ℕ) → waker_under (with_debt q n) m ≡ waker_under q m
waker-debt q n m = elim (n == 0) as (λ b. waker_under (cond b q ((Owes, n) ∷ q)) m ≡ waker_under q m) [ true ↦ refl | false ↦ refl ]

pub only-debt : (q : Queue) (n : ℕ) → HasOnlyDebts q → HasOnlyDebts (with_debt q n)
only-debt q n h = elim (n == 0) as (λ b. HasOnlyDebts (cond b q ((Owes, n) ∷ q))) [ true ↦ h | false ↦ h ]

pub AreApart-debt : (q : Queue) (n : ℕ) → AreApart q → AreApart (with_debt q n)
AreApart-debt q n h = elim (n == 0) as (λ b. AreApart (cond b q ((Owes, n) ∷ q))) [ true ↦ h | false ↦ h ]

pub debts-debt : (q : Queue) (n : ℕ) → debts (with_debt q n) ≡ debts q + n
debts-debt q n = elim (n == 0) as (λ b. (n == 0) ≡ b → debts (cond b q ((Owes, n) ∷ q)) ≡ debts q + n) [
  | true ↦ λ h. let none : n ≡ 0 = eqb-true n 0 h in omega arith
  | false ↦ λ h. omega (arith, sum_by-cons {X = Waiter ℕ × ℕ} (λ e. debt_of e.0 e.1) (Owes, n) q)
] refl

pub debts-without : (q : Queue) (m : ℕ) → debts (without_acquire q m) ≡ debts q
debts-without [] m = refl
debts-without ((Acquires k d v, l) ∷ q) m = elim (k == m)
    as (λ b. debts (cond b (without_acquire q m) ((Acquires k d v, l) ∷ without_acquire q m)) ≡ debts ((Acquires k d v, l) ∷ q)) [
      | true ↦ omega (arith, debts-without q m, sum_by-cons {X = Waiter ℕ × ℕ} (λ x. debt_of x.0 x.1) (Acquires k d v, l) q)
      | false ↦ omega (
        arith,
        debts-without q m,
        sum_by-cons {X = Waiter ℕ × ℕ} (λ x. debt_of x.0 x.1) (Acquires k d v, l)
            q,
        sum_by-cons {X = Waiter ℕ × ℕ} (λ x. debt_of x.0 x.1) (Acquires k d v, l) (without_acquire q m),
      )
    ]
debts-without ((Owes, l) ∷ q) m =
    omega (
      arith,
      debts-without q m,
      sum_by-cons {X = Waiter ℕ × ℕ} (λ x. debt_of x.0 x.1) (Owes, l) q,
      sum_by-cons {X = Waiter ℕ × ℕ}
          (λ x. debt_of x.0 x.1) (Owes, l) (without_acquire q m),
    )

-- what a pour does to the debts
debts-lacks_after : (q : Queue) (before n : ℕ) → (debts (lacks_after before q n) ≤ debts q) × (debts q ≤ debts (lacks_after before q n) + (n - before))
debts-lacks_after [] before n = (omega arith, omega arith)
debts-lacks_after ((Acquires k d v, l) ∷ q) before n =
    let rest = debts-lacks_after q (before + l) n in
    let a = rest.0 in
    let b = rest.1 in
    let x = sum_by-cons {X = Waiter ℕ × ℕ} (λ x. debt_of x.0 x.1) (Acquires k d v, l) q in
    let y = sum_by-cons {X = Waiter ℕ × ℕ} (λ x. debt_of x.0 x.1) (Acquires k d v, min l (before + l - n)) (lacks_after (before + l) q n) in
    (omega (arith, a, x, y), omega (arith, b, x, y))
debts-lacks_after ((Owes, l) ∷ q) before n =
    let rest = debts-lacks_after q (before + l) n in
    let a = rest.0 in
    let b = rest.1 in
    let x = sum_by-cons {X = Waiter ℕ × ℕ} (λ x. debt_of x.0 x.1) (Owes, l) q in
    let y = sum_by-cons {X = Waiter ℕ × ℕ} (λ x. debt_of x.0 x.1) (Owes, min l (before + l - n)) (lacks_after (before + l) q n) in
    (omega (arith, a, x, y), omega (arith, b, x, y))

debts-filter : (q : Queue) → debts (filter {X = Waiter ℕ × ℕ} (λ e. nat_lt 0 e.1) q) ≡ debts q
debts-filter [] = refl
debts-filter (e ∷ q) = elim (nat_lt 0 e.1)
    as (λ b. nat_lt 0 e.1 ≡ b → debts
    (cond b (e ∷ filter {X = Waiter ℕ × ℕ} (λ d. nat_lt 0 d.1) q) (filter {X = Waiter ℕ × ℕ} (λ d. nat_lt 0 d.1) q)) ≡ debts (e ∷ q)) [
      | true ↦ λ h. omega (
        arith,
        debts-filter q,
        sum_by-cons {X = Waiter ℕ × ℕ} (λ x. debt_of x.0 x.1) e q,
        sum_by-cons {X = Waiter ℕ × ℕ}
            (λ x. debt_of x.0 x.1) e (filter {X = Waiter ℕ × ℕ} (λ d. nat_lt 0 d.1) q),
      )
      | false ↦ λ h. let nothing : e.1 ≡ 0 = grind (arith, nat_tests) in
          omega (arith, debts-filter q, no_debt e.0 e.1 nothing, sum_by-cons {X = Waiter ℕ × ℕ} (λ x. debt_of x.0 x.1) e q)
    ] refl
  where
    no_debt : (w : Waiter ℕ) (l : ℕ) → l ≡ 0 → debt_of w l ≡ 0
    no_debt (Acquires k d v) l h = refl
    no_debt Owes l h = h

pub debts-pour : (q : Queue) (n : ℕ) → (debts (waiting_after q n) ≤ debts q) × (debts q ≤ debts (waiting_after q n) + n)
debts-pour q n =
    let a = debts-lacks_after q 0 n in
    let b = debts-filter (lacks_after 0 q n) in
    let c = a.0 in
    let d = a.1 in
    (omega (arith, b, c), omega (arith, b, d))

-- ---- pouring

-- whether an acquire of this number is among waiters
abbrev pub is_number : Waiter ℕ → ℕ → Bool
is_number (Acquires m d w) n = m == n
is_number Owes n = false

abbrev pub is_among : List (Waiter ℕ) → ℕ → Bool
is_among [] n = false
is_among (e ∷ es) n = is_number e n || is_among es n

-- those of a queue with new lacks who lack something, and those who lack nothing
abbrev pub still_waiting : Queue → Queue
still_waiting q = filter {X = Waiter ℕ × ℕ} (λ e. nat_lt 0 e.1) q

abbrev pub paid_whole : Queue → List (Waiter ℕ)
paid_whole q = map {A = Waiter ℕ × ℕ} (λ e. e.0) (filter {X = Waiter ℕ × ℕ} (λ e. e.1 == 0) q)

-- what stood under a number before a pour and stands there after it, and whether it was paid in full
pub record Splits (before after : Option (ℕ × ℕ)) (w v : Option ℕ) (paid : Bool) : Type 0 where
  pub waits : (d l : ℕ) → after ≡ Some (d, l) → (k : ℕ) × (before ≡ Some (d, k))
  pub waker : v ≡ cond paid None w
  pub still : before ≡ None → w ≡ None
  pub none : before ≡ None → (after ≡ None) × (paid ≡ false)
  pub some : (d k : ℕ) → before ≡ Some (d, k) → ((l : ℕ) × (after ≡ Some (d, l)) × (paid ≡ false)) ⊎ ((paid ≡ true) × (after ≡ None))

abbrev first_or : Option (ℕ × ℕ) → ℕ
first_or None = 0
first_or (Some p) = p.0

-- one more who waits on
one_waits : (k n d w l j : ℕ) (before after : Option (ℕ × ℕ)) (u v : Option ℕ) (paid : Bool) → (k ≡ n → before ≡ None) → Splits before after u v paid
    → Splits (cond (k == n) (Some (d, l)) before) (cond (k == n) (Some (d, j)) after) (cond (k == n) (Some w) u) (cond (k == n) (Some w) v) paid
one_waits k n d w l j before after u v paid fresh splits = elim (k == n)
    as (λ b. (k == n) ≡ b → Splits (cond b (Some (d, l)) before) (cond b (Some (d, j)) after) (cond b (Some w) u) (cond b (Some w) v) paid) [
      | true ↦ λ e.
          let none = splits.none (fresh (eqb-true k n e)) in
          record {
            waits = λ f m h. (l, ap (λ (x : ℕ). Some (x, l)) (ap first_or h));
            still = λ h. absurd (cc);
            waker = sym (ap (λ b. cond b None (Some w)) none.1);
            none = λ h. absurd (cc);
            some = λ f m h. inl (j, ap (λ (x : ℕ). Some (x, j)) (ap first_or h), none.1);
          }
      | false ↦ λ e. splits
    ] refl

-- one more who is paid in full
one_paid : (k n d w l : ℕ) (before after : Option (ℕ × ℕ)) (u v : Option ℕ) (paid : Bool) → (k ≡ n → before ≡ None) → Splits before after u v paid
    → Splits (cond (k == n) (Some (d, l)) before) after (cond (k == n) (Some w) u) v ((k == n) || paid)
one_paid k n d w l before after u v paid fresh splits = elim (k == n)
    as (λ b. (k == n) ≡ b → Splits (cond b (Some (d, l)) before) after (cond b (Some w) u) v (b || paid)) [
      | true ↦ λ e.
          let none = splits.none (fresh (eqb-true k n e)) in
          let before_none : before ≡ None = fresh (eqb-true k n e) in
          record {
            waits = λ f m h. absurd (let gone : after ≡ None = none.0 in cc);
            waker = splits.waker ∙ ap (λ b. cond b None u) none.1 ∙ splits.still before_none;
            still = λ h. absurd (cc);
            none = λ h. absurd (cc);
            some = λ f m h. inr (refl, none.0);
          }
      | false ↦ λ e. splits
    ] refl

-- a choice of whether one more waits on, by its new lack
pub one_more : (j : ℕ) (P : Queue → List (Waiter ℕ) → Type 0) (e : Waiter ℕ) (rest paid : Queue)
    → P ((e, j) ∷ rest) (map {A = Waiter ℕ × ℕ} (λ x. x.0) paid) → P rest (e ∷ map {A = Waiter ℕ × ℕ} (λ x. x.0) paid)
    → P (cond (nat_lt 0 j) ((e, j) ∷ rest) rest) (map {A = Waiter ℕ × ℕ} (λ x. x.0) (cond (j == 0) ((e, j) ∷ paid) paid))
one_more j P e rest paid waits pays =
    elim (j == 0) as (λ b. (j == 0) ≡ b → P (cond (nat_lt 0 j) ((e, j) ∷ rest) rest) (map {A = Waiter ℕ × ℕ} (λ x. x.0) (cond b ((e, j) ∷ paid) paid))) [
      | true ↦ λ h. let none : nat_lt 0 j ≡ false = grind (arith, nat_tests) in
          subst (λ b. P (cond b ((e, j) ∷ rest) rest) (e ∷ map {A = Waiter ℕ × ℕ} (λ x. x.0) paid)) (sym none) pays
      | false ↦ λ h. let some : nat_lt 0 j ≡ true = grind (arith, nat_tests) in
          subst (λ b. P (cond b ((e, j) ∷ rest) rest) (map {A = Waiter ℕ × ℕ} (λ x. x.0) paid)) (sym some) waits
    ] refl

splits_from : (q : Queue) (before amount n : ℕ) → AreApart q
    → Splits (waiting q n) (waiting (still_waiting (lacks_after before q amount)) n) (waker_under q n)
    (waker_under (still_waiting (lacks_after before q amount)) n) (is_among (paid_whole (lacks_after before q amount)) n)
splits_from [] before amount n apart =
    record { waits = λ d l h. absurd (cc); waker = refl; still = λ h. refl; none = λ h. (refl, refl); some = λ d k h. absurd (cc) }
splits_from ((Acquires k d w, l) ∷ q) before amount n apart =
    let so_far = splits_from q (before + l) amount n apart.1 in
    let fresh : k ≡ n → waiting q n ≡ None = λ same. ap (waiting q) (sym same) ∙ apart.0 in
    one_more (min l (before + l - amount))
    (λ rest paid. Splits (cond (k == n) (Some (d, l)) (waiting q n)) (waiting rest n) (cond (k == n) (Some w) (waker_under q n))
    (waker_under rest n) (is_among paid n))
    (Acquires k d w) (still_waiting (lacks_after (before + l) q amount)) (filter {X = Waiter ℕ × ℕ} (λ e. e.1 == 0) (lacks_after (before + l) q amount))
    (one_waits k n d w l (min l (before + l - amount)) _ _ _ _ _ fresh so_far)
    (one_paid k n d w l _ _ _ _ _ fresh so_far)
splits_from ((Owes, l) ∷ q) before amount n apart =
    let so_far = splits_from q (before + l) amount n apart in
    one_more (min l (before + l - amount)) (λ rest paid. Splits (waiting q n) (waiting rest n) (waker_under q n) (waker_under rest n) (is_among paid n))
    Owes (still_waiting (lacks_after (before + l) q amount)) (filter {X = Waiter ℕ × ℕ} (λ e. e.1 == 0) (lacks_after (before + l) q amount)) so_far so_far

pub pour_splits : (q : Queue) (amount n : ℕ) → AreApart q → Splits (waiting q n) (waiting (waiting_after q amount) n) (waker_under q n)
    (waker_under (waiting_after q amount) n) (is_among (granted_in q amount) n)
pour_splits q amount n apart = splits_from q 0 amount n apart

AreApart-rest : (q : Queue) (before amount : ℕ) → AreApart q → AreApart (still_waiting (lacks_after before q amount))
AreApart-rest [] before amount h = h
AreApart-rest ((Acquires k d w, l) ∷ q) before amount h =
    let none = (splits_from q (before + l) amount k h.1).none h.0 in
    one_more (min l (before + l - amount)) (λ rest paid. AreApart rest) (Acquires k d w) (still_waiting (lacks_after (before + l) q amount))
    (filter {X = Waiter ℕ × ℕ} (λ e. e.1 == 0) (lacks_after (before + l) q amount))
    (none.0, AreApart-rest q (before + l) amount h.1) (AreApart-rest q (before + l) amount h.1)
AreApart-rest ((Owes, l) ∷ q) before amount h =
    one_more (min l (before + l - amount)) (λ rest paid. AreApart rest) Owes (still_waiting (lacks_after (before + l) q amount))
    (filter {X = Waiter ℕ × ℕ} (λ e. e.1 == 0) (lacks_after (before + l) q amount))
    (AreApart-rest q (before + l) amount h) (AreApart-rest q (before + l) amount h)

only-rest : (q : Queue) (before amount : ℕ) → HasOnlyDebts q → HasOnlyDebts (still_waiting (lacks_after before q amount))
only-rest [] before amount h = h
only-rest ((Acquires k d w, l) ∷ q) before amount h = absurd h
only-rest ((Owes, l) ∷ q) before amount h =
    one_more (min l (before + l - amount)) (λ rest paid. HasOnlyDebts rest) Owes (still_waiting (lacks_after (before + l) q amount))
    (filter {X = Waiter ℕ × ℕ} (λ e. e.1 == 0) (lacks_after (before + l) q amount))
    (only-rest q (before + l) amount h) (only-rest q (before + l) amount h)

pub AreApart-waiting_after : (q : Queue) (amount : ℕ) → AreApart q → AreApart (waiting_after q amount)
AreApart-waiting_after q amount h = AreApart-rest q 0 amount h

pub only-waiting_after : (q : Queue) (amount : ℕ) → HasOnlyDebts q → HasOnlyDebts (waiting_after q amount)
only-waiting_after q amount h = only-rest q 0 amount h

-- ---- the debts alone
pub waiting-only : (q : Queue) (n : ℕ) → waiting (only_debts q) n ≡ None
waiting-only [] n = refl
waiting-only ((Acquires k d w, l) ∷ q) n = waiting-only q n
waiting-only ((Owes, l) ∷ q) n = waiting-only q n

waker-only : (q : Queue) (n : ℕ) → waker_under (only_debts q) n ≡ None
waker-only [] n = refl
waker-only ((Acquires k d w, l) ∷ q) n = waker-only q n
waker-only ((Owes, l) ∷ q) n = waker-only q n

pub AreApart-only : (q : Queue) → AreApart (only_debts q)
AreApart-only [] = tt
AreApart-only ((Acquires k d w, l) ∷ q) = AreApart-only q
AreApart-only ((Owes, l) ∷ q) = AreApart-only q

pub only-only : (q : Queue) → HasOnlyDebts (only_debts q)
only-only [] = tt
only-only ((Acquires k d w, l) ∷ q) = only-only q
only-only ((Owes, l) ∷ q) = only-only q

pub debts-only : (q : Queue) → debts (only_debts q) ≡ debts q
debts-only [] = refl
debts-only ((Acquires k d w, l) ∷ q) = omega (arith, debts-only q, sum_by-cons {X = Waiter ℕ × ℕ} (λ x. debt_of x.0 x.1) (Acquires k d w, l) q)
debts-only ((Owes, l) ∷ q) = omega (
  arith,
  debts-only q,
  sum_by-cons {X = Waiter ℕ × ℕ} (λ x. debt_of x.0 x.1) (Owes, l) q,
  sum_by-cons {X = Waiter ℕ × ℕ} (λ x. debt_of x.0 x.1) (Owes, l) (only_debts q),
)

-- who waits is among the waiters, and nobody else
pub among-waits : (q : Queue) (n : ℕ) (p : ℕ × ℕ) → waiting q n ≡ Some p → is_among (waiters_of q) n ≡ true
among-waits [] n p h = absurd (cc)
among-waits ((Acquires k d w, l) ∷ q) n p h = elim (k == n)
    as (λ b. cond b (Some (d, l)) (waiting q n) ≡ Some p → (b || is_among (waiters_of q) n) ≡ true) [ true ↦ λ t. refl | false ↦ λ t. among-waits q n p t ] h
among-waits ((Owes, l) ∷ q) n p h = among-waits q n p h

pub among-none : (q : Queue) (n : ℕ) → waiting q n ≡ None → is_among (waiters_of q) n ≡ false
among-none [] n h = refl
among-none ((Acquires k d w, l) ∷ q) n h = elim (k == n)
    as (λ b. cond b (Some (d, l)) (waiting q n) ≡ None → (b || is_among (waiters_of q) n) ≡ false) [ true ↦ λ t. absurd (cc) | false ↦ λ t. among-none q n t ] h
among-none ((Owes, l) ∷ q) n h = among-none q n h

-- all who wait leave
pub cut_splits : (q : Queue) (n : ℕ) → Splits (waiting q n) (waiting (only_debts q) n) (waker_under q n) (waker_under (only_debts q) n)
    (is_among (waiters_of q) n)
cut_splits q n = record {
  waits = λ d l h. absurd (let none = waiting-only q n in cc);
  waker = waker-only q n ∙ by_option (waiting q n) refl;
  still = λ h. waker-none q n h;
  none = λ h. (waiting-only q n, among-none q n h);
  some = λ d k h. inr (among-waits q n (d, k) h, waiting-only q n);
}
  where
    by_option : (o : Option (ℕ × ℕ)) → waiting q n ≡ o → None ≡ cond (is_among (waiters_of q) n) None (waker_under q n)
    by_option None h = sym (ap (λ b. cond b None (waker_under q n)) (among-none q n h) ∙ waker-none q n h)
    by_option (Some p) h = sym (ap (λ b. cond b None (waker_under q n)) (among-waits q n p h))

-- pairs of numbers with those of some waiters
pub demands-other : (g : FinMap nat_cmp ℕ) (ws : List (Waiter ℕ)) (n : ℕ) → is_among ws n ≡ false → get (with_demands g ws) n ≡ get g n
demands-other g [] n h = refl
demands-other g (Acquires m d w ∷ ws) n h = elim (m == n)
    as (λ b. (m == n) ≡ b → (b || is_among ws n) ≡ false → get (with_demands (insert g m d) ws) n ≡ get g n) [
      | true ↦ λ e t. absurd (cc)
      | false ↦ λ e t. demands-other (insert g m d) ws n t ∙ get_inserted g m n d ∙ at_apart m n (Some d) (get g n) (eqb-false m n e)
    ] refl h
demands-other g (Owes ∷ ws) n h = demands-other g ws n h

-- each of these who has the number has this demand
abbrev pub AllDemand : List (Waiter ℕ) → ℕ → ℕ → Type 0
AllDemand [] n d = Unit {0}
AllDemand (Acquires m e w ∷ ws) n d = (m ≡ n → e ≡ d) × AllDemand ws n d
AllDemand (Owes ∷ ws) n d = AllDemand ws n d

pub demands-among : (g : FinMap nat_cmp ℕ) (ws : List (Waiter ℕ)) (n d : ℕ) → AllDemand ws n d → is_among ws n ≡ true → get (with_demands g ws) n ≡ Some d
demands-among g [] n d all h = absurd (cc)
demands-among g (Acquires m e w ∷ ws) n d all h = by_rest (is_among ws n) refl (λ t. demands-among (insert g m e) ws n d all.1 t)
  where
    first_true : (a b : Bool) → (a || b) ≡ true → b ≡ false → a ≡ true
    first_true true b h t = refl
    first_true false b h t = absurd (cc)

    by_rest : (b : Bool) → is_among ws n ≡ b → (is_among ws n ≡ true → get (with_demands (insert g m e) ws) n ≡ Some d)
        → get (with_demands (insert g m e) ws) n ≡ Some d
    by_rest true t rest = rest t
    by_rest false t rest =
        let here : (m == n) ≡ true = first_true (m == n) (is_among ws n) h t in
        demands-other (insert g m e) ws n t ∙ get_inserted g m n e ∙ at_same m n (Some e) (get g n) (eqb-true m n here)
        ∙ ap (λ (x : ℕ). Some x) (all.0 (eqb-true m n here))
demands-among g (Owes ∷ ws) n d all h = demands-among g ws n d all h

-- each of a queue that has the number has this demand
abbrev EachDemand : Queue → ℕ → ℕ → Type 0
EachDemand [] n d = Unit {0}
EachDemand ((Acquires m e w, l) ∷ r) n d = (m ≡ n → e ≡ d) × EachDemand r n d
EachDemand ((Owes, l) ∷ r) n d = EachDemand r n d

each_found : (q r : Queue) (n d k : ℕ) → waiting q n ≡ Some (d, k) → AllByRecursion (IsAt q) r → EachDemand r n d
each_found q [] n d k is h = tt
each_found q ((Acquires m e w, l) ∷ r) n d k is h = ((λ same. ap first_or (sym h.0.0 ∙ ap (waiting q) same ∙ is)), each_found q r n d k is h.1)
each_found q ((Owes, l) ∷ r) n d k is h = each_found q r n d k is h.1

each_paid : (r : Queue) (before amount n d : ℕ) → EachDemand r n d → AllDemand (paid_whole (lacks_after before r amount)) n d
each_paid [] before amount n d h = tt
each_paid ((Acquires m e w, l) ∷ r) before amount n d h =
    one_more (min l (before + l - amount)) (λ rest paid. AllDemand paid n d) (Acquires m e w) (still_waiting (lacks_after (before + l) r amount))
    (filter {X = Waiter ℕ × ℕ} (λ x. x.1 == 0) (lacks_after (before + l) r amount))
    (each_paid r (before + l) amount n d h.1) (h.0, each_paid r (before + l) amount n d h.1)
each_paid ((Owes, l) ∷ r) before amount n d h =
    one_more (min l (before + l - amount)) (λ rest paid. AllDemand paid n d) Owes (still_waiting (lacks_after (before + l) r amount))
    (filter {X = Waiter ℕ × ℕ} (λ x. x.1 == 0) (lacks_after (before + l) r amount))
    (each_paid r (before + l) amount n d h) (each_paid r (before + l) amount n d h)

-- who is paid in full is granted its demand
pub granted-poured : (g : FinMap nat_cmp ℕ) (q : Queue) (amount n d k : ℕ) → AreApart q → waiting q n ≡ Some (d, k)
    → is_among (granted_in q amount) n ≡ true → get (with_demands g (granted_in q amount)) n ≡ Some d
granted-poured g q amount n d k apart is among = demands-among g (granted_in q amount) n d
    (each_paid q 0 amount n d (each_found q q n d k is (all_at q apart))) among

-- who is cut has its demand
all_demand : (r : Queue) (n d : ℕ) → EachDemand r n d → AllDemand (waiters_of r) n d
all_demand [] n d h = tt
all_demand ((Acquires m e w, l) ∷ r) n d h = (h.0, all_demand r n d h.1)
all_demand ((Owes, l) ∷ r) n d h = all_demand r n d h

pub cut-demand : (g : FinMap nat_cmp ℕ) (q : Queue) (n d k : ℕ) → AreApart q → waiting q n ≡ Some (d, k) → get (with_demands g (waiters_of q)) n ≡ Some d
cut-demand g q n d k apart is = demands-among g (waiters_of q) n d (all_demand q n d (each_found q q n d k is (all_at q apart))) (among-waits q n (d, k) is)
