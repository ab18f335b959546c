-- what futures have taken is paid to them, or they lack it
use Rattle.std.proofs.Common.{◌≡◌, ℕ, ◌+◌, ◌<◌, ◌==◌, Bool, true, false, cond, List, [], ◌∷◌, refl, ap, ◌∙◌, arith, Option, Some, None, sum_by}
use Rattle.std.specs.Ordering.{nat_cmp}
use Rattle.std.specs.FinMap.{FinMap, get}
use Rattle.std.proofs.lemmas.List.Sums.{sum_by-cons}
use Rattle.std.proofs.lemmas.Bool.{eq-eqb}
use Rattle.mea_base.specs.Totals.{total}
use Rattle.mea_base.specs.Queue.{lacks}
use Rattle.mea_base.proofs.Totals.{total-same, total-plus, total-zero, total-point}
use Rattle.mea_base.proofs.Tests.{on_true, on_false}
use Rattle.mea_sem_model.specs.Hall.{Hall, Future, FutureStage, New, Waiting, Granted, Cut, Who, Waiter, Debt, queue_at, names, lack_of, debt_of, debts, paid_to, paid}
use Rattle.mea_sem_model.specs.Valid.{count, one_if_waiting, waits_at}
use Rattle.mea_sem_model.proofs.Matched.{IsMatched, new_waits, granted_waits, cut_waits, lacks_nothing}
use Rattle.mea_sem_model.proofs.Changes.{taken, taken_by, committed}

abbrev pub lack_of_waiter : Who → ℕ → ℕ
lack_of_waiter (Waiter f) n = n
lack_of_waiter Debt n = 0

-- what the futures of a queue lack together
abbrev pub waiters : List (Who × ℕ) → ℕ
waiters q = sum_by {X = Who × ℕ} (λ e. lack_of_waiter e.0 e.1) q

pub parts : (q : List (Who × ℕ)) → debts q + waiters q ≡ lacks q
parts [] = refl
parts ((Waiter f, n) ∷ q) = omega (
  arith,
  parts q,
  sum_by-cons {X = Who × ℕ} (λ e. lack_of_waiter e.0 e.1) (Waiter f, n) q,
  sum_by-cons {X = Who × ℕ} (λ e. debt_of e.0 e.1)
      (Waiter f, n) q,
  sum_by-cons {X = Who × ℕ} (λ e. e.1) (Waiter f, n) q,
)
parts ((Debt, n) ∷ q) = omega (
  arith,
  parts q,
  sum_by-cons {X = Who × ℕ} (λ e. lack_of_waiter e.0 e.1) (Debt, n) q,
  sum_by-cons {X = Who × ℕ}
      (λ e. debt_of e.0 e.1) (Debt, n) q,
  sum_by-cons {X = Who × ℕ} (λ e. e.1) (Debt, n) q,
)

-- the lacks in a queue, summed by names
by_names : (m : FinMap nat_cmp Future) (q : List (Who × ℕ)) → ((f : ℕ) → 0 < count q f → (x : Future) × (get m f ≡ Some x))
    → total (λ f x. lack_of q f) m ≡ waiters q
by_names m [] found = total-zero (λ f x. lack_of [] f) m (λ f x is. refl)
by_names m ((Waiter g, n) ∷ q) found =
    let there = found g (omega (arith, on_true (g == g) 1 (eq-eqb g g refl), sum_by-cons {X = Who × ℕ} (λ d. cond (names d.0 g) 1 0) (Waiter g, n) q)) in
    let rest : total (λ f (x : Future). lack_of q f) m ≡ waiters q =
    by_names m q (λ f some. found f (omega (arith, some, sum_by-cons {X = Who × ℕ} (λ d. cond (names d.0 f) 1 0) (Waiter g, n) q))) in
    total-same (λ f x. lack_of ((Waiter g, n) ∷ q) f) (λ f x. cond (g == f) n 0 + lack_of q f) m
    (λ f x is. sum_by-cons {X = Who × ℕ} (λ d. cond (names d.0 f) d.1 0) (Waiter g, n) q)
    ∙ omega (
      arith,
      total-plus (λ f x. cond (g == f) n 0) (λ f x. lack_of q f) m,
      total-point m g n there.0 there.1,
      rest,
      sum_by-cons {X = Who × ℕ}
          (λ e. lack_of_waiter e.0 e.1) (Waiter g, n) q,
    )
by_names m ((Debt, n) ∷ q) found =
    let rest : total (λ f (x : Future). lack_of q f) m ≡ waiters q =
    by_names m q (λ f some. found f (omega (arith, some, sum_by-cons {X = Who × ℕ} (λ d. cond (names d.0 f) 1 0) (Debt, n) q))) in
    total-same (λ f x. lack_of ((Debt, n) ∷ q) f) (λ f x. lack_of q f) m
    (λ f x is. omega (arith, sum_by-cons {X = Who × ℕ} (λ d. cond (names d.0 f) d.1 0) (Debt, n) q))
    ∙ omega (arith, rest, sum_by-cons {X = Who × ℕ} (λ e. lack_of_waiter e.0 e.1) (Debt, n) q)

module _ (h : Hall) (v : IsMatched h) (s : ℕ) where
  some_future : (o : Option Future) → 0 < waits_at s o → (x : Future) × (o ≡ Some x)
  some_future None p = absurd (omega arith)
  some_future (Some x) p = (x, refl)

  one_paid : (f : ℕ) (x : Future) → get h.futures f ≡ Some x → (b : Bool) → (x.semaphore == s) ≡ b → (t : FutureStage) → x.stage ≡ t
      → cond b (paid_to (queue_at h s) f x.demand t) 0 + lack_of (queue_at h s) f ≡ cond b (taken x.demand t) 0
  one_paid f x is false e t st = omega (arith, lacks_nothing h s f (ap (waits_at s) is ∙ on_false (x.semaphore == s) (one_if_waiting x.stage) e) v)
  one_paid f x is true e New st = omega (arith, lacks_nothing h s f (ap (waits_at s) is ∙ new_waits x s st) v)
  one_paid f x is true e (Waiting w) st = let within = v.within s f x is in omega arith
  one_paid f x is true e Granted st = omega (arith, lacks_nothing h s f (ap (waits_at s) is ∙ granted_waits x s st) v)
  one_paid f x is true e Cut st = omega (arith, lacks_nothing h s f (ap (waits_at s) is ∙ cut_waits x s st) v)

  pub paid_or_lacked : paid h s + waiters (queue_at h s) ≡ committed h.futures s
  paid_or_lacked =
      let sums : total (λ f (x : Future). lack_of (queue_at h s) f) h.futures ≡ waiters (queue_at h s) =
      by_names h.futures (queue_at h s) (λ f some. some_future (get h.futures f) (omega (arith, v.once s f))) in
      omega (
        arith,
        sums,
        total-plus (λ f x. cond (x.semaphore == s) (paid_to (queue_at h s) f x.demand x.stage) 0) (λ f x. lack_of (queue_at h s) f) h.futures,
        total-same (λ f x. cond (x.semaphore == s) (paid_to (queue_at h s) f x.demand x.stage) 0 + lack_of (queue_at h s) f) (taken_by s) h.futures
            (λ f x is. one_paid f x is (x.semaphore == s) refl x.stage refl),
      )
