-- what the sums of the lacks say, step by step from the front of the queue
use Rattle.std.proofs.Common.{◌≡◌, ℕ, ◌+◌, ◌-◌, ◌<◌, ◌≤◌, ◌==◌, Bool, true, false, cond, List, [], ◌∷◌, ◌++◌, map, filter, min, nat_lt, refl, ap, ◌∙◌, arith}
use Rattle.std.specs.Ordering.{nat_cmp}
use Rattle.std.specs.FinMap as fin
use Rattle.std.proofs.lemmas.List.Sums.{sum_by-cons}
use Rattle.std.proofs.lemmas.List.{append-nil}
use Rattle.std.proofs.lemmas.Bool.{cond-true, cond-false, lt-ltb, ne_eqb}
use Rattle.mea_base.specs.Queue.{lacks, lacks_after, waiting_after, granted_in}
use Rattle.mea_sem_core.specs.Core.{Waiter, Acquires, Owes, Core, debt_of, debts, paid_to_debts, granting, wakers_of, poured}

module _ {A : Type 0} where
  -- each lacks at least 1
  abbrev pub AllLack : List (A × ℕ) → Type 0
  AllLack [] = Unit {0}
  AllLack (e ∷ q) = (1 ≤ e.1) × AllLack q

  -- to pay some of what came before is as if that had not been poured
  lacks_after-less : (q : List (A × ℕ)) (before k n : ℕ) → k ≤ n → lacks_after (before + k) q n ≡ lacks_after before q (n - k)
  lacks_after-less [] before k n h = refl
  lacks_after-less (e ∷ q) before k n h =
      ap (λ l. (e.0, l) ∷ lacks_after (before + k + e.1) q n)
      (let same : min e.1 (before + k + e.1 - n) ≡ min e.1 (before + e.1 - (n - k)) = omega arith in same)
      ∙ ap (λ t. (e.0, min e.1 (before + e.1 - (n - k))) ∷ t)
      (ap (λ b. lacks_after b q n) (let same : before + k + e.1 ≡ before + e.1 + k = omega arith in same) ∙ lacks_after-less q (before + e.1) k n h)

  -- those after the last that was paid lack what they did
  lacks_after-none : (q : List (A × ℕ)) (before n : ℕ) → n ≤ before → lacks_after before q n ≡ q
  lacks_after-none [] before n h = refl
  lacks_after-none (e ∷ q) before n h =
      ap (λ l. (e.0, l) ∷ lacks_after (before + e.1) q n) (let same : min e.1 (before + e.1 - n) ≡ e.1 = omega arith in same)
      ∙ ap (λ t. e ∷ t) (lacks_after-none q (before + e.1) n (omega arith))

  lacks_after-whole : (e : A × ℕ) (q : List (A × ℕ)) (n : ℕ) → e.1 ≤ n → lacks_after 0 (e ∷ q) n ≡ (e.0, 0) ∷ lacks_after 0 q (n - e.1)
  lacks_after-whole e q n h =
      ap (λ l. (e.0, l) ∷ lacks_after (0 + e.1) q n) (let same : min e.1 (0 + e.1 - n) ≡ 0 = omega arith in same)
      ∙ ap (λ t. (e.0, 0) ∷ t) (lacks_after-less q 0 e.1 n h)

  lacks_after-part : (e : A × ℕ) (q : List (A × ℕ)) (n : ℕ) → n ≤ e.1 → lacks_after 0 (e ∷ q) n ≡ (e.0, e.1 - n) ∷ q
  lacks_after-part e q n h =
      ap (λ l. (e.0, l) ∷ lacks_after (0 + e.1) q n) (let same : min e.1 (0 + e.1 - n) ≡ e.1 - n = omega arith in same)
      ∙ ap (λ t. (e.0, e.1 - n) ∷ t) (lacks_after-none q (0 + e.1) n (omega arith))

  -- one who can be paid whole goes, and the rest pays the others
  pub waiting_whole : (e : A × ℕ) (q : List (A × ℕ)) (n : ℕ) → e.1 ≤ n → waiting_after (e ∷ q) n ≡ waiting_after q (n - e.1)
  waiting_whole e q n h = ap (filter {X = A × ℕ} (λ x. nat_lt 0 x.1)) (lacks_after-whole e q n h)

  pub granted_whole : (e : A × ℕ) (q : List (A × ℕ)) (n : ℕ) → e.1 ≤ n → granted_in (e ∷ q) n ≡ e.0 ∷ granted_in q (n - e.1)
  granted_whole e q n h = ap (λ t. map {A = A × ℕ} (λ x. x.0) (filter {X = A × ℕ} (λ x. x.1 == 0) t)) (lacks_after-whole e q n h)

  keeps_all : (q : List (A × ℕ)) → AllLack q → filter {X = A × ℕ} (λ x. nat_lt 0 x.1) q ≡ q
  keeps_all [] h = refl
  keeps_all (e ∷ q) h = cond-true _ _ _ (lt-ltb 0 e.1 (omega (arith, h.0))) ∙ ap (λ t. e ∷ t) (keeps_all q h.1)

  drops_all : (q : List (A × ℕ)) → AllLack q → filter {X = A × ℕ} (λ x. x.1 == 0) q ≡ []
  drops_all [] h = refl
  drops_all (e ∷ q) h = cond-false _ _ _ (ne_eqb e.1 0 (λ none. omega (arith, h.0, none))) ∙ drops_all q h.1

  -- one who cannot be paid whole keeps the rest as part payment
  pub waiting_part : (e : A × ℕ) (q : List (A × ℕ)) (n : ℕ) → n < e.1 → AllLack q → waiting_after (e ∷ q) n ≡ (e.0, e.1 - n) ∷ q
  waiting_part e q n h lacking = ap (filter {X = A × ℕ} (λ x. nat_lt 0 x.1)) (lacks_after-part e q n (omega arith))
      ∙ keeps_all ((e.0, e.1 - n) ∷ q) (omega arith, lacking)

  pub granted_part : (e : A × ℕ) (q : List (A × ℕ)) (n : ℕ) → n < e.1 → AllLack q → granted_in (e ∷ q) n ≡ []
  granted_part e q n h lacking = ap (λ t. map {A = A × ℕ} (λ x. x.0) (filter {X = A × ℕ} (λ x. x.1 == 0) t)) (lacks_after-part e q n (omega arith))
      ∙ ap (map {A = A × ℕ} (λ x. x.0)) (drops_all ((e.0, e.1 - n) ∷ q) (omega arith, lacking))

  pub lacks-cons : (e : A × ℕ) (q : List (A × ℕ)) → lacks (e ∷ q) ≡ e.1 + lacks q
  lacks-cons e q = sum_by-cons {X = A × ℕ} (λ x. x.1) e q

  -- a pour that is enough for all leaves nobody
  pub waiting_enough : (q : List (A × ℕ)) (n : ℕ) → lacks q ≤ n → waiting_after q n ≡ []
  waiting_enough [] n h = refl
  waiting_enough (e ∷ q) n h = let sum = lacks-cons e q in waiting_whole e q n (omega (arith, sum, h)) ∙ waiting_enough q (n - e.1) (omega (arith, sum, h))

  pub granted_enough : (q : List (A × ℕ)) (n : ℕ) → lacks q ≤ n → granted_in q n ≡ map {A = A × ℕ} (λ e. e.0) q
  granted_enough [] n h = refl
  granted_enough (e ∷ q) n h = let sum = lacks-cons e q in granted_whole e q n (omega (arith, sum, h))
      ∙ ap (λ t. e.0 ∷ t) (granted_enough q (n - e.1) (omega (arith, sum, h)))

module _ {W : Type 0} where
  pub debts-cons : (e : Waiter W × ℕ) (q : List (Waiter W × ℕ)) → debts (e ∷ q) ≡ debt_of e.0 e.1 + debts q
  debts-cons e q = sum_by-cons {X = Waiter W × ℕ} (λ x. debt_of x.0 x.1) e q

  debt_of-le : (x : Waiter W) (a b : ℕ) → a ≤ b → debt_of x a ≤ debt_of x b
  debt_of-le (Acquires number demand waker) a b h = omega arith
  debt_of-le Owes a b h = h

  debts-lacks_after : (q : List (Waiter W × ℕ)) (before n : ℕ) → debts (lacks_after before q n) ≤ debts q
  debts-lacks_after [] before n = omega arith
  debts-lacks_after (e ∷ q) before n =
      let less : debt_of e.0 (min e.1 (before + e.1 - n)) ≤ debt_of e.0 e.1 = debt_of-le e.0 _ _ (omega arith) in
      omega (arith, less, debts-lacks_after q (before + e.1) n, debts-cons e q, debts-cons (e.0, min e.1 (before + e.1 - n)) (lacks_after (before + e.1) q n))

  debts-filter : (p : Waiter W × ℕ → Bool) (q : List (Waiter W × ℕ)) → debts (filter p q) ≤ debts q
  debts-filter p [] = omega arith
  debts-filter p (e ∷ q) = by_test (p e) (debts-filter p q)
    where
      by_test : (b : Bool) → debts (filter p q) ≤ debts q → debts (cond b (e ∷ filter p q) (filter p q)) ≤ debts (e ∷ q)
      by_test true less = omega (arith, less, debts-cons e q, debts-cons e (filter p q))
      by_test false less = omega (arith, less, debts-cons e q)

  -- a pour makes no debt greater
  pub debts-waiting_after : (q : List (Waiter W × ℕ)) (n : ℕ) → debts (waiting_after q n) ≤ debts q
  debts-waiting_after q n = omega (arith, debts-filter (λ x. nat_lt 0 x.1) (lacks_after 0 q n), debts-lacks_after q 0 n)

  pub debts_whole : (e : Waiter W × ℕ) (q : List (Waiter W × ℕ)) (n : ℕ) → e.1 ≤ n → paid_to_debts (e ∷ q) n ≡ debt_of e.0 e.1 + paid_to_debts q (n - e.1)
  debts_whole e q n enough =
      let left : debts (waiting_after (e ∷ q) n) ≡ debts (waiting_after q (n - e.1)) = ap debts (waiting_whole e q n enough) in
      omega (arith, left, debts-cons e q, debts-waiting_after q (n - e.1))

  debt_of-minus : (x : Waiter W) (lack n : ℕ) → n < lack → debt_of x lack - debt_of x (lack - n) ≡ debt_of x n
  debt_of-minus (Acquires number demand waker) lack n short = omega arith
  debt_of-minus Owes lack n short = omega arith

  pub debts_part : (e : Waiter W × ℕ) (q : List (Waiter W × ℕ)) (n : ℕ) → n < e.1 → AllLack q → paid_to_debts (e ∷ q) n ≡ debt_of e.0 n
  debts_part e q n short all =
      let left : debts (waiting_after (e ∷ q) n) ≡ debts ((e.0, e.1 - n) ∷ q) = ap debts (waiting_part e q n short all) in
      omega (arith, left, debts-cons e q, debts-cons (e.0, e.1 - n) q, debt_of-minus e.0 e.1 n short)

  pub granting-append : (granted : fin.FinMap nat_cmp ℕ) (es fs : List (Waiter W)) → granting granted (es ++ fs) ≡ granting (granting granted es) fs
  granting-append granted [] fs = refl
  granting-append granted (Acquires number demand waker ∷ es) fs = granting-append (fin.insert granted number demand) es fs
  granting-append granted (Owes ∷ es) fs = granting-append granted es fs

  pub wakers-append : (es fs : List (Waiter W)) → wakers_of (es ++ fs) ≡ wakers_of es ++ wakers_of fs
  wakers-append [] fs = refl
  wakers-append (Acquires number demand waker ∷ es) fs = ap (λ ws. waker ∷ ws) (wakers-append es fs)
  wakers-append (Owes ∷ es) fs = wakers-append es fs

  -- a pour of nothing changes nothing
  waiting_nothing : (q : List (Waiter W × ℕ)) → AllLack q → waiting_after q 0 ≡ q
  waiting_nothing [] h = refl
  waiting_nothing (e ∷ q) h = waiting_part e q 0 h.0 h.1 ∙ ap (λ l. (e.0, l) ∷ q) (let same : e.1 - 0 ≡ e.1 = omega arith in same)

  granted_nothing : (q : List (Waiter W × ℕ)) → AllLack q → granted_in q 0 ≡ []
  granted_nothing [] h = refl
  granted_nothing (e ∷ q) h = granted_part e q 0 h.0 h.1

  pub poured_nothing : (s : Core W) → AllLack s.queue → poured s 0 ≡ s
  poured_nothing s h =
      let queue = waiting_nothing s.queue h in
      let none = granted_nothing s.queue h in
      let free : s.free + (0 - lacks s.queue) ≡ s.free = omega arith in
      let debts : paid_to_debts s.queue 0 ≡ 0 = rw queue (omega arith) in
      let live : s.live + 0 - paid_to_debts s.queue 0 ≡ s.live = omega (arith, debts) in
      let wakes = ap (λ es. s.wakes ++ wakers_of es) none ∙ append-nil s.wakes in
      λ i. record s {
        free = free i;
        live = live i;
        queue = queue i;
        granted = granting s.granted (none i);
        wakes = wakes i;
      }
