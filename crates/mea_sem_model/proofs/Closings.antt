-- what the closing of a semaphore moves
use Rattle.std.proofs.Common.{◌≡◌, ℕ, ◌+◌, ◌<◌, ◌≤◌, ◌==◌, Bool, true, false, cond, List, [], ◌∷◌, refl, ap, sym, subst, ◌∙◌, arith, Option, Some, None, sum_by}
use Rattle.std.specs.Option.{option_map, IsSome}
use Rattle.std.specs.Ordering.{nat_cmp}
use Rattle.std.specs.FinMap.{FinMap, get}
use Rattle.std.proofs.lemmas.List.Sums.{sum_by-cons}
use Rattle.std.proofs.lemmas.Bool.{eqb-true, eq-eqb}
use Rattle.mea_base.specs.Queue.{waiting_after, granted_in}
use Rattle.mea_base.specs.Totals.{total, weight}
use Rattle.mea_base.proofs.Totals.{total-same, total-plus, total-zero, total-point, total-alike}
use Rattle.mea_base.proofs.Maps.{inside}
use Rattle.mea_base.proofs.Tests.{on_true, on_false}
use Rattle.mea_sem_model.specs.Hall.{Hall, Semaphore, Future, FutureStage, New, Waiting, Granted, Cut, Who, Waiter, Debt, semaphore_at, queue_at, names, lack_of, poured, staged, granted, demand_at, paid_to_who, paid_in, debts_in, everyone, cutting, closing, with_semaphore}
use Rattle.mea_sem_model.specs.Valid.{count, one_if_waiting, waits_at, IsBelow}
use Rattle.mea_sem_model.proofs.HallLemmas.{by_semaphore, among, get-stage_all, get-grant_all}
use Rattle.mea_sem_model.proofs.Pours.{among_none, mentions-everyone, count-pour, count-debts_in, lacks-debts_in, none_among, none_counted}
use Rattle.mea_sem_model.proofs.Matched.{IsMatched, is_waiting, cut_waited, cutting_matched}
use Rattle.mea_sem_model.proofs.Orderly.{IsOrderly, still_there, orderly_cutting}
use Rattle.mea_sem_model.proofs.Changes.{taken, taken_by, committed, Moves, moves_semaphore, below_staged, Changed, after, retold, to_pour}
use Rattle.mea_sem_model.proofs.Paid.{lack_of_waiter, waiters, parts}

-- d, as often as a queue names f
abbrev weighed : List (Who × ℕ) → ℕ → ℕ → ℕ
weighed q f d = sum_by {X = Who × ℕ} (λ e. cond (names e.0 f) d 0) q

weighed_none : (q : List (Who × ℕ)) (f d : ℕ) → count q f ≡ 0 → weighed q f d ≡ 0
weighed_none [] f d none = refl
weighed_none (e ∷ q) f d none = by_name (names e.0 f) refl (weighed_none q f d)
  where
    by_name : (b : Bool) → names e.0 f ≡ b → (count q f ≡ 0 → weighed q f d ≡ 0) → weighed (e ∷ q) f d ≡ 0
    by_name true n rest = absurd (let here = on_true (names e.0 f) 1 n in omega (arith, here, none, sum_by-cons {X = Who × ℕ} (λ x. cond (names x.0 f) 1 0) e q))
    by_name false n rest =
        let here = on_false (names e.0 f) 1 n in
        let gone = on_false (names e.0 f) d n in
        let few : count q f ≡ 0 = omega (arith, here, none, sum_by-cons {X = Who × ℕ} (λ x. cond (names x.0 f) 1 0) e q) in
        omega (arith, gone, rest few, sum_by-cons {X = Who × ℕ} (λ x. cond (names x.0 f) d 0) e q)

weighed_once : (q : List (Who × ℕ)) (f d : ℕ) → count q f ≡ 1 → weighed q f d ≡ d
weighed_once [] f d one = absurd (omega arith)
weighed_once (e ∷ q) f d one = by_name (names e.0 f) refl (weighed_once q f d)
  where
    by_name : (b : Bool) → names e.0 f ≡ b → (count q f ≡ 1 → weighed q f d ≡ d) → weighed (e ∷ q) f d ≡ d
    by_name true n rest =
        let here = on_true (names e.0 f) 1 n in
        let all = on_true (names e.0 f) d n in
        let few : count q f ≡ 0 = omega (arith, here, one, sum_by-cons {X = Who × ℕ} (λ x. cond (names x.0 f) 1 0) e q) in
        omega (arith, all, weighed_none q f d few, sum_by-cons {X = Who × ℕ} (λ x. cond (names x.0 f) d 0) e q)
    by_name false n rest =
        let here = on_false (names e.0 f) 1 n in
        let gone = on_false (names e.0 f) d n in
        let same : count q f ≡ 1 = omega (arith, here, one, sum_by-cons {X = Who × ℕ} (λ x. cond (names x.0 f) 1 0) e q) in
        omega (arith, gone, rest same, sum_by-cons {X = Who × ℕ} (λ x. cond (names x.0 f) d 0) e q)

abbrev demand_of_who : FinMap nat_cmp Future → Who → ℕ
demand_of_who m (Waiter f) = demand_at (get m f)
demand_of_who m Debt = 0

-- what the futures of a queue ask for
abbrev demands : FinMap nat_cmp Future → List (Who × ℕ) → ℕ
demands m q = sum_by {X = Who × ℕ} (λ e. demand_of_who m e.0) q

-- what those who wait were paid, and what they lack, is what they ask for
paid_and_lacked : (m : FinMap nat_cmp Future) (q : List (Who × ℕ)) → ((f : ℕ) → lack_of q f ≤ demand_at (get m f)) → paid_in m q + waiters q ≡ demands m q
paid_and_lacked m [] within = refl
paid_and_lacked m ((Waiter g, n) ∷ q) within =
    let mine : n ≤ demand_at (get m g) = omega (
      arith,
      within g,
      on_true (g == g) n (eq-eqb g g refl),
      sum_by-cons {X = Who × ℕ} (λ d. cond (names d.0 g) d.1 0) (Waiter g, n) q,
    ) in
    omega (
      arith,
      mine,
      paid_and_lacked m q (λ f. omega (arith, within f, sum_by-cons {X = Who × ℕ} (λ d. cond (names d.0 f) d.1 0) (Waiter g, n) q)),
      sum_by-cons {X = Who × ℕ} (λ e. paid_to_who m e.0 e.1) (Waiter g, n) q,
      sum_by-cons {X = Who × ℕ} (λ e. lack_of_waiter e.0 e.1) (Waiter g, n) q,
      sum_by-cons {X = Who × ℕ} (λ e. demand_of_who m e.0) (Waiter g, n) q,
    )
paid_and_lacked m ((Debt, n) ∷ q) within = omega (
  arith,
  paid_and_lacked m q (λ f. omega (arith, within f, sum_by-cons {X = Who × ℕ} (λ d. cond (names d.0 f) d.1 0) (Debt, n) q)),
  sum_by-cons {X = Who × ℕ} (λ e. paid_to_who m e.0 e.1) (Debt, n) q,
  sum_by-cons {X = Who × ℕ} (λ e. lack_of_waiter e.0 e.1) (Debt, n) q,
  sum_by-cons {X = Who × ℕ} (λ e. demand_of_who m e.0) (Debt, n) q,
)

-- what they ask for, summed by names
by_demands : (m : FinMap nat_cmp Future) (q : List (Who × ℕ)) → ((f : ℕ) → 0 < count q f → (x : Future) × (get m f ≡ Some x))
    → total (λ f (x : Future). weighed q f x.demand) m ≡ demands m q
by_demands m [] found = total-zero (λ f (x : Future). weighed [] f x.demand) m (λ f x is. refl)
by_demands m ((Waiter g, n) ∷ q) found =
    let there = found g (omega (arith, on_true (g == g) 1 (eq-eqb g g refl), sum_by-cons {X = Who × ℕ} (λ d. cond (names d.0 g) 1 0) (Waiter g, n) q)) in
    let rest : total (λ f (x : Future). weighed q f x.demand) m ≡ demands m q =
    by_demands m q (λ f some. found f (omega (arith, some, sum_by-cons {X = Who × ℕ} (λ d. cond (names d.0 f) 1 0) (Waiter g, n) q))) in
    let asks : demand_at (get m g) ≡ there.0.demand = ap demand_at there.1 in
    total-same (λ f (x : Future). weighed ((Waiter g, n) ∷ q) f x.demand) (λ f (x : Future). cond (g == f) there.0.demand 0 + weighed q f x.demand) m
    (λ f x is. omega (
      arith,
      own g f there.0 x there.1 is (g == f) refl,
      sum_by-cons {X = Who × ℕ} (λ d. cond (names d.0 f) x.demand 0) (Waiter g, n) q,
    ))
    ∙ omega (
      arith,
      total-plus (λ f (x : Future). cond (g == f) there.0.demand 0) (λ f (x : Future). weighed q f x.demand) m,
      total-point m g there.0.demand there.0 there.1,
      rest,
      asks,
      sum_by-cons {X = Who × ℕ} (λ e. demand_of_who m e.0) (Waiter g, n) q,
    )
  where
    own : (g f : ℕ) (y x : Future) → get m g ≡ Some y → get m f ≡ Some x → (b : Bool) → (g == f) ≡ b → cond b x.demand 0 ≡ cond b y.demand 0
    own g f y x at is true e = ap (λ (z : Future). z.demand) (inside (sym is ∙ ap (get m) (sym (eqb-true g f e)) ∙ at))
    own g f y x at is false e = refl
by_demands m ((Debt, n) ∷ q) found =
    let rest : total (λ f (x : Future). weighed q f x.demand) m ≡ demands m q =
    by_demands m q (λ f some. found f (omega (arith, some, sum_by-cons {X = Who × ℕ} (λ d. cond (names d.0 f) 1 0) (Debt, n) q))) in
    total-same (λ f (x : Future). weighed ((Debt, n) ∷ q) f x.demand) (λ f (x : Future). weighed q f x.demand) m
    (λ f x is. omega (arith, sum_by-cons {X = Who × ℕ} (λ d. cond (names d.0 f) x.demand 0) (Debt, n) q))
    ∙ omega (arith, rest, sum_by-cons {X = Who × ℕ} (λ e. demand_of_who m e.0) (Debt, n) q)

never : (b : Bool) → ◌≡◌ {A = ℕ} (cond b 0 0) 0
never true = refl
never false = refl

module _ (h : Hall) (q : ℕ) (m : IsMatched h) where
  abbrev waits_there : List (Who × ℕ)
  waits_there = queue_at h q

  abbrev is_cut : ℕ → Bool
  is_cut f = among (everyone waits_there) f

  cut_gives : (f : ℕ) → get (cutting h q).futures f ≡ cond (is_cut f) (option_map (staged Cut) (get h.futures f)) (get h.futures f)
  cut_gives f = get-stage_all Cut (everyone waits_there) h.futures f

  -- what a future has taken, once those who wait are cut
  abbrev left_by : ℕ → ℕ → Future → ℕ
  left_by s f x = taken_by s f (cond (is_cut f) (staged Cut x) x)

  -- what it gives back by being cut, with what it lacks
  abbrev lost_by : ℕ → ℕ → Future → ℕ
  lost_by s f x = cond (q == s) (weighed waits_there f x.demand) 0

  all_taken : (t : FutureStage) (n : ℕ) → one_if_waiting t ≡ 1 → taken n t ≡ n
  all_taken New n one = absurd (omega arith)
  all_taken (Waiting w) n one = refl
  all_taken Granted n one = absurd (omega arith)
  all_taken Cut n one = absurd (omega arith)

  one_cut : (s f : ℕ) (x : Future) → get h.futures f ≡ Some x → left_by s f x + lost_by s f x ≡ taken_by s f x
  one_cut s f x is = by_test (is_cut f) refl
    where
      by_test : (b : Bool) → is_cut f ≡ b → taken_by s f (cond b (staged Cut x) x) + lost_by s f x ≡ taken_by s f x
      by_test true a =
          let here = is_waiting q x (subst (λ o. 0 < waits_at q o) is (cut_waited h q m f a)) in
          let waits : waits_at q (get h.futures f) ≡ 1 = ap (waits_at q) is ∙ on_true (x.semaphore == q) (one_if_waiting x.stage) (eq-eqb x.semaphore q here.0)
          ∙ here.1 in
          let whole : weighed waits_there f x.demand ≡ x.demand = weighed_once waits_there f x.demand (m.once q f ∙ waits) in
          let mine : taken x.demand x.stage ≡ x.demand = all_taken x.stage x.demand here.1 in
          omega (
            arith,
            never (x.semaphore == s),
            ap (λ k. cond (q == s) k 0) whole,
            ap (λ k. cond (x.semaphore == s) k 0) mine,
            ap (λ k. cond (k == s) x.demand 0) here.0,
          )
      by_test false a =
          let none : weighed waits_there f x.demand ≡ 0 = weighed_none waits_there f x.demand
          (omega (arith, among_none (everyone waits_there) f a, mentions-everyone waits_there f)) in
          omega (arith, ap (λ k. cond (q == s) k 0) none, never (q == s))

  some_waits : (f : ℕ) → 0 < count waits_there f → (x : Future) × (get h.futures f ≡ Some x)
  some_waits f some = by_option (get h.futures f) refl (omega (arith, some, m.once q f))
    where
      by_option : (o : Option Future) → get h.futures f ≡ o → 0 < waits_at q o → (x : Future) × (get h.futures f ≡ Some x)
      by_option None is waits = absurd (omega arith)
      by_option (Some x) is waits = (x, is)

  committed_cut : (s : ℕ) → committed h.futures s ≡ committed (cutting h q).futures s + cond (q == s) (demands h.futures waits_there) 0
  committed_cut s =
      let left : committed (cutting h q).futures s ≡ total (left_by s) h.futures = total-alike (taken_by s) (left_by s) _ h.futures
      (λ f. ap (weight (taken_by s) f) (cut_gives f) ∙ by_option f (is_cut f) refl (get h.futures f)) in
      let lost : total (lost_by s) h.futures ≡ cond (q == s) (demands h.futures waits_there) 0 = by_test (q == s) in
      let sums : total (λ f (x : Future). left_by s f x + lost_by s f x) h.futures ≡ committed h.futures s =
      total-same (λ f (x : Future). left_by s f x + lost_by s f x) (taken_by s) h.futures (λ f x is. one_cut s f x is) in
      omega (arith, left, lost, sums, total-plus (left_by s) (lost_by s) h.futures)
    where
      by_option : (f : ℕ) (b : Bool) → is_cut f ≡ b → (o : Option Future) → weight (taken_by s) f (cond b (option_map (staged Cut) o) o) ≡ weight (λ f x. taken_by s f (cond b (staged Cut x) x)) f o
      by_option f true a None = refl
      by_option f true a (Some x) = refl
      by_option f false a None = refl
      by_option f false a (Some x) = refl

      by_test : (b : Bool) → total (λ f (x : Future). cond b (weighed waits_there f x.demand) 0) h.futures ≡ cond b (demands h.futures waits_there) 0
      by_test true = by_demands h.futures waits_there some_waits
      by_test false = total-zero (λ f (x : Future). 0) h.futures (λ f x is. refl)

  abbrev closed_now : Semaphore
  closed_now = record (semaphore_at h q) { queue = debts_in waits_there; closed = true }

  within : (f : ℕ) → lack_of waits_there f ≤ demand_at (get h.futures f)
  within f = by_option (get h.futures f) refl
    where
      by_option : (o : Option Future) → get h.futures f ≡ o → lack_of waits_there f ≤ demand_at o
      by_option None is = omega (arith, none_counted waits_there f (m.once q f ∙ ap (waits_at q) is))
      by_option (Some x) is = m.within q f x is

  only : (b : Bool) (a c d : ℕ) → a + c ≡ d → cond b a 0 + cond b c 0 ≡ cond b d 0
  only true a c d e = e
  only false a c d e = refl

  cut_moves : (s : ℕ) → Moves h (cutting h q) s 0 (cond (q == s) (paid_in h.futures waits_there) 0)
  cut_moves s =
      let put : Moves h (with_semaphore h q closed_now) s (cond (q == s) (waiters waits_there) 0) (cond (q == s) 0 0) =
      moves_semaphore h q (waiters waits_there) 0 closed_now (omega (arith, lacks-debts_in waits_there, parts waits_there)) s in
      omega (
        arith,
        put,
        never (q == s),
        committed_cut s,
        only (q == s) (paid_in h.futures waits_there) (waiters waits_there) (demands h.futures waits_there) (paid_and_lacked h.futures waits_there within),
      )

-- ---- a semaphore is closed
module _ (h : Hall) (q n : ℕ) (there : IsSome (get h.semaphores q)) (m : IsMatched h) (v : IsOrderly h) (low : IsBelow h n) where
  pub to_cutting : Changed h (cutting h q) n (λ s. 0) (λ s. cond (q == s) (paid_in h.futures (queue_at h q)) 0)
  to_cutting = record {
    moves = λ s. cut_moves h q m s;
    matched = cutting_matched h q m;
    orderly = orderly_cutting h q there m v;
    below = below_staged h q n Cut (everyone (queue_at h q)) (record (semaphore_at h q) { queue = debts_in (queue_at h q); closed = true }) there low;
  }

  pub to_closing : Changed h (closing h q) n (λ s. 0) (λ s. 0)
  to_closing =
      let first = to_cutting in
      retold h _ n _ _ (λ s. 0) (λ s. 0) (λ s. omega arith)
      (after h (cutting h q) _ n _ _ _ _ first
      (to_pour (cutting h q) n first.matched first.orderly first.below q (paid_in h.futures (queue_at h q)) (still_there h q q _ there)))

-- ---- who is cut
-- the queue of a semaphore that is being closed
queue_cut : (h : Hall) (q : ℕ) → queue_at (cutting h q) q ≡ debts_in (queue_at h q)
queue_cut h q = by_semaphore h q (record (semaphore_at h q) { queue = debts_in (queue_at h q); closed = true })
    (λ k y. k ≡ q → y.queue ≡ debts_in (queue_at h q)) (λ e. refl) (λ k apart e. absurd (apart (sym e))) q refl

-- and once it is closed
pub queue_closed : (h : Hall) (q : ℕ) → queue_at (closing h q) q ≡ waiting_after (debts_in (queue_at h q)) (paid_in h.futures (queue_at h q))
queue_closed h q = by_semaphore (cutting h q) q (poured (semaphore_at (cutting h q) q) (paid_in h.futures (queue_at h q)))
    (λ k y. k ≡ q → y.queue ≡ waiting_after (queue_at (cutting h q) q) (paid_in h.futures (queue_at h q))) (λ e. refl) (λ k apart e. absurd (apart (sym e))) q refl
    ∙ ap (λ p. waiting_after p (paid_in h.futures (queue_at h q))) (queue_cut h q)

pub queue_apart : (h : Hall) (q s : ℕ) → (q ≡ s → ⊥) → queue_at (closing h q) s ≡ queue_at h s
queue_apart h q s apart = by_semaphore (cutting h q) q (poured (semaphore_at (cutting h q) q) (paid_in h.futures (queue_at h q)))
    (λ k y. k ≡ s → y.queue ≡ queue_at (cutting h q) k) (λ e. absurd (apart e)) (λ k other e. refl) s refl
    ∙ by_semaphore h q (record (semaphore_at h q) { queue = debts_in (queue_at h q); closed = true })
    (λ k y. k ≡ s → y.queue ≡ queue_at h k) (λ e. absurd (apart e)) (λ k other e. refl) s refl

-- no future waits there any more
pub nobody_waits : (h : Hall) (q f : ℕ) → count (queue_at (closing h q) q) f ≡ 0
nobody_waits h q f = ap (λ p. count p f) (queue_closed h q)
    ∙ omega (arith, count-pour (debts_in (queue_at h q)) (paid_in h.futures (queue_at h q)) f, count-debts_in (queue_at h q) f)

-- who waited is cut, and each other is as it was
pub get-closing : (h : Hall) (q f : ℕ) → get (closing h q).futures f ≡ cond (among (everyone (queue_at h q)) f) (option_map (staged Cut) (get h.futures f))
    (get h.futures f)
get-closing h q f = get-grant_all (granted_in (queue_at (cutting h q) q) (paid_in h.futures (queue_at h q))) (cutting h q).futures f
    ∙ ap (λ b. cond b (option_map granted (get (cutting h q).futures f)) (get (cutting h q).futures f))
    (ap (λ p. among (granted_in p (paid_in h.futures (queue_at h q))) f) (queue_cut h q) ∙ none_among (queue_at h q) (paid_in h.futures (queue_at h q)) f)
    ∙ get-stage_all Cut (everyone (queue_at h q)) h.futures f
