-- what pours, leaves and arrivals do to a queue
use Rattle.std.proofs.Common.{◌≡◌, ℕ, ◌+◌, ◌-◌, ◌<◌, ◌≤◌, ◌==◌, ◌||◌, Bool, true, false, cond, not, List, [], ◌∷◌, ◌++◌, map, filter, min, nat_lt, refl, ap, sym, ◌∙◌, arith, sum_by}
use Rattle.std.proofs.lemmas.List.Sums.{sum_by-cons}
use Rattle.std.proofs.lemmas.Bool.{eqb-true}
use Rattle.std.proofs.lemmas.Bool.Decides.{nat_tests}
use Rattle.mea_base.specs.Queue.{lacks, lacks_after, waiting_after, granted_in}
use Rattle.mea_base.proofs.Tests.{on_true, on_false}
use Rattle.mea_sem_model.specs.Hall.{Who, Waiter, Debt, names, lack_of, debt_of, debts, debts_in, everyone}
use Rattle.mea_sem_model.specs.Step.{without, with_debt}
use Rattle.mea_sem_model.specs.Valid.{count, AllLack, HasNoDebt, HasDebtsFirst}
use Rattle.mea_sem_model.proofs.HallLemmas.{among}

abbrev pub mentions : List Who → ℕ → ℕ
mentions ws f = sum_by {X = Who} (λ w. cond (names w f) 1 0) ws

pub among_mentions : (ws : List Who) (f : ℕ) → among ws f ≡ true → 0 < mentions ws f
among_mentions [] f h = absurd (cc)
among_mentions (w ∷ ws) f h = elim (names w f) as (λ b. names w f ≡ b → (b || among ws f) ≡ true → 0 < mentions (w ∷ ws) f) [
  | true ↦ λ e t. let here = on_true (names w f) 1 e in omega (arith, here, sum_by-cons {X = Who} (λ v. cond (names v f) 1 0) w ws)
  | false ↦ λ e t. omega (arith, among_mentions ws f t, sum_by-cons {X = Who} (λ v. cond (names v f) 1 0) w ws)
] refl h

pub among_none : (ws : List Who) (f : ℕ) → among ws f ≡ false → mentions ws f ≡ 0
among_none [] f h = refl
among_none (w ∷ ws) f h = elim (names w f) as (λ b. names w f ≡ b → (b || among ws f) ≡ false → mentions (w ∷ ws) f ≡ 0) [
  | true ↦ λ e t. absurd (cc)
  | false ↦ λ e t. let here = on_false (names w f) 1 e in omega (arith, here, among_none ws f t, sum_by-cons {X = Who} (λ v. cond (names v f) 1 0) w ws)
] refl h

-- who counts in a queue is mentioned in it
pub mentions-everyone : (q : List (Who × ℕ)) (f : ℕ) → mentions (everyone q) f ≡ count q f
mentions-everyone [] f = refl
mentions-everyone (e ∷ q) f = omega (
  arith,
  mentions-everyone q f,
  sum_by-cons {X = Who × ℕ} (λ d. cond (names d.0 f) 1 0) e q,
  sum_by-cons {X = Who} (λ w. cond (names w f) 1 0) e.0 (everyone q),
)

count-after : (q : List (Who × ℕ)) (before n f : ℕ) → count (lacks_after before q n) f ≡ count q f
count-after [] before n f = refl
count-after (e ∷ q) before n f = omega (
  arith,
  count-after q (before + e.1) n f,
  sum_by-cons {X = Who × ℕ} (λ d. cond (names d.0 f) 1 0) e q,
  sum_by-cons {X = Who × ℕ} (λ d. cond (names d.0 f) 1 0) (e.0, min e.1 (before + e.1 - n)) (lacks_after (before + e.1) q n),
)

abbrev still : List (Who × ℕ) → List (Who × ℕ)
still q = filter {X = Who × ℕ} (λ e. nat_lt 0 e.1) q

abbrev whole : List (Who × ℕ) → List Who
whole q = map {A = Who × ℕ} (λ e. e.0) (filter {X = Who × ℕ} (λ e. e.1 == 0) q)

count-parts : (q : List (Who × ℕ)) (f : ℕ) → count (still q) f + mentions (whole q) f ≡ count q f
count-parts [] f = refl
count-parts (e ∷ q) f = elim (nat_lt 0 e.1)
    as (λ b. nat_lt 0 e.1 ≡ b → count (cond b (e ∷ still q) (still q)) f + mentions
    (map {A = Who × ℕ} (λ d. d.0) (cond (e.1 == 0) (e ∷ filter {X = Who × ℕ} (λ d. d.1 == 0) q) (filter {X = Who × ℕ} (λ d. d.1 == 0) q))) f ≡ count
    (e ∷ q) f) [
      | true ↦ λ h.
          let no : (e.1 == 0) ≡ false = grind (arith, nat_tests) in
          ap (λ b. count (e ∷ still q) f + mentions
          (map {A = Who × ℕ} (λ d. d.0) (cond b (e ∷ filter {X = Who × ℕ} (λ d. d.1 == 0) q) (filter {X = Who × ℕ} (λ d. d.1 == 0) q))) f) no
          ∙ omega (
            arith,
            count-parts q f,
            sum_by-cons {X = Who × ℕ} (λ d. cond (names d.0 f) 1 0) e q,
            sum_by-cons {X = Who × ℕ}
                (λ d. cond (names d.0 f) 1 0) e (still q),
          )
      | false ↦ λ h.
          let yes : (e.1 == 0) ≡ true = grind (arith, nat_tests) in
          ap (λ b. count (still q) f + mentions
          (map {A = Who × ℕ} (λ d. d.0) (cond b (e ∷ filter {X = Who × ℕ} (λ d. d.1 == 0) q) (filter {X = Who × ℕ} (λ d. d.1 == 0) q))) f) yes
          ∙ omega (
            arith,
            count-parts q f,
            sum_by-cons {X = Who × ℕ} (λ d. cond (names d.0 f) 1 0) e q,
            sum_by-cons {X = Who} (λ w. cond (names w f) 1 0)
                e.0 (whole q),
          )
    ] refl

-- who waited waits on or is granted
pub count-pour : (q : List (Who × ℕ)) (n f : ℕ) → count (waiting_after q n) f + mentions (granted_in q n) f ≡ count q f
count-pour q n f = count-parts (lacks_after 0 q n) f ∙ count-after q 0 n f

lack-after : (q : List (Who × ℕ)) (before n f : ℕ) → lack_of (lacks_after before q n) f ≤ lack_of q f
lack-after [] before n f = omega arith
lack-after (e ∷ q) before n f =
    let head : cond (names e.0 f) (min e.1 (before + e.1 - n)) 0 ≤ cond (names e.0 f) e.1 0 = by_name (names e.0 f) in
    omega (
      arith,
      head,
      lack-after q (before + e.1) n f,
      sum_by-cons {X = Who × ℕ} (λ d. cond (names d.0 f) d.1 0) e q,
      sum_by-cons {X = Who × ℕ}
          (λ d. cond (names d.0 f) d.1 0) (e.0, min e.1 (before + e.1 - n)) (lacks_after (before + e.1) q n),
    )
  where
    by_name : (b : Bool) → cond b (min e.1 (before + e.1 - n)) 0 ≤ cond b e.1 0
    by_name true = grind (arith, nat_tests)
    by_name false = omega arith

pub lack-filter : (p : Who × ℕ → Bool) (q : List (Who × ℕ)) (f : ℕ) → lack_of (filter {X = Who × ℕ} p q) f ≤ lack_of q f
lack-filter p [] f = omega arith
lack-filter p (e ∷ q) f = elim (p e) as (λ b. lack_of (cond b (e ∷ filter {X = Who × ℕ} p q) (filter {X = Who × ℕ} p q)) f ≤ lack_of (e ∷ q) f) [
  | true ↦ omega (
    arith,
    lack-filter p q f,
    sum_by-cons {X = Who × ℕ} (λ d. cond (names d.0 f) d.1 0) e q,
    sum_by-cons {X = Who × ℕ}
        (λ d. cond (names d.0 f) d.1 0) e (filter {X = Who × ℕ} p q),
  )
  | false ↦ omega (arith, lack-filter p q f, sum_by-cons {X = Who × ℕ} (λ d. cond (names d.0 f) d.1 0) e q)
]

pub lack-pour : (q : List (Who × ℕ)) (n f : ℕ) → lack_of (waiting_after q n) f ≤ lack_of q f
lack-pour q n f = omega (arith, lack-filter (λ e. nat_lt 0 e.1) (lacks_after 0 q n) f, lack-after q 0 n f)

pub lack-without : (q : List (Who × ℕ)) (g f : ℕ) → lack_of (without q g) f ≤ lack_of q f
lack-without q g f = lack-filter (λ e. not (names e.0 g)) q f

pub lacks-without : (q : List (Who × ℕ)) (f : ℕ) → lacks (without q f) + lack_of q f ≡ lacks q
lacks-without [] f = refl
lacks-without (e ∷ q) f = elim (names e.0 f)
    as (λ b. names e.0 f ≡ b → lacks (cond (not b) (e ∷ without q f) (without q f)) + lack_of (e ∷ q) f ≡ lacks (e ∷ q)) [
      | true ↦ λ h.
          let here : cond (names e.0 f) e.1 0 ≡ e.1 = ap (λ b. cond b e.1 0) h in
          omega (arith, here, lacks-without q f, sum_by-cons {X = Who × ℕ} (λ d. cond (names d.0 f) d.1 0) e q, sum_by-cons {X = Who × ℕ} (λ d. d.1) e q)
      | false ↦ λ h.
          let here : cond (names e.0 f) e.1 0 ≡ 0 = ap (λ b. cond b e.1 0) h in
          omega (
            arith,
            here,
            lacks-without q f,
            sum_by-cons {X = Who × ℕ} (λ d. cond (names d.0 f) d.1 0) e q,
            sum_by-cons {X = Who × ℕ} (λ d. d.1)
                e q,
            sum_by-cons {X = Who × ℕ} (λ d. d.1) e (without q f),
          )
    ] refl

same_name : (w : Who) (g f : ℕ) → names w g ≡ true → names w f ≡ (g == f)
same_name (Waiter h) g f e = ap (λ k. k == f) (eqb-true h g e)
same_name Debt g f e = absurd (cc)

pub count-without : (q : List (Who × ℕ)) (g f : ℕ) → count (without q g) f ≡ cond (g == f) 0 (count q f)
count-without [] g f = nothing (g == f)
  where
    nothing : (b : Bool) → ◌≡◌ {A = ℕ} 0 (cond b 0 0)
    nothing true = refl
    nothing false = refl
count-without (e ∷ q) g f = elim (names e.0 g)
    as (λ b. names e.0 g ≡ b → count (cond (not b) (e ∷ without q g) (without q g)) f ≡ cond (g == f) 0 (count (e ∷ q) f)) [
      | true ↦ λ h. count-without q g f ∙ at_same (g == f) (same_name e.0 g f h)
      | false ↦ λ h. sum_by-cons {X = Who × ℕ} (λ d. cond (names d.0 f) 1 0) e (without q g) ∙ ap (λ k. cond (names e.0 f) 1 0 + k) (count-without q g f)
          ∙ at_other (g == f) refl h
    ] refl
  where
    at_same : (b : Bool) → names e.0 f ≡ b → cond b 0 (count q f) ≡ cond b 0 (count (e ∷ q) f)
    at_same true n = refl
    at_same false n = let here = on_false (names e.0 f) 1 n in omega (arith, here, sum_by-cons {X = Who × ℕ} (λ d. cond (names d.0 f) 1 0) e q)

    at_other : (b : Bool) → (g == f) ≡ b → names e.0 g ≡ false → cond (names e.0 f) 1 0 + cond b 0 (count q f) ≡ cond b 0 (count (e ∷ q) f)
    at_other true same n = let here = on_false (names e.0 f) 1 (ap (names e.0) (sym (eqb-true g f same)) ∙ n) in omega (arith, here)
    at_other false same n = sym (sum_by-cons {X = Who × ℕ} (λ d. cond (names d.0 f) 1 0) e q)

-- debts name no future
pub count-debts_in : (q : List (Who × ℕ)) (f : ℕ) → count (debts_in q) f ≡ 0
count-debts_in [] f = refl
count-debts_in ((Waiter g, n) ∷ q) f = count-debts_in q f
count-debts_in ((Debt, n) ∷ q) f = omega (arith, count-debts_in q f, sum_by-cons {X = Who × ℕ} (λ d. cond (names d.0 f) 1 0) (Debt, n) (debts_in q))

-- debts lack what they owe
pub lacks-debts_in : (q : List (Who × ℕ)) → lacks (debts_in q) ≡ debts q
lacks-debts_in [] = refl
lacks-debts_in ((Waiter g, n) ∷ q) = omega (arith, lacks-debts_in q, sum_by-cons {X = Who × ℕ} (λ e. debt_of e.0 e.1) (Waiter g, n) q)
lacks-debts_in ((Debt, n) ∷ q) = omega (
  arith,
  lacks-debts_in q,
  sum_by-cons {X = Who × ℕ} (λ e. debt_of e.0 e.1) (Debt, n) q,
  sum_by-cons {X = Who × ℕ} (λ e. e.1) (Debt, n) (debts_in q),
)

-- a pour into debts grants no future
pub none_among : (q : List (Who × ℕ)) (n f : ℕ) → among (granted_in (debts_in q) n) f ≡ false
none_among q n f = by_test (among (granted_in (debts_in q) n) f) refl
  where
    by_test : (b : Bool) → among (granted_in (debts_in q) n) f ≡ b → among (granted_in (debts_in q) n) f ≡ false
    by_test false e = e
    by_test true e = absurd (omega (arith, among_mentions (granted_in (debts_in q) n) f e, count-pour (debts_in q) n f, count-debts_in q f))

pub none_counted : (q : List (Who × ℕ)) (f : ℕ) → count q f ≡ 0 → lack_of q f ≡ 0
none_counted [] f h = refl
none_counted (e ∷ q) f h = by_name (names e.0 f) refl (none_counted q f)
  where
    by_name : (b : Bool) → names e.0 f ≡ b → (count q f ≡ 0 → lack_of q f ≡ 0) → lack_of (e ∷ q) f ≡ 0
    by_name true n more = absurd (let here = on_true (names e.0 f) 1 n in omega (arith, here, h, sum_by-cons {X = Who × ℕ} (λ d. cond (names d.0 f) 1 0) e q))
    by_name false n more =
        let here = on_false (names e.0 f) 1 n in
        let lack : cond (names e.0 f) e.1 0 ≡ 0 = ap (λ b. cond b e.1 0) n in
        let rest : count q f ≡ 0 = omega (arith, here, h, sum_by-cons {X = Who × ℕ} (λ d. cond (names d.0 f) 1 0) e q) in
        omega (arith, lack, more rest, sum_by-cons {X = Who × ℕ} (λ d. cond (names d.0 f) d.1 0) e q)

-- ---- each lacks at least 1
lacking-still : (q : List (Who × ℕ)) → AllLack (still q)
lacking-still [] = tt
lacking-still (e ∷ q) = elim (nat_lt 0 e.1) as (λ b. nat_lt 0 e.1 ≡ b → AllLack (cond b (e ∷ still q) (still q))) [
  | true ↦ λ h. (let some : 1 ≤ e.1 = grind (arith, nat_tests) in some, lacking-still q)
  | false ↦ λ h. lacking-still q
] refl

pub lacking-pour : (q : List (Who × ℕ)) (n : ℕ) → AllLack (waiting_after q n)
lacking-pour q n = lacking-still (lacks_after 0 q n)

pub lacking-filter : (p : Who × ℕ → Bool) (q : List (Who × ℕ)) → AllLack q → AllLack (filter {X = Who × ℕ} p q)
lacking-filter p [] all = tt
lacking-filter p (e ∷ q) all = elim (p e) as (λ b. AllLack (cond b (e ∷ filter {X = Who × ℕ} p q) (filter {X = Who × ℕ} p q))) [
  | true ↦ (all.0, lacking-filter p q all.1)
  | false ↦ lacking-filter p q all.1
]

pub lacking-without : (q : List (Who × ℕ)) (g : ℕ) → AllLack q → AllLack (without q g)
lacking-without q g all = lacking-filter (λ e. not (names e.0 g)) q all

pub lacking-append : (q : List (Who × ℕ)) (e : Who × ℕ) → AllLack q → 1 ≤ e.1 → AllLack (q ++ e ∷ [])
lacking-append [] e all some = (some, tt)
lacking-append (d ∷ q) e all some = (all.0, lacking-append q e all.1 some)

pub lacking-debt : (q : List (Who × ℕ)) (n : ℕ) → AllLack q → AllLack (with_debt q n)
lacking-debt q n all = elim (n == 0) as (λ b. (n == 0) ≡ b → AllLack (cond b q ((Debt, n) ∷ q))) [
  | true ↦ λ e. all
  | false ↦ λ e. (let some : 1 ≤ n = grind (arith, nat_tests) in some, all)
] refl

-- ---- debts stand first
pub no_debt-after : (q : List (Who × ℕ)) (before n : ℕ) → HasNoDebt q → HasNoDebt (lacks_after before q n)
no_debt-after [] before n none = tt
no_debt-after ((Waiter f, k) ∷ q) before n none = no_debt-after q (before + k) n none
no_debt-after ((Debt, k) ∷ q) before n none = none

first-after : (q : List (Who × ℕ)) (before n : ℕ) → HasDebtsFirst q → HasDebtsFirst (lacks_after before q n)
first-after [] before n first = tt
first-after ((Waiter f, k) ∷ q) before n first = no_debt-after q (before + k) n first
first-after ((Debt, k) ∷ q) before n first = first-after q (before + k) n first

pub no_debt-filter : (p : Who × ℕ → Bool) (q : List (Who × ℕ)) → HasNoDebt q → HasNoDebt (filter {X = Who × ℕ} p q)
no_debt-filter p [] none = tt
no_debt-filter p ((Waiter f, k) ∷ q) none = elim (p (Waiter f, k))
    as (λ b. HasNoDebt (cond b ((Waiter f, k) ∷ filter {X = Who × ℕ} p q) (filter {X = Who × ℕ} p q))) [
      | true ↦ no_debt-filter p q none
      | false ↦ no_debt-filter p q none
    ]
no_debt-filter p ((Debt, k) ∷ q) none = absurd none

first-none : (q : List (Who × ℕ)) → HasNoDebt q → HasDebtsFirst q
first-none [] none = tt
first-none ((Waiter f, k) ∷ q) none = none
first-none ((Debt, k) ∷ q) none = absurd none

pub first-filter : (p : Who × ℕ → Bool) (q : List (Who × ℕ)) → HasDebtsFirst q → HasDebtsFirst (filter {X = Who × ℕ} p q)
first-filter p [] first = tt
first-filter p ((Waiter f, k) ∷ q) first = elim (p (Waiter f, k))
    as (λ b. HasDebtsFirst (cond b ((Waiter f, k) ∷ filter {X = Who × ℕ} p q) (filter {X = Who × ℕ} p q))) [
      | true ↦ no_debt-filter p q first
      | false ↦ first-none (filter {X = Who × ℕ} p q) (no_debt-filter p q first)
    ]
first-filter p ((Debt, k) ∷ q) first = elim (p (Debt, k)) as (λ b. HasDebtsFirst (cond b ((Debt, k) ∷ filter {X = Who × ℕ} p q) (filter {X = Who × ℕ} p q))) [
  | true ↦ first-filter p q first
  | false ↦ first-filter p q first
]

pub first-pour : (q : List (Who × ℕ)) (n : ℕ) → HasDebtsFirst q → HasDebtsFirst (waiting_after q n)
first-pour q n first = first-filter (λ e. nat_lt 0 e.1) (lacks_after 0 q n) (first-after q 0 n first)

no_debt-append : (q : List (Who × ℕ)) (f n : ℕ) → HasNoDebt q → HasNoDebt (q ++ (Waiter f, n) ∷ [])
no_debt-append [] f n none = tt
no_debt-append ((Waiter g, k) ∷ q) f n none = no_debt-append q f n none
no_debt-append ((Debt, k) ∷ q) f n none = none

pub first-append : (q : List (Who × ℕ)) (f n : ℕ) → HasDebtsFirst q → HasDebtsFirst (q ++ (Waiter f, n) ∷ [])
first-append [] f n first = tt
first-append ((Waiter g, k) ∷ q) f n first = no_debt-append q f n first
first-append ((Debt, k) ∷ q) f n first = first-append q f n first

pub first-debt : (q : List (Who × ℕ)) (n : ℕ) → HasDebtsFirst q → HasDebtsFirst (with_debt q n)
first-debt q n first = elim (n == 0) as (λ b. HasDebtsFirst (cond b q ((Debt, n) ∷ q))) [ true ↦ first | false ↦ first ]

-- ---- a new debt
pub lacks-debt : (q : List (Who × ℕ)) (n : ℕ) → lacks (with_debt q n) ≡ lacks q + n
lacks-debt q n = elim (n == 0) as (λ b. (n == 0) ≡ b → lacks (cond b q ((Debt, n) ∷ q)) ≡ lacks q + n) [
  | true ↦ λ e. let none : n ≡ 0 = eqb-true n 0 e in omega arith
  | false ↦ λ e. omega (arith, sum_by-cons {X = Who × ℕ} (λ d. d.1) (Debt, n) q)
] refl

pub owed-debt : (q : List (Who × ℕ)) (n : ℕ) → debts (with_debt q n) ≡ debts q + n
owed-debt q n = elim (n == 0) as (λ b. (n == 0) ≡ b → debts (cond b q ((Debt, n) ∷ q)) ≡ debts q + n) [
  | true ↦ λ e. let none : n ≡ 0 = eqb-true n 0 e in omega arith
  | false ↦ λ e. omega (arith, sum_by-cons {X = Who × ℕ} (λ d. debt_of d.0 d.1) (Debt, n) q)
] refl

pub count-debt : (q : List (Who × ℕ)) (n f : ℕ) → count (with_debt q n) f ≡ count q f
count-debt q n f = elim (n == 0) as (λ b. count (cond b q ((Debt, n) ∷ q)) f ≡ count q f)
    [ true ↦ refl | false ↦ sum_by-cons {X = Who × ℕ} (λ d. cond (names d.0 f) 1 0) (Debt, n) q ∙ (omega arith) ]

pub lack-debt : (q : List (Who × ℕ)) (n f : ℕ) → lack_of (with_debt q n) f ≤ lack_of q f
lack-debt q n f = elim (n == 0) as (λ b. lack_of (cond b q ((Debt, n) ∷ q)) f ≤ lack_of q f)
    [ true ↦ omega arith | false ↦ omega (arith, sum_by-cons {X = Who × ℕ} (λ d. cond (names d.0 f) d.1 0) (Debt, n) q) ]

-- ---- more permits than all lack leave nobody waiting
none_lack : (q : List (Who × ℕ)) (before n : ℕ) → before + lacks q ≤ n → still (lacks_after before q n) ≡ []
none_lack [] before n enough = refl
none_lack (e ∷ q) before n enough =
    let sums = sum_by-cons {X = Who × ℕ} (λ d. d.1) e q in
    let rest : (before + e.1) + lacks q ≤ n = omega arith in
    let none : min e.1 (before + e.1 - n) ≡ 0 = omega arith in
    let no : nat_lt 0 (min e.1 (before + e.1 - n)) ≡ false = ap (nat_lt 0) none in
    ap (λ b. cond b ((e.0, min e.1 (before + e.1 - n)) ∷ still (lacks_after (before + e.1) q n)) (still (lacks_after (before + e.1) q n))) no
    ∙ none_lack q (before + e.1) n rest

pub idle-pour : (q : List (Who × ℕ)) (n : ℕ) → lacks q ≤ n → waiting_after q n ≡ []
idle-pour q n enough = none_lack q 0 n (omega arith)
