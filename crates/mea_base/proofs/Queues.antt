-- what a pour does to a queue, and pours under other names for those who wait
use Rattle.std.proofs.Common.{◌≡◌, ℕ, ◌+◌, ◌-◌, ◌==◌, Bool, true, false, cond, List, [], ◌∷◌, map, filter, min, nat_lt, refl, ap, sym, ◌∙◌, arith}
use Rattle.std.specs.List.{AllByRecursion}
use Rattle.std.proofs.lemmas.List.Sums.{sum_by-cons}
use Rattle.std.proofs.lemmas.Bool.Decides.{nat_tests}
use Rattle.mea_base.specs.Queue.{lacks, lacks_after, waiting_after, granted_in}

module _ {A : Type 0} where
  lacks-lacks_after : (q : List (A × ℕ)) (before n : ℕ) → lacks (lacks_after before q n) + (n - before) ≡ lacks q + (n - (before + lacks q))
  lacks-lacks_after [] before n = omega arith
  lacks-lacks_after (e ∷ q) before n =
      let head : min e.1 (before + e.1 - n) + (n - before) ≡ e.1 + (n - (before + e.1)) = grind (arith, nat_tests) in
      omega (
        arith,
        head,
        lacks-lacks_after q (before + e.1) n,
        sum_by-cons {X = A × ℕ} (λ d. d.1) e q,
        sum_by-cons {X = A × ℕ} (λ d. d.1)
            (e.0, min e.1 (before + e.1 - n)) (lacks_after (before + e.1) q n),
      )

  lacks-filter : (q : List (A × ℕ)) → lacks (filter {X = A × ℕ} (λ e. nat_lt 0 e.1) q) ≡ lacks q
  lacks-filter [] = refl
  lacks-filter (e ∷ q) = elim (nat_lt 0 e.1)
      as (λ b. nat_lt 0 e.1 ≡ b → lacks (cond b (e ∷ filter {X = A × ℕ} (λ d. nat_lt 0 d.1) q) (filter {X = A × ℕ} (λ d. nat_lt 0 d.1) q)) ≡ lacks (e ∷ q)) [
        | true ↦ λ h. omega (
          arith,
          lacks-filter q,
          sum_by-cons {X = A × ℕ} (λ d. d.1) e q,
          sum_by-cons {X = A × ℕ} (λ d. d.1) e
              (filter {X = A × ℕ} (λ d. nat_lt 0 d.1) q),
        )
        | false ↦ λ h. let nothing : e.1 ≡ 0 = grind (arith, nat_tests) in omega (arith, nothing, lacks-filter q, sum_by-cons {X = A × ℕ} (λ d. d.1) e q)
      ] refl

  -- what is not poured any more is what the queue took
  pub lacks-waiting_after : (q : List (A × ℕ)) (n : ℕ) → lacks (waiting_after q n) + n ≡ lacks q + (n - lacks q)
  lacks-waiting_after q n = omega (arith, lacks-filter (lacks_after 0 q n), lacks-lacks_after q 0 n)

module _ {A B : Type 0} (f : A → B) where
  -- the same lack under another name
  abbrev pub renamed : List (A × ℕ) → List (B × ℕ)
  renamed q = map (λ (e : A × ℕ). (f e.0, e.1)) q

  lacks_after-map : (q : List (A × ℕ)) (before n : ℕ) → lacks_after before (renamed q) n ≡ renamed (lacks_after before q n)
  lacks_after-map [] before n = refl
  lacks_after-map (e ∷ q) before n = ap (λ t. (f e.0, min e.1 (before + e.1 - n)) ∷ t) (lacks_after-map q (before + e.1) n)

  filter-map : (p : ℕ → Bool) (q : List (A × ℕ)) → filter {X = B × ℕ} (λ e. p e.1) (renamed q) ≡ renamed (filter {X = A × ℕ} (λ e. p e.1) q)
  filter-map p [] = refl
  filter-map p (e ∷ q) = elim (p e.1)
      as (λ b. cond b ((f e.0, e.1) ∷ filter {X = B × ℕ} (λ e. p e.1) (renamed q)) (filter {X = B × ℕ} (λ e. p e.1) (renamed q)) ≡ renamed
      (cond b (e ∷ filter {X = A × ℕ} (λ e. p e.1) q) (filter {X = A × ℕ} (λ e. p e.1) q))) [
        | true ↦ ap (λ t. (f e.0, e.1) ∷ t) (filter-map p q)
        | false ↦ filter-map p q
      ]

  map-renamed : (q : List (A × ℕ)) → map {A = B × ℕ} (λ e. e.0) (renamed q) ≡ map f (map {A = A × ℕ} (λ e. e.0) q)
  map-renamed [] = refl
  map-renamed (e ∷ q) = ap (λ t. f e.0 ∷ t) (map-renamed q)

  pub waiting_after-map : (q : List (A × ℕ)) (n : ℕ) → waiting_after (renamed q) n ≡ renamed (waiting_after q n)
  waiting_after-map q n = ap (filter {X = B × ℕ} (λ e. nat_lt 0 e.1)) (lacks_after-map q 0 n) ∙ filter-map (λ k. nat_lt 0 k) (lacks_after 0 q n)

  pub granted_in-map : (q : List (A × ℕ)) (n : ℕ) → granted_in (renamed q) n ≡ map f (granted_in q n)
  granted_in-map q n = ap (λ t. map {A = B × ℕ} (λ e. e.0) (filter {X = B × ℕ} (λ e. e.1 == 0) t)) (lacks_after-map q 0 n)
      ∙ ap (map {A = B × ℕ} (λ e. e.0)) (filter-map (λ k. k == 0) (lacks_after 0 q n)) ∙ map-renamed (filter {X = A × ℕ} (λ e. e.1 == 0) (lacks_after 0 q n))

  pub lacks-map : (q : List (A × ℕ)) → lacks (renamed q) ≡ lacks q
  lacks-map [] = refl
  lacks-map (e ∷ q) = sum_by-cons {X = B × ℕ} (λ x. x.1) (f e.0, e.1) (renamed q) ∙ ap (λ k. e.1 + k) (lacks-map q)
      ∙ sym (sum_by-cons {X = A × ℕ} (λ x. x.1) e q)

-- what holds of each who waits holds of each who is granted, and of each who still waits
module _ {A : Type 0} (P : A → Type 0) where
  lacks_after_keeps : (q : List (A × ℕ)) (before n : ℕ) → AllByRecursion {X = A × ℕ} (λ e. P e.0) q
      → AllByRecursion {X = A × ℕ} (λ e. P e.0) (lacks_after before q n)
  lacks_after_keeps [] before n h = h
  lacks_after_keeps (e ∷ q) before n h = (h.0, lacks_after_keeps q (before + e.1) n h.1)

  whole_keeps : (q : List (A × ℕ)) → AllByRecursion {X = A × ℕ} (λ e. P e.0) q
      → AllByRecursion P (map {A = A × ℕ} (λ e. e.0) (filter {X = A × ℕ} (λ e. e.1 == 0) q))
  whole_keeps [] h = h
  whole_keeps (e ∷ q) h = elim (e.1 == 0)
      as (λ b. AllByRecursion P (map {A = A × ℕ} (λ e. e.0) (cond b (e ∷ filter {X = A × ℕ} (λ e. e.1 == 0) q) (filter {X = A × ℕ} (λ e. e.1 == 0) q)))) [
        | true ↦ (h.0, whole_keeps q h.1)
        | false ↦ whole_keeps q h.1
      ]

  part_keeps : (q : List (A × ℕ)) → AllByRecursion {X = A × ℕ} (λ e. P e.0) q
      → AllByRecursion {X = A × ℕ} (λ e. P e.0) (filter {X = A × ℕ} (λ e. nat_lt 0 e.1) q)
  part_keeps [] h = h
  part_keeps (e ∷ q) h = elim (nat_lt 0 e.1)
      as (λ b. AllByRecursion {X = A × ℕ} (λ e. P e.0) (cond b (e ∷ filter {X = A × ℕ} (λ e. nat_lt 0 e.1) q) (filter {X = A × ℕ} (λ e. nat_lt 0 e.1) q))) [
        | true ↦ (h.0, part_keeps q h.1)
        | false ↦ part_keeps q h.1
      ]

  pub granted_in_keeps : (q : List (A × ℕ)) (n : ℕ) → AllByRecursion {X = A × ℕ} (λ e. P e.0) q → AllByRecursion P (granted_in q n)
  granted_in_keeps q n h = whole_keeps (lacks_after 0 q n) (lacks_after_keeps q 0 n h)

  pub waiting_after_keeps : (q : List (A × ℕ)) (n : ℕ) → AllByRecursion {X = A × ℕ} (λ e. P e.0) q → AllByRecursion {X = A × ℕ} (λ e. P e.0) (waiting_after q n)
  waiting_after_keeps q n h = part_keeps (lacks_after 0 q n) (lacks_after_keeps q 0 n h)
